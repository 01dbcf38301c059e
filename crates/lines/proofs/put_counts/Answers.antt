-- Six lines put one after the other.
use Rattle.std.proofs.Common.{rules}
use Rattle.numerals.proofs.PrintLaws.{wrote_then}
use Rattle.lines.proofs.LengthLaws.{counts_low}
use Rattle.lines.proofs.put_counts.Goals as goal

pub returns-clause-put : goal.returns-clause-put
returns-clause-put c =
    wrote_then c.put_line.ensures (wrote_then c.put_line-2.ensures (wrote_then c.put_line-3.ensures
    (wrote_then c.put_line-4.ensures (wrote_then c.put_line-5.ensures c.put_line-6.ensures))))

pub returns-clause-short : goal.returns-clause-short
returns-clause-short c = counts_low c.args.s (search (rules, c.well_formed.1.0))
