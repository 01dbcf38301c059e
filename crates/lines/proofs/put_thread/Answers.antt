-- A thread's number and its phase, put one after the other.
use Rattle.std.proofs.Common.{arith}
use Rattle.numerals.proofs.PrintLaws.{wrote_then, wrote_as}
use Rattle.lines.proofs.LineLaws.{thread_parts}
use Rattle.lines.proofs.LengthLaws.{thread_low}
use Rattle.lines.proofs.put_thread.Goals as goal

pub returns-clause-put : goal.returns-clause-put
returns-clause-put c =
    wrote_as (thread_parts c.args.t c.args.p)
    (wrote_then c.put_bytes.ensures (wrote_then c.put_number.ensures (wrote_then c.put_byte.ensures c.put_phase.ensures.put)))

pub returns-clause-short : goal.returns-clause-short
returns-clause-short c = thread_low c.args.t c.args.p (omega (arith, c.ranges)) c.put_phase.ensures.short
