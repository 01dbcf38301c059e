use Rattle.numerals.proofs.PrintLaws.{wrote_then}
use Rattle.lines.proofs.put_line.Goals as goal

pub returns : goal.returns
returns c = wrote_then c.put_bytes.ensures c.end_number.ensures
