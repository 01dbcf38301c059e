use Rattle.numerals.proofs.PrintLaws.{wrote_then}
use Rattle.lines.proofs.end_number.Goals as goal

pub returns : goal.returns
returns c = wrote_then c.put_number.ensures c.put_byte.ensures
