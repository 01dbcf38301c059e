-- Three texts put one after another are the line.
use Rattle.numerals.proofs.PrintLaws.{wrote_then}
use Rattle.writer.proofs.write_pair.Goals as goal

pub returns : goal.returns
returns c = wrote_then c.put_bytes.ensures (wrote_then c.put_number.ensures c.put_byte.ensures)
