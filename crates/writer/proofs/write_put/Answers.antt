-- Five texts put one after another are the line.
use Rattle.numerals.proofs.PrintLaws.{wrote_then}
use Rattle.numerals.proofs.SampleLaws.{wrote_sample}
use Rattle.writer.proofs.write_put.Goals as goal

pub returns : goal.returns
returns c =
    wrote_then (wrote_then c.put_bytes.ensures (wrote_then c.put_number.ensures (wrote_then c.put_byte.ensures (wrote_sample c.args.x c.ranges.x c.put_sample.ensures)))) c.put_byte-2.ensures
