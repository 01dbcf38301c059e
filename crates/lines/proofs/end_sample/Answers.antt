use Rattle.numerals.proofs.PrintLaws.{wrote_then}
use Rattle.numerals.proofs.SampleLaws.{wrote_sample}
use Rattle.lines.proofs.end_sample.Goals as goal

pub returns : goal.returns
returns c = wrote_then (wrote_sample c.args.x c.ranges.x c.put_sample.ensures) c.put_byte.ensures
