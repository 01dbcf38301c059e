use Rattle.numerals.proofs.PrintLaws.{wrote_then, wrote_as}
use Rattle.numerals.proofs.SampleLaws.{sample_below, sample_above}
use Rattle.numerals.proofs.Page.put_sample.Goals as goal
use Rattle.numerals.proofs.Page.put_sample.Goals.{then-z-lt0, else-z-lt0}

pub returns : goal.returns
returns c =
    let z = c.args.z in
    let m = c.unsigned_abs in
    elim c.if-z-lt0.branch [
      | then-z-lt0 w ↦
          wrote_as (sample_below z m.result c.ranges.z w.if-z-lt0.true m.ensures.value) (wrote_then w.put_byte.ensures (rw w.self-is at c.put_number.ensures))
      | else-z-lt0 w ↦
          wrote_as (sample_above z m.result c.ranges.z w.if-z-lt0.false m.ensures.value) (rw w.self-is at c.put_number.ensures)
    ]
