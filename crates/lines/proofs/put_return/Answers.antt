-- A put's return has no sample, a take's has one.
use Rattle.std.proofs.Common.{ap, sym}
use Rattle.limits.specs.declared.Kind.{Kind}
use Rattle.numerals.proofs.PrintLaws.{wrote_then, wrote_as}
use Rattle.numerals.proofs.SampleLaws.{wrote_sample}
use Rattle.lines.specs.Twins.{return_by}
use Rattle.lines.proofs.put_return.Goals as goal
use Rattle.lines.proofs.put_return.Goals.{in-Take, in_default}

pub returns : goal.returns
returns c =
    let a = c.args in
    elim c.match-kind.branch [
      | in-Take w ↦
          wrote_as (ap (λ (k : Kind). return_by a.o k a.x) (sym w.in-Take.is))
          (wrote_then c.put_bytes.ensures (wrote_then c.put_number.ensures
          (wrote_then w.put_byte.ensures (wrote_then (wrote_sample a.x c.ranges.x w.put_sample.ensures) (rw w.page-is at c.put_byte-2.ensures)))))
      | in_default w ↦
          wrote_as (ap (λ (k : Kind). return_by a.o k a.x) (sym w.in_default.is))
          (wrote_then c.put_bytes.ensures (wrote_then c.put_number.ensures (rw w.page-is at c.put_byte-2.ensures)))
    ]
