-- A slot whose mark is 0 is empty, any other holds its sample.
use Rattle.std.proofs.Common.{ap, ◌∙◌, w32, ℤ}
use mir.ValLaws.{to_z-of_z}
use Rattle.machine.specs.Bench.{Filled}
use Rattle.numerals.proofs.PrintLaws.{wrote_then, wrote_as}
use Rattle.lines.specs.Lines.{slot_line}
use Rattle.lines.proofs.LineLaws.{unmarked_line, marked_line}
use Rattle.lines.proofs.put_slot.Goals as goal

pub returns-then-mark-eq0 : goal.returns-then-mark-eq0
returns-then-mark-eq0 c =
    let a = c.args in
    wrote_as (unmarked_line a.i a.mark a.x c.if-mark-eq0.true)
    (wrote_then c.put_bytes.ensures (wrote_then c.put_number.ensures c.put_bytes-then-mark-eq0.ensures))

pub returns-else-mark-eq0 : goal.returns-else-mark-eq0
returns-else-mark-eq0 c =
    let a = c.args in
    wrote_as (ap (λ (z : ℤ). slot_line a.i (Filled z)) (to_z-of_z w32 a.x c.ranges.x) ∙ marked_line a.i a.mark a.x c.if-mark-eq0.false)
    (wrote_then c.put_bytes.ensures (wrote_then c.put_number.ensures (wrote_then c.put_byte.ensures c.end_sample.ensures)))
