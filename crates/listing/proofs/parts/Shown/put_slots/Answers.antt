use Rattle.std.proofs.Common.{arith, rules, ap, get_or, pos, w32, FitsSigned}
use mir.ValLaws.{to_z-of_z}
use Rattle.numerals.proofs.PrintLaws.{wrote_as}
use Rattle.lines.specs.Twins.{slot_by}
use Rattle.lines.proofs.LengthLaws.{slot_low}
use Rattle.listing.specs.Twins.{slot_at}
use Rattle.listing.proofs.LoopLaws.{printed_first, printed_next}
use Rattle.listing.proofs.parts.Shown.put_slots.Goals as goal

pub loop-i-init : goal.loop-i-init
loop-i-init c = printed_first c.args.page.now (slot_at c.args.self.now.marks.now c.args.self.now.held.now) 20

pub loop-i-preserved : goal.loop-i-preserved
loop-i-preserved c =
    let s = c.args.self.now in
    let i = c.loop-i.i in
    let m = get_or s.marks.now i 0 in
    let x = get_or s.held.now i (pos 0) in
    let f : FitsSigned w32 x = search rules in
    printed_next (slot_at s.marks.now s.held.now) c.loop-i.invariant (wrote_as (ap (slot_by i m) (to_z-of_z w32 x f)) c.put_slot.ensures)
    (slot_low i m x (omega (arith, s.few_slots)) f)
