-- The lines of the first slots are put.
use Rattle.listing.specs.Twins.{slot_at}
use Rattle.listing.proofs.LoopLaws.{Printed}
use Rattle.listing.proofs.parts.Shown.put_slots.Given as goal

abbrev pub invariant-loop-i : goal.invariant-loop-i
invariant-loop-i l = Printed l.fn.page (slot_at l.self.marks.now l.self.held.now) 20 l.page l.i
