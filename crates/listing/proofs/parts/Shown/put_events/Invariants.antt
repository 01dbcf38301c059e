-- The lines of the first events are put.
use Rattle.std.proofs.Common.{length}
use Rattle.listing.specs.Twins.{event_at}
use Rattle.listing.proofs.LoopLaws.{Printed}
use Rattle.listing.proofs.parts.Shown.put_events.Given as goal

abbrev pub invariant-loop-code : goal.invariant-loop-code
invariant-loop-code l = Printed l.fn.page (event_at l.self.kind.now l.self.codes.now l.self.values.now) 31 l.page (length l.yielded)
