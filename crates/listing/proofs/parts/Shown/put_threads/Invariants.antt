-- The lines of the first threads are put.
use Rattle.listing.specs.Twins.{thread_at}
use Rattle.listing.proofs.LoopLaws.{Printed}
use Rattle.listing.proofs.parts.Shown.put_threads.Given as goal

abbrev pub invariant-loop-t : goal.invariant-loop-t
invariant-loop-t l = Printed l.fn.page (thread_at l.self.records.now) 48 l.page l.t
