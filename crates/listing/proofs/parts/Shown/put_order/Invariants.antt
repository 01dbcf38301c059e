-- The lines of the first entries are put.
use Rattle.listing.specs.Twins.{order_at}
use Rattle.listing.proofs.LoopLaws.{Printed}
use Rattle.listing.proofs.parts.Shown.put_order.Given as goal

abbrev pub invariant-loop-operation : goal.invariant-loop-operation
invariant-loop-operation l = Printed l.fn.page (order_at l.self.order.now) 10 l.page l.operation-index
