use Rattle.std.proofs.Common.{rules, get_or}
use Rattle.listing.specs.Twins.{order_at}
use Rattle.listing.proofs.LoopLaws.{printed_first, printed_next}
use Rattle.lines.proofs.LengthLaws.{order_low}
use Rattle.listing.proofs.parts.Shown.put_order.Goals as goal

pub loop-operation-init : goal.loop-operation-init
loop-operation-init c = printed_first c.args.page.now (order_at c.args.self.now.order.now) 10

pub loop-operation-preserved : goal.loop-operation-preserved
loop-operation-preserved c =
    let entries = c.args.self.now.order.now in
    printed_next (order_at entries) c.loop-operation.invariant c.put_line.ensures (order_low (get_or entries c.loop-operation.operation-index 0) (search rules))
