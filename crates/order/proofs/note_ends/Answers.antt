-- `order::note_ends` meets its contract: a table of zeros notes an empty row. Assumes nothing.
use Rattle.order.proofs.NotingLaws.{ends_start}
use Rattle.order.proofs.note_ends.Goals as goal

pub loop-s-init : goal.loop-s-init
loop-s-init c = ends_start c.args.row.now
