use Rattle.listing.specs.Twins.{thread_at}
use Rattle.listing.proofs.LoopLaws.{printed_first, printed_next}
use Rattle.listing.proofs.parts.Shown.put_threads.Goals as goal

pub loop-t-init : goal.loop-t-init
loop-t-init c = printed_first c.args.page.now (thread_at c.args.self.now.records.now) 48

pub loop-t-preserved : goal.loop-t-preserved
loop-t-preserved c = printed_next (thread_at c.args.self.now.records.now) c.loop-t.invariant c.put_thread.ensures.put c.put_thread.ensures.short
