-- What is set at i is what the next slot holds.
use Rattle.std.proofs.Common.{refl, arith, pos}
use Rattle.limits.proofs.LimitsLaws.{back32}
use Rattle.run.specs.FinalTwin.{tab, held_at}
use Rattle.run.proofs.FinalLaws.{tab_next}
use Rattle.run.proofs.finish.show_held.Goals as goal

pub loop-i-init : goal.loop-i-init
unfolding tab
loop-i-init c = refl

pub loop-i-preserved : goal.loop-i-preserved
loop-i-preserved c =
    let state = c.args.state.now in
    let f = held_at c.args.sample.now state.marks state.owners in
    rw (back32 c.held_at.result c.held_at.type_inv, c.held_at.ensures, c.loop-i.invariant) (tab_next f c.args.out.now (pos 0) c.loop-i.i (omega arith))
