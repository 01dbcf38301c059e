-- `judge::play::is_played` meets its contract: the queue has room, since no operation stands twice; a put and a take leave the rest. Assumes nothing.
use Rattle.std.proofs.Common.{get_or, pos, sym, ◌∙◌, arith, rules}
use Rattle.limits.proofs.LimitsLaws.{back32}
use Rattle.judge.proofs.PlayLaws.{put_leaves, take_leaves}
use Rattle.judge.proofs.ConditionLaws.{order_few}
use Rattle.judge.proofs.play.is_played.Goals as goal
use Rattle.judge.proofs.play.is_played.Goals.{in-Put, in-Take+in-Some+else-not-may_get}

pub push-requires : goal.push-requires
push-requires c = omega (arith, order_few _ _ c.requires.1, c.requires.0.few)

pub loop-o-preserved : goal.loop-o-preserved
loop-o-preserved c = elim c.match-of.branch [
  | in-Put w ↦
      let x = get_or c.args.table.now.sample.now (get_or c.args.order.now c.loop-o.o-index 0) (pos 0) in
      put_leaves _ _ _ _ _ c.loop-o-test.true _ _ c.loop-o.invariant (sym c.of.ensures ∙ w.in-Put.is) (w.queue-is ∙ rw (back32 x (search rules)) at w.push.ensures)
  | in-Take+in-Some+else-not-may_get w ↦ rw w.queue-is (grind (arith, take_leaves))
]
