-- The plan from o on, with one operation more in front.
use Rattle.std.proofs.Common.{ap, ◌∙◌, arith, ◌-◌, get_or}
use Rattle.stepping.specs.declared.plan.Plan.{Plan}
use Rattle.stepping.specs.PlanTwin.{plan_one, plan_from}
use Rattle.stepping.proofs.TwinLaws.{plan_next, plan_end}
use Rattle.stepping.proofs.plan.Plan.new.Goals as goal

pub loop-o-init : goal.loop-o-init
unfolding plan_from
loop-o-init c = plan_end c.args.thread.now

pub loop-o-preserved : goal.loop-o-preserved
loop-o-preserved c =
    let thread = c.args.thread.now in
    let o = c.loop-o.o in
    c.add.ensures
    ∙ ap (λ (q : Plan). plan_one q (get_or thread (o - 1) 0) (o - 1)) c.loop-o.invariant
    ∙ plan_next thread o (omega arith) (omega arith)
