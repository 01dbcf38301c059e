-- The invariant: the plan of the operations passed, from the last to the first.
use Rattle.std.proofs.Common.{◌≡◌, drop}
use Rattle.stepping.specs.PlanTwin.{plan_from}
use Rattle.stepping.proofs.plan.Plan.new.Given as goal

abbrev pub invariant-loop-o : goal.invariant-loop-o
invariant-loop-o l = l.plan ≡ plan_from l.o (drop l.o l.thread)
