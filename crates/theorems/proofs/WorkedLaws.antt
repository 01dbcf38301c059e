-- The table of worked runs, by computation. Assumes nothing.
use mathlib.Core.Path.{refl}
use native.Mathlib.Decide.{ℕ_discrete, dec_lt}
use Rattle.limits.specs.Lists.{lowest_from}
use Rattle.limits.specs.Operations.{puts_in}
use Rattle.limits.specs.Refusals.{input_refusal}
use Rattle.order.specs.Order.{merge}
use Rattle.machine.specs.Bench.{start, played, step, own_from, resting}
use Rattle.machine.specs.Counts.{counted}
use Rattle.machine.specs.Shown.{unfound}
use Rattle.linear.specs.Decide.{not20?, not21?, not22?, not23?, not24?}
use Rattle.linear.specs.Verdict.{verdict}
use Rattle.judge.specs.Decide.{stands?}
use Rattle.judge.specs.Judge.{judge_refusal, judged}
use Rattle.theorems.specs.Worked.{Worked}

pub worked : Worked
unfolding input_refusal puts_in played start step own_from resting unfound merge counted ℕ_discrete dec_lt lowest_from verdict judged judge_refusal stands? not20? not21? not22? not23? not24?
worked = record { a = refl; b = refl; c = refl; d = refl; e = refl; f = refl; g = refl; h = refl; i_0 = refl; i_24 = refl; i_22 = refl; i_23 = refl; i_20 = refl }
