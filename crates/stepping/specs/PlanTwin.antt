-- Nothing in this file has to be believed: twins of the functions of `plan`, on its own struct.
--   plan_one   a plan with operation o, of thread t, put in front
--   plan_from  the plan of a table's threads from operation o on
use Rattle.std.specs.Prelude.{List, [], ◌∷◌, ℕ, suc, Some, None, get_or, set, replicate}
use Rattle.stepping.specs.declared.plan.Plan.{Plan}

abbrev pub plan_one : Plan → ℕ → ℕ → Plan
plan_one p t o = record { first = set p.first t (Some o); next = set p.next o (get_or p.first t None) }

unfoldable pub plan_from : ℕ → List ℕ → Plan
plan_from o [] = record { first = replicate 16 None; next = replicate 128 None }
plan_from o (t ∷ thread) = plan_one (plan_from (suc o) thread) t o
