-- The six counts (document 01, 'One step of one thread'), defined over the schedule's steps by the phases that a step leads from and to. Assumes nothing.
--   code_at     the code of a thread's phase
--   counted f   how many steps of a schedule f counts, by the codes of the thread's phase before the step and after it
--   is_idle ..  which steps the five counts count. The sixth, steps, is the schedule's length
use Rattle.std.specs.Prelude.{Bool, cond, ◌&&◌, List, [], ◌∷◌, ℕ, ◌+◌, eqb}
use Rattle.limits.specs.Operations.{Table}
use Rattle.machine.specs.Bench.{Bench, worker_at, step}
use Rattle.machine.specs.Shown.{phase_told}

abbrev pub code_at : Bench → ℕ → ℕ
code_at B t = (phase_told (worker_at B t).phase).0

unfoldable pub counted : (ℕ → ℕ → Bool) → Table → Bench → List ℕ → ℕ
counted f T B [] = 0
counted f T B (t ∷ schedule) = cond (f (code_at B t) (code_at (step T B t) t)) 1 0 + counted f T (step T B t) schedule

-- from rest a step calls the next operation; an idle one stays at rest
abbrev pub is_idle : ℕ → ℕ → Bool
is_idle from to = eqb from 0 && eqb to 0

abbrev pub is_store : ℕ → ℕ → Bool
is_store from to = eqb from 2

abbrev pub is_swap : ℕ → ℕ → Bool
is_swap from to = eqb from 5

-- a swap that met a sample leads to phase 6
abbrev pub is_find : ℕ → ℕ → Bool
is_find from to = eqb from 5 && eqb to 6

-- one that met nothing at slot b − 1 leads to phase 4
abbrev pub is_fruitless : ℕ → ℕ → Bool
is_fruitless from to = eqb from 5 && eqb to 4
