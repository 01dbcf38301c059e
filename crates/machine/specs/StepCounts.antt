-- Nothing in this file has to be believed: the counts by what a step finds, where the meaning (Counts.antt) has them by the phases that a step leads from
-- and to. The code counts as it is told here; `CountedLaws` says that both are the same.
--   over f     the sum of f over the steps of a schedule, each at the bench as it is before that step
--   idle_step … what one step counts for: 1 or 0
--   filled     the number of filled slots
use Rattle.std.specs.Prelude.{cond, List, [], ◌∷◌, ℕ, ◌+◌, eqb, get_or}
use Rattle.limits.specs.Operations.{Table}
use Rattle.machine.specs.declared.Phase.{Phase}
use Rattle.machine.specs.declared.Phase.TheVariants.{Rest, CalledPut, Reserved, Stored, CalledTake, Scanning, Holding}
use Rattle.machine.specs.Bench.{Bench, Slot, Empty, Filled, worker_at, step}
use Rattle.machine.specs.Shown.{phase_told, mark}

abbrev pub phase_code : Phase → ℕ
phase_code p = (phase_told p).0

unfoldable pub filled : List Slot → ℕ
filled [] = 0
filled (s ∷ slots) = mark s + filled slots

unfoldable pub over : (Bench → ℕ → ℕ) → Table → Bench → List ℕ → ℕ
over f T B [] = 0
over f T B (t ∷ schedule) = f B t + over f T (step T B t) schedule

abbrev pub none_left : List ℕ → ℕ
none_left [] = 1
none_left (o ∷ todo) = 0

-- a step from phase 0 with no operation left
abbrev pub idle_in : List ℕ → Phase → ℕ
idle_in todo p = cond (eqb (phase_code p) 0) (none_left todo) 0

-- a step from phase 2
abbrev pub store_in : Phase → ℕ
store_in p = cond (eqb (phase_code p) 2) 1 0

-- of a step from phase 5, f of its slot number, its end and what the slot holds
abbrev pub scan_in : (ℕ → ℕ → Slot → ℕ) → List Slot → Phase → ℕ
scan_in f slots Rest = 0
scan_in f slots CalledPut = 0
scan_in f slots (Reserved i) = 0
scan_in f slots Stored = 0
scan_in f slots CalledTake = 0
scan_in f slots (Scanning j b) = f j b (get_or slots j Empty)
scan_in f slots (Holding x) = 0

-- the swap met a sample
abbrev pub met : Slot → ℕ
met Empty = 0
met (Filled x) = 1

-- the swap met nothing at slot b − 1
abbrev pub missed_last : ℕ → ℕ → Slot → ℕ
missed_last j b Empty = cond (eqb (j + 1) b) 1 0
missed_last j b (Filled x) = 0

abbrev pub idle_step : Bench → ℕ → ℕ
idle_step B t = idle_in (worker_at B t).todo (worker_at B t).phase

abbrev pub store_step : Bench → ℕ → ℕ
store_step B t = store_in (worker_at B t).phase

abbrev pub swap_step : Bench → ℕ → ℕ
swap_step B t = scan_in (λ j b s. 1) B.slots (worker_at B t).phase

abbrev pub find_step : Bench → ℕ → ℕ
find_step B t = scan_in (λ j b s. met s) B.slots (worker_at B t).phase

abbrev pub fruitless_step : Bench → ℕ → ℕ
fruitless_step B t = scan_in missed_last B.slots (worker_at B t).phase
