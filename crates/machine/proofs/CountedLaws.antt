-- The counts by what a step finds, as the code counts, are those by the phases that a step leads from and to (document 01, 'One step of one thread'). Assumes nothing.
--   Alike        one step counts the same both ways, for each of the five counts
--   alike_step   every step of a run does
--   …-counted    and so every schedule
use mathlib.Core.Path.{◌≡◌, refl}
use mathlib.Core.Bool.{Bool, true, false, cond}
use mathlib.Core.List.{List, [], ◌∷◌}
use Prim.Native.Nat.{ℕ, zero, suc, ◌+◌, ◌<◌}
use native.Mathlib.Omega.{arith}
use lib.Dec.{ltb}
use lib.ListN.{get_or, set}
use lib.Seq.{get_or-set_same}
use borrow.Author.Tests.{ltb-true, ltb-false, eq-eqb, ne_eqb}
use Rattle.limits.specs.Lists.{All}
use Rattle.limits.specs.declared.Kind.{Kind}
use Rattle.limits.specs.declared.Kind.TheVariants.{Put as putting, Take as taking}
use Rattle.limits.specs.Operations.{Table}
use Rattle.machine.specs.declared.Phase.{Phase}
use Rattle.machine.specs.declared.Phase.TheVariants.{Rest, CalledPut, Reserved, Stored, CalledTake, Scanning, Holding}
use Rattle.machine.specs.Bench.{Slot, Empty, Filled, Worker, Bench, back, idler, worker_at, in_phase, first_phase, calls, pass, onward, swaps, step_from, step, start}
use Rattle.machine.specs.Counts.{code_at, counted, is_idle, is_store, is_swap, is_find, is_fruitless}
use Rattle.machine.specs.StepCounts.{phase_code, over, idle_in, store_in, scan_in, met, missed_last, idle_step, store_step, swap_step, find_step, fruitless_step}
use Rattle.machine.proofs.CountLaws.{PutsAtMost}
use Rattle.machine.proofs.RunLaws.{Run, run_start, run_step, workers_length, thread_scanning}

-- what a step between phases of these codes counts for
pub record Alike (idle store swap find fruitless from to : ℕ) : Type 0 where
  pub idle_alike : idle ≡ cond (is_idle from to) 1 0
  pub store_alike : store ≡ cond (is_store from to) 1 0
  pub swap_alike : swap ≡ cond (is_swap from to) 1 0
  pub find_alike : find ≡ cond (is_find from to) 1 0
  pub fruitless_alike : fruitless ≡ cond (is_fruitless from to) 1 0

-- ---- one step

alike_called : (k : Kind) → Alike 0 0 0 0 0 0 (phase_code (first_phase k))
alike_called putting = omega arith
alike_called taking = omega arith

alike_pass : (b : ℕ) → Alike 0 0 0 0 0 4 (phase_code (pass b))
alike_pass zero = omega arith
alike_pass (suc b) = omega arith

-- a pass goes on below its end, and its last slot is the one before
alike_onward : (j b : ℕ) → j < b → Alike 0 0 1 0 (missed_last j b Empty) 5 (phase_code (onward j b))
alike_onward j b low = go (ltb (j + 1) b) refl
  where
    go : (c : Bool) → ltb (j + 1) b ≡ c → Alike 0 0 1 0 (missed_last j b Empty) 5 (phase_code (cond c (Scanning (j + 1) b) CalledTake))
    go true e = rw (ne_eqb (j + 1) b (omega (arith, ltb-true (j + 1) b e))) (omega arith)
    go false e = rw (eq-eqb (j + 1) b (omega (arith, ltb-false (j + 1) b e))) (omega arith)

module _ (T : Table) (n m : ℕ) (B : Bench) (r : Run T n m B) (t : ℕ) (lt : t < n) where
  -- the thread that steps is what it is made
  placed : {idle store swap find fruitless from : ℕ} (w : Worker) → Alike idle store swap find fruitless from (phase_code w.phase)
      → Alike idle store swap find fruitless from (phase_code (get_or (set B.workers t w) t idler).phase)
  placed w a = rw (get_or-set_same B.workers t w idler (omega (arith, workers_length T n m B r))) a

  alike_calls : (todo : List ℕ) → (worker_at B t).phase ≡ Rest → Alike (idle_in todo Rest) 0 0 0 0 0 (code_at (calls T B t todo) t)
  alike_calls [] e = rw (e, code_at) (omega arith)
  alike_calls (o ∷ todo) e = placed (record { phase = first_phase (T.kind o); current = o; todo = todo }) (alike_called (T.kind o))

  alike_swaps : (j b : ℕ) → j < b → (s : Slot) → Alike 0 0 1 (met s) (missed_last j b s) 5 (code_at (swaps B t (worker_at B t) j b s) t)
  alike_swaps j b low Empty = placed (in_phase (worker_at B t) (onward j b)) (alike_onward j b low)
  alike_swaps j b low (Filled x) = placed (in_phase (worker_at B t) (Holding x)) (omega arith)

  alike_from : (p : Phase) → (worker_at B t).phase ≡ p
      → Alike (idle_in (worker_at B t).todo p) (store_in p) (scan_in (λ j b s. 1) B.slots p) (scan_in (λ j b s. met s) B.slots p) (scan_in missed_last B.slots p)
      (phase_code p) (code_at (step_from T B t (worker_at B t) p) t)
  alike_from Rest e = alike_calls (worker_at B t).todo e
  alike_from CalledPut e = placed (in_phase (worker_at B t) (Reserved (back B))) (omega arith)
  alike_from (Reserved i) e = placed (in_phase (worker_at B t) Stored) (omega arith)
  alike_from Stored e = placed (in_phase (worker_at B t) Rest) (omega arith)
  alike_from CalledTake e = placed (in_phase (worker_at B t) (pass (back B))) (alike_pass (back B))
  alike_from (Scanning j b) e = alike_swaps j b (thread_scanning T n m B r t lt j b e).0 (get_or B.slots j Empty)
  alike_from (Holding x) e = placed (in_phase (worker_at B t) Rest) (omega arith)

  pub alike_step : Alike (idle_step B t) (store_step B t) (swap_step B t) (find_step B t) (fruitless_step B t) (code_at B t) (code_at (step T B t) t)
  unfolding step
  alike_step = alike_from (worker_at B t).phase refl

-- ---- a schedule

module _ (T : Table) (n m : ℕ) (most : PutsAtMost T m) where
  -- where every step of a run counts alike, so does every schedule
  module _ (f : Bench → ℕ → ℕ) (g : ℕ → ℕ → Bool) (alike : (B : Bench) → Run T n m B → (t : ℕ) → t < n → f B t ≡ cond (g (code_at B t) (code_at (step T B t) t)) 1 0) where
    counted_from : (B : Bench) → Run T n m B → (schedule : List ℕ) → All (λ t. t < n) schedule → over f T B schedule ≡ counted g T B schedule
    unfolding over counted
    counted_from B r [] s = refl
    counted_from B r (t ∷ schedule) s = λ i. alike B r t s.0 i + counted_from (step T B t) (run_step T n m most B t s.0 r) schedule s.1 i

  module _ (schedule : List ℕ) (s : All (λ t. t < n) schedule) where
    pub idle_counted : over idle_step T (start T n m) schedule ≡ counted is_idle T (start T n m) schedule
    idle_counted = counted_from idle_step is_idle (λ B r t lt. (alike_step T n m B r t lt).idle_alike) (start T n m) (run_start T n m) schedule s

    pub stores_counted : over store_step T (start T n m) schedule ≡ counted is_store T (start T n m) schedule
    stores_counted = counted_from store_step is_store (λ B r t lt. (alike_step T n m B r t lt).store_alike) (start T n m) (run_start T n m) schedule s

    pub swaps_counted : over swap_step T (start T n m) schedule ≡ counted is_swap T (start T n m) schedule
    swaps_counted = counted_from swap_step is_swap (λ B r t lt. (alike_step T n m B r t lt).swap_alike) (start T n m) (run_start T n m) schedule s

    pub finds_counted : over find_step T (start T n m) schedule ≡ counted is_find T (start T n m) schedule
    finds_counted = counted_from find_step is_find (λ B r t lt. (alike_step T n m B r t lt).find_alike) (start T n m) (run_start T n m) schedule s

    pub fruitless_counted : over fruitless_step T (start T n m) schedule ≡ counted is_fruitless T (start T n m) schedule
    fruitless_counted = counted_from fruitless_step is_fruitless (λ B r t lt. (alike_step T n m B r t lt).fruitless_alike) (start T n m) (run_start T n m) schedule s
