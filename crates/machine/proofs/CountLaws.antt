-- Counting in every run: no more reservations than puts, and stores = finds + filled slots (document 01, 'One step of one thread'). Assumes nothing.
--   PutsAtMost   no list of different puts of the table is longer than m
use mathlib.Core.Path.{◌≡◌, refl, ap, subst}
use mathlib.Core.Logic.{◌≢◌, inl, inr}
use mathlib.Core.Bool.{Bool, true, false, cond}
use mathlib.Core.List.{List, [], ◌∷◌}
use Prim.Native.Nat.{ℕ, zero, suc, ◌+◌, ◌≤◌, ◌<◌}
use native.Mathlib.Nat.{zero-add, suc-add, add-suc}
use native.Mathlib.Omega.{arith}
use lib.Dec.{eqb}
use lib.IntN.{ℤ}
use lib.ListN.{length, get_or, set, replicate}
use Rattle.limits.specs.Lists.{All, Mem, Pw}
use Rattle.limits.specs.declared.Kind.TheVariants.{Put as putting, Take as taking}
use Rattle.limits.specs.Operations.{Table, kind_of, table_of, puts_in}
use Rattle.history.proofs.ListLaws.{clash, all_imp, mem_left}
use Rattle.history.proofs.PrecedenceLists.{all_snoc, mem_get_or, pw_map_to, sub_length, length_snoc}
use Rattle.order.specs.Order.{found_puts}
use Rattle.machine.specs.declared.Phase.{Phase}
use Rattle.machine.specs.declared.Phase.TheVariants.{Rest, CalledPut, Reserved, Stored, CalledTake, Scanning, Holding}
use Rattle.machine.specs.Bench.{Slot, Empty, Filled, Worker, Bench, back, worker_at, calls, swaps, step_from, step}
use Rattle.machine.specs.StepCounts.{store_in, scan_in, met, store_step, find_step, filled}
use Rattle.machine.specs.Shown.{mark}
use Rattle.machine.proofs.WorkingLaws.{WorkingAt, working_sound}
use Rattle.machine.proofs.SlotLaws.{SlottedAt}
use Rattle.machine.proofs.FindLaws.{FoundAt, found_all, found_pw}

-- ---- puts of a table

abbrev pub PutsAtMost : Table → ℕ → Type 0
PutsAtMost T m = (l : List ℕ) → Pw (λ a b. a ≢ b) l → All (λ p. (p < T.size) × (T.kind p ≡ putting)) l → length l ≤ m

-- the numbers of the puts in a list of kinds, counted from o
abbrev put_numbers : List ℕ → ℕ → List ℕ
put_numbers [] o = []
put_numbers (k ∷ kind) o = cond (eqb k 1) (o ∷ put_numbers kind (suc o)) (put_numbers kind (suc o))

length_numbers : (kind : List ℕ) (o : ℕ) → length (put_numbers kind o) ≡ puts_in kind
unfolding puts_in
length_numbers [] o = refl
length_numbers (k ∷ kind) o = go (eqb k 1) (length_numbers kind (suc o))
  where
    go : (b : Bool) → length (put_numbers kind (suc o)) ≡ puts_in kind → length (cond b (o ∷ put_numbers kind (suc o)) (put_numbers kind (suc o))) ≡ cond b (suc (puts_in kind)) (puts_in kind)
    go true e = ap suc e
    go false e = e

mem_numbers : (kind : List ℕ) (o i : ℕ) → i < length kind → kind_of (get_or kind i 0) ≡ putting → Mem (o + i) (put_numbers kind o)
mem_numbers [] o i lt e = clash (omega arith)
mem_numbers (k ∷ kind) o zero lt e = go (eqb k 1) e
  where
    go : (b : Bool) → cond b putting taking ≡ putting → Mem (o + 0) (cond b (o ∷ put_numbers kind (suc o)) (put_numbers kind (suc o)))
    go true f = inl (omega arith)
    go false f = clash (cc)
mem_numbers (k ∷ kind) o (suc i) lt e = go (eqb k 1) (rw (suc-add, ← add-suc) at (mem_numbers kind (suc o) i (omega arith) e))
  where
    go : (b : Bool) → Mem (o + suc i) (put_numbers kind (suc o)) → Mem (o + suc i) (cond b (o ∷ put_numbers kind (suc o)) (put_numbers kind (suc o)))
    go true m = inr m
    go false m = m

-- a table made of lists has as many puts as its list of kinds
pub table_puts : (thread kind : List ℕ) (sample : List ℤ) → length kind ≡ length thread → PutsAtMost (table_of thread kind sample) (puts_in kind)
table_puts thread kind sample same l once puts =
    let le = sub_length l (put_numbers kind 0) once (all_imp numbered l puts) in
    omega (arith, length_numbers kind 0)
  where
    numbered : (p : ℕ) → (p < length thread) × (kind_of (get_or kind p 0) ≡ putting) → Mem p (put_numbers kind 0)
    numbered p h = subst (λ (q : ℕ). Mem q (put_numbers kind 0)) (zero-add p) (mem_numbers kind 0 p (omega (arith, h.0)) h.1)

-- no more reservations than puts
pub back_low : (T : Table) (n m : ℕ) (B : Bench) → PutsAtMost T m → WorkingAt T n B → (k : ℕ) → SlottedAt T n k B → back B ≤ m
back_low T n m B most w k s = most B.reservations s.once (all_imp (λ p h. ((working_sound T n B.workers B.history w).small p h.1, h.0)) B.reservations s.puts)

-- ---- finds are of reserved puts

abbrev pub Within : Bench → Type 0
Within B = All (λ e. Mem e.1 B.reservations) B.finds

module _ (T : Table) (n m : ℕ) (B : Bench) (s : SlottedAt T n m B) (i : Within B) (t : ℕ) where
  within_calls : (todo : List ℕ) → Within (calls T B t todo)
  within_calls [] = i
  within_calls (o ∷ todo) = i

  within_swaps : (w : Worker) (j b : ℕ) (z : Slot) → get_or B.slots j Empty ≡ z → Within (swaps B t w j b z)
  within_swaps w j b Empty e = i
  within_swaps w j b (Filled x) e =
      all_snoc (λ d. Mem d.1 B.reservations) B.finds (w.current, get_or B.reservations j 0) i (mem_get_or B.reservations 0 j (s.held j x e).0)

  within_from : (w : Worker) (p : Phase) → Within (step_from T B t w p)
  within_from w Rest = within_calls w.todo
  within_from w CalledPut = all_imp (λ e m. mem_left B.reservations (w.current ∷ []) e.1 m) B.finds i
  within_from w (Reserved j) = i
  within_from w Stored = i
  within_from w CalledTake = i
  within_from w (Scanning j b) = within_swaps w j b (get_or B.slots j Empty) refl
  within_from w (Holding x) = i

  pub within_step : Within (step T B t)
  unfolding step
  within_step = within_from (worker_at B t) (worker_at B t).phase

length_found : (fs : List (ℕ × ℕ)) → length (found_puts fs) ≡ length fs
length_found [] = refl
length_found (f ∷ fs) = ap suc (length_found fs)

-- no more finds than reservations: each found a put of its own
pub finds_low : (T : Table) (B : Bench) → FoundAt T B → Within B → length B.finds ≤ back B
finds_low T B f i =
    let le = sub_length (found_puts B.finds) B.reservations (found_pw (λ a b. a ≢ b) B.finds (pw_map_to (λ d e h. h.1) B.finds f.apart))
    (found_all (λ p. Mem p B.reservations) B.finds i) in
    omega (arith, length_found B.finds)

-- ---- one step of the counts

-- setting a slot moves its mark
filled_set : (ss : List Slot) (j : ℕ) (z : Slot) → j < length ss → filled (set ss j z) + mark (get_or ss j Empty) ≡ filled ss + mark z
unfolding filled
filled_set [] j z lt = clash (omega arith)
filled_set (y ∷ ss) zero z lt = omega arith
filled_set (y ∷ ss) (suc j) z lt = omega (arith, filled_set ss j z (omega arith))

-- as many finds as swaps that met a sample
module _ (T : Table) (B : Bench) (t : ℕ) where
  finds_calls : (todo : List ℕ) → length (calls T B t todo).finds ≡ length B.finds + 0
  finds_calls [] = omega arith
  finds_calls (o ∷ todo) = omega arith

  finds_swaps : (w : Worker) (j b : ℕ) (z : Slot) → length (swaps B t w j b z).finds ≡ length B.finds + met z
  finds_swaps w j b Empty = omega arith
  finds_swaps w j b (Filled x) = omega (arith, length_snoc B.finds (w.current, get_or B.reservations j 0))

  finds_from : (w : Worker) (p : Phase) → length (step_from T B t w p).finds ≡ length B.finds + scan_in (λ j b z. met z) B.slots p
  finds_from w Rest = finds_calls w.todo
  finds_from w CalledPut = omega arith
  finds_from w (Reserved j) = omega arith
  finds_from w Stored = omega arith
  finds_from w CalledTake = omega arith
  finds_from w (Scanning j b) = finds_swaps w j b (get_or B.slots j Empty)
  finds_from w (Holding x) = omega arith

  pub finds_step : length (step T B t).finds ≡ length B.finds + find_step B t
  unfolding step
  finds_step = finds_from (worker_at B t) (worker_at B t).phase

-- a store fills an empty slot, a find empties a filled one, nothing else touches slots
module _ (T : Table) (n m : ℕ) (B : Bench) (s : SlottedAt T n m B) (room : back B ≤ m) (t : ℕ) (lt : t < n) where
  filled_calls : (todo : List ℕ) → filled (calls T B t todo).slots + 0 ≡ filled B.slots + 0
  filled_calls [] = refl
  filled_calls (o ∷ todo) = refl

  filled_swaps : (j b : ℕ) (z : Slot) → get_or B.slots j Empty ≡ z → filled (swaps B t (worker_at B t) j b z).slots + met z ≡ filled B.slots + 0
  filled_swaps j b Empty e = refl
  filled_swaps j b (Filled x) e =
      let f : filled (set B.slots j Empty) + 1 ≡ filled B.slots + 0 = rw e at (filled_set B.slots j Empty (omega (arith, (s.held j x e).0, s.size))) in
      f

  filled_from : (p : Phase) → (worker_at B t).phase ≡ p → filled (step_from T B t (worker_at B t) p).slots + scan_in (λ j b z. met z) B.slots p ≡ filled B.slots + store_in p
  filled_from Rest e = filled_calls (worker_at B t).todo
  filled_from CalledPut e = refl
  filled_from (Reserved j) e =
      let k : (j < back B) × (get_or B.reservations j 0 ≡ (worker_at B t).current) × (get_or B.slots j Empty ≡ Empty) = rw e at (s.fits t lt) in
      let x : ℤ = T.sample (worker_at B t).current in
      let f : filled (set B.slots j (Filled x)) + 0 ≡ filled B.slots + 1 = rw k.2 at (filled_set B.slots j (Filled x) (omega (arith, k.0, s.size))) in
      f
  filled_from Stored e = refl
  filled_from CalledTake e = refl
  filled_from (Scanning j b) e = filled_swaps j b (get_or B.slots j Empty) refl
  filled_from (Holding x) e = refl

  pub filled_step : filled (step T B t).slots + find_step B t ≡ filled B.slots + store_step B t
  unfolding step
  filled_step = filled_from (worker_at B t).phase refl

pub filled_none : (m : ℕ) → filled (replicate m Empty) ≡ 0
unfolding filled
filled_none zero = refl
filled_none (suc m) = omega (arith, filled_none m)
