-- What the code shows of a faithful world is what the bench shows: records, slots, the row of puts that nobody found. Assumes nothing.
use mathlib.Core.Path.{◌≡◌, refl, sym, ap, ◌∙◌}
use mathlib.Core.List.{List, [], ◌∷◌, map}
use Prim.Native.Nat.{ℕ, zero, suc, ◌+◌, ◌<◌}
use native.Mathlib.Omega.{arith}
use native.Mathlib.Nat.{not-suc-le-zero, le_of_suc-le-suc}
use lib.IntN.{ℤ, pos}
use lib.ListN.{length, get_or}
use Rattle.machine.specs.Bench.{Slot, Empty, Filled}
use Rattle.machine.specs.Shown.{mark, held, unfound}
use Rattle.run.specs.FinalTwin.{tab, held_as, gathered}

-- a list is the table of its entries
pub tab_map : {A B : Type 0} (g : A → B) (d : A) (l : List A) (n : ℕ) (f : ℕ → B) → length l ≡ n → ((i : ℕ) → i < n → f i ≡ g (get_or l i d)) → tab n f ≡ map g l
unfolding tab
tab_map g d [] zero f e same = refl
tab_map g d [] (suc n) f e same = absurd (omega arith)
tab_map g d (x ∷ l) zero f e same = absurd (omega arith)
tab_map g d (x ∷ l) (suc n) f e same = λ i. same 0 (omega arith) i ∷ tab_map g d l n (λ k. f (suc k)) (omega arith) (λ k lt. same (suc k) (omega arith)) i

-- a slot's sample, by its mark and its owner
pub held_as_lem : (sample : List ℤ) (m o : ℕ) (s : Slot) → m ≡ mark s → ((x : ℤ) → s ≡ Filled x → x ≡ get_or sample o (pos 0)) → held_as sample m o ≡ held s
held_as_lem sample m o Empty e owned = rw e
held_as_lem sample m o (Filled x) e owned = rw e (sym (owned x refl))

-- the marked slots' owners are the puts that nobody found
module _ (marks owners : List ℕ) where
  pub gathered_unfound : (i n : ℕ) (rs : List ℕ) (ss : List Slot) → length ss ≡ n
      → ((k : ℕ) → k < n → get_or marks (i + k) 0 ≡ mark (get_or ss k Empty)) → ((k : ℕ) → k < length rs → get_or owners (i + k) 0 ≡ get_or rs k 0)
      → ((k : ℕ) (x : ℤ) → get_or ss k Empty ≡ Filled x → k < length rs) → gathered marks owners i n ≡ unfound rs ss
  unfolding gathered unfound
  gathered_unfound i zero [] [] e ms os low = refl
  gathered_unfound i zero (r ∷ rs) [] e ms os low = refl
  gathered_unfound i zero [] (s ∷ ss) e ms os low = absurd (omega arith)
  gathered_unfound i zero (r ∷ rs) (s ∷ ss) e ms os low = absurd (omega arith)
  gathered_unfound i (suc n) rs [] e ms os low = absurd (omega arith)
  gathered_unfound i (suc n) [] (Empty ∷ ss) e ms os low =
      let z : i + 0 ≡ i = omega arith in
      let m : get_or marks i 0 ≡ 0 = rw z at (ms 0 (omega arith)) in
      rw m (none_left (suc i) n ss (omega arith) (λ k lt. next i k ∙ ms (suc k) (omega arith)) (λ k x f. absurd (not-suc-le-zero (low (suc k) x f))))
    where
      next : (i k : ℕ) → get_or marks (suc i + k) 0 ≡ get_or marks (i + suc k) 0
      next i k = let z : suc i + k ≡ i + suc k = omega arith in ap (λ (j : ℕ). get_or marks j 0) z

      none_left : (i n : ℕ) (ss : List Slot) → length ss ≡ n → ((k : ℕ) → k < n → get_or marks (i + k) 0 ≡ mark (get_or ss k Empty)) → ((k : ℕ) (x : ℤ) → get_or ss k Empty ≡ Filled x → ⊥) → gathered marks owners i n ≡ []
      none_left i zero ss e ms empty = refl
      none_left i (suc n) [] e ms empty = absurd (omega arith)
      none_left i (suc n) (Empty ∷ ss) e ms empty =
          let z : i + 0 ≡ i = omega arith in
          let m : get_or marks i 0 ≡ 0 = rw z at (ms 0 (omega arith)) in
          rw m (none_left (suc i) n ss (omega arith) (λ k lt. next i k ∙ ms (suc k) (omega arith)) (λ k x f. empty (suc k) x f))
      none_left i (suc n) (Filled x ∷ ss) e ms empty = absurd (empty 0 x refl)
  gathered_unfound i (suc n) [] (Filled x ∷ ss) e ms os low = absurd (not-suc-le-zero (low 0 x refl))
  gathered_unfound i (suc n) (r ∷ rs) (Empty ∷ ss) e ms os low =
      let z : i + 0 ≡ i = omega arith in
      let m : get_or marks i 0 ≡ 0 = rw z at (ms 0 (omega arith)) in
      rw m (gathered_unfound (suc i) n rs ss (omega arith) (λ k lt. shift marks k ∙ ms (suc k) (omega arith)) (λ k lt. shift owners k ∙ os (suc k) (omega arith)) (λ k x f. le_of_suc-le-suc (low (suc k) x f)))
    where
      shift : (l : List ℕ) (k : ℕ) → get_or l (suc i + k) 0 ≡ get_or l (i + suc k) 0
      shift l k = let z : suc i + k ≡ i + suc k = omega arith in ap (λ (j : ℕ). get_or l j 0) z
  gathered_unfound i (suc n) (r ∷ rs) (Filled x ∷ ss) e ms os low =
      let z : i + 0 ≡ i = omega arith in
      let m : get_or marks i 0 ≡ 1 = rw z at (ms 0 (omega arith)) in
      let o : get_or owners i 0 ≡ r = rw z at (os 0 (omega arith)) in
      rw (m, o) (ap (λ l. r ∷ l) (gathered_unfound (suc i) n rs ss (omega arith) (λ k lt. shift marks k ∙ ms (suc k) (omega arith)) (λ k lt. shift owners k ∙ os (suc k) (omega arith)) (λ k x f. le_of_suc-le-suc (low (suc k) x f))))
    where
      shift : (l : List ℕ) (k : ℕ) → get_or l (suc i + k) 0 ≡ get_or l (i + suc k) 0
      shift l k = let z : suc i + k ≡ i + suc k = omega arith in ap (λ (j : ℕ). get_or l j 0) z
