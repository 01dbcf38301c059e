-- Laws of the twins: a list filled in one entry more, and a row gathered one slot further. Assumes nothing.
use mathlib.Core.Path.{◌≡◌, refl, ap}
use mathlib.Core.Bool.{cond}
use mathlib.Core.Logic.{◌≢◌}
use borrow.Author.Tests.{ne_eqb}
use mathlib.Core.List.{List, [], ◌∷◌, ◌++◌, append_assoc}
use Prim.Native.Nat.{ℕ, zero, suc, ◌+◌, ◌-◌, ◌≤◌, ◌<◌}
use native.Mathlib.Omega.{arith}
use native.Mathlib.Numerals.{add-one}
use lib.Dec.{eqb}
use lib.ListN.{length, get_or, set, take, drop}
use lib.Seq.{drop-cons, take-suc-set, set_at}
use Rattle.run.specs.FinalTwin.{tab, gathered}

module _ {A : Type 0} where
  pub length_tab : (n : ℕ) (f : ℕ → A) → length (tab n f) ≡ n
  unfolding tab
  length_tab zero f = refl
  length_tab (suc n) f = ap suc (length_tab n (λ i. f (suc i)))

  -- one value more stands at the end
  pub tab_snoc : (n : ℕ) (f : ℕ → A) → tab (suc n) f ≡ tab n f ++ (f n ∷ [])
  unfolding tab
  tab_snoc zero f = refl
  tab_snoc (suc n) f = ap (λ l. f 0 ∷ l) (tab_snoc n (λ i. f (suc i)))

  -- a list whose first i entries are f's values gets the next one
  pub tab_next : (f : ℕ → A) (l : List A) (d : A) (i : ℕ) → i < length l → set (tab i f ++ drop i l) i (f i) ≡ tab (i + 1) f ++ drop (i + 1) l
  tab_next f l d i lt = rw (drop-cons l i d lt, set_at (tab i f) (get_or l i d) (drop (suc i) l) (f i) i (length_tab i f), add-one, tab_snoc, append_assoc)

  -- the first entries of a list are the table of its entries
  pub take_tab : (l : List A) (d : A) (n : ℕ) → n ≤ length l → take n l ≡ tab n (λ i. get_or l i d)
  unfolding tab
  take_tab l d zero le = refl
  take_tab [] d (suc n) le = absurd (omega arith)
  take_tab (x ∷ l) d (suc n) le = ap (λ r. x ∷ r) (take_tab l d n (omega arith))

module _ (marks owners : List ℕ) (i n : ℕ) (lt : i < n) where
  -- the rest of the row, by the mark of its first slot
  gather_by : gathered marks owners i (n - i) ≡ cond (eqb (get_or marks i 0) 0) (gathered marks owners (i + 1) (n - (i + 1))) (get_or owners i 0 ∷ gathered marks owners (i + 1) (n - (i + 1)))
  unfolding gathered
  gather_by =
      let k : n - i ≡ suc (n - (i + 1)) = omega arith in
      let s : suc i ≡ i + 1 = omega arith in
      rw (k, s)

  -- an empty slot is passed by
  pub gather_none : (row : List ℕ) (k : ℕ) → get_or marks i 0 ≡ 0 → take k row ++ gathered marks owners (i + 1) (n - (i + 1)) ≡ take k row ++ gathered marks owners i (n - i)
  gather_none row k e = rw (gather_by, e)

  -- the owner of a marked one stands after those before it
  pub gather_one : (row : List ℕ) (k : ℕ) → k < length row → get_or marks i 0 ≢ 0
      → take (k + 1) (set row k (get_or owners i 0)) ++ gathered marks owners (i + 1) (n - (i + 1)) ≡ take k row ++ gathered marks owners i (n - i)
  gather_one row k room ne = rw (gather_by, ne_eqb (get_or marks i 0) 0 ne, add-one, take-suc-set row k (get_or owners i 0) room, append_assoc)

pub gather_end : (marks owners : List ℕ) (i n : ℕ) → n ≤ i → gathered marks owners i (n - i) ≡ []
unfolding gathered
gather_end marks owners i n le =
    let k : n - i ≡ 0 = omega arith in
    rw k
