-- Searches and a count by the library's words. Assumes nothing.
--   lowest_first     the lowest number is one that the test holds of, where it holds of none before it
--   position_lowest  the same of the entries of a list, as `position` says it
--   puts_counted     the puts of a list of kinds
use Rattle.std.proofs.Common.{◌≡◌, Bool, true, false, cond, List, [], ◌∷◌, ℕ, zero, suc, ◌+◌, ◌<◌, ◌==◌, length, get_or, Some, fold, position, count_by, refl, sym, ◌∙◌, arith, zero-add, add-zero, add-one}
use Rattle.std.specs.List.{position_from}
use Rattle.std.proofs.lemmas.Iterator.Adapters.{position_from-zero}
use Rattle.limits.specs.Lists.{lowest_from, lowest}
use Rattle.limits.specs.Operations.{puts_in}

counted_after : (kind : List ℕ) (n : ℕ) → fold (λ a x. a + cond (x == 1) 1 0) n kind ≡ n + puts_in kind
unfolding puts_in
counted_after [] n = sym (add-zero n)
counted_after (k ∷ kind) n = elim (k == 1) as (λ b. fold (λ a x. a + cond (x == 1) 1 0) (n + cond b 1 0) kind ≡ n + cond b (suc (puts_in kind)) (puts_in kind)) [
  | true ↦ let e = counted_after kind (n + 1) in omega arith
  | false ↦ let e = counted_after kind (n + 0) in omega arith
]

pub puts_counted : (kind : List ℕ) → count_by (λ k. k == 1) kind ≡ puts_in kind
puts_counted kind = counted_after kind 0 ∙ zero-add (puts_in kind)

first_from : (p : ℕ → Bool) (from n k : ℕ) → k < n → p (from + k) ≡ true → ((j : ℕ) → j < k → p (from + j) ≡ false) → lowest_from p from n ≡ Some (from + k)
unfolding lowest_from
first_from p from zero k lt e none = absurd (omega arith)
first_from p from (suc n) zero lt e none = rw (rw (add-zero from) at e, add-zero from)
first_from p from (suc n) (suc k) lt e none =
    let move : (j : ℕ) → suc from + j ≡ from + suc j = λ j. omega arith in
    let here : p from ≡ false = rw (add-zero from) at (none 0 (omega arith)) in
    rw (here, first_from p (suc from) n k (omega arith) (rw (move k) e) (λ j jl. rw (move j) (none (suc j) (omega arith))), move k)

pub lowest_first : (p : ℕ → Bool) (n k : ℕ) → k < n → p k ≡ true → ((j : ℕ) → j < k → p j ≡ false) → lowest p n ≡ Some k
lowest_first p n k lt e none = rw (zero-add k) at (first_from p 0 n k lt (rw (zero-add k) e) (λ j jl. rw (zero-add j) (none j jl)))

position_from_lowest : (test p : ℕ → Bool) (l : List ℕ) (n : ℕ) → ((k : ℕ) → k < length l → p (n + k) ≡ test (get_or l k 0)) → position_from test n l ≡ lowest_from p n (length l)
unfolding lowest_from
position_from_lowest test p [] n same = refl
position_from_lowest test p (x ∷ l) n same =
    let here : p n ≡ test x = rw (add-zero n) at (same 0 (omega arith)) in
    let move : (j : ℕ) → (n + 1) + j ≡ n + suc j = λ j. omega arith in
    let rest : position_from test (n + 1) l ≡ lowest_from p (n + 1) (length l) = position_from_lowest test p l (n + 1) (λ k lt. rw (move k) (same (suc k) (omega arith))) in
    rw (here, rest, add-one n)

pub position_lowest : (test : ℕ → Bool) (l : List ℕ) → position test l ≡ lowest (λ i. test (get_or l i 0)) (length l)
position_lowest test l = position_from-zero test l ∙ position_from_lowest test _ l 0 (λ k lt. rw (zero-add k))
