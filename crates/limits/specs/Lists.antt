-- Notions on lists and numbers that the other definitions use. Assumes nothing.
--   All P l      every entry of l has P
--   Mem a l      a is an entry of l
--   Pw R l       each entry of l has R to each that stands after it
--   over vs l    the list l with its first entries overwritten by vs: those after them are as they were
--   lowest p n   the lowest number below n that p holds of, or nowhere
use Rattle.std.specs.Prelude.{◌≡◌, Bool, cond, ◌⊎◌, List, [], ◌∷◌, ◌++◌, ℕ, zero, suc, length, drop, None, Option, Some}

module _ {A : Type 0} where
  abbrev pub All : (A → Type 0) → List A → Type 0
  All P [] = Unit {0}
  All P (x ∷ l) = P x × All P l

  abbrev pub Mem : A → List A → Type 0
  Mem a [] = ⊥
  Mem a (x ∷ l) = (a ≡ x) ⊎ Mem a l

  abbrev pub Pw : (A → A → Type 0) → List A → Type 0
  Pw R [] = Unit {0}
  Pw R (x ∷ l) = All (R x) l × Pw R l

  abbrev pub over : List A → List A → List A
  over vs l = vs ++ drop (length vs) l

-- the lowest of the n numbers from k on that p holds of
unfoldable pub lowest_from : (ℕ → Bool) → ℕ → ℕ → Option ℕ
lowest_from p k zero = None
lowest_from p k (suc n) = cond (p k) (Some k) (lowest_from p (suc k) n)

abbrev pub lowest : (ℕ → Bool) → ℕ → Option ℕ
lowest p n = lowest_from p 0 n
