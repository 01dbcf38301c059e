-- Laws of reading digits: a number is judged digit by digit, from the left. Assumes nothing.
--   judge limit acc s   what the digits s still say after acc: their number, if it is at most limit
use Rattle.std.specs.Prelude.{None, Option, Some}
use mathlib.Core.Path.{◌≡◌, refl, sym, ◌∙◌}
use mathlib.Core.Bool.{Bool, true, false, cond}
use mathlib.Core.List.{List, [], ◌∷◌}
use Prim.Native.Nat.{ℕ, ◌+◌, ◌-◌, ◌*◌, ◌≤◌, ◌<◌}
use native.Mathlib.Omega.{arith}
use native.Mathlib.Nat.{le_refl}
use lib.ListN.{length, get_or, drop}
use lib.Seq.{drop-cons}
use native.Mathlib.Numerals.{add-one}
use lib.Dec.{leb}
use borrow.Author.Tests.{le-leb, lt-leb, ne_eqb, leb-true}
use Rattle.numerals.specs.Reading.{is_digit, all_digits, value, plain, digits_of}

abbrev pub judge : ℕ → ℕ → List ℕ → Option ℕ
judge limit acc s = cond (all_digits s) (cond (leb (value acc s) limit) (Some (value acc s)) None) None

pub cond_same : {A : Type 0} (b : Bool) (x : A) → cond b x x ≡ x
cond_same true x = refl
cond_same false x = refl

pub is_digit_between : (c : ℕ) → 48 ≤ c → c ≤ 57 → is_digit c ≡ true
is_digit_between c a b = rw (le-leb 48 c a, le-leb c 57 b)

pub value_ge : (acc : ℕ) (s : List ℕ) → acc ≤ value acc s
value_ge acc [] = le_refl acc
value_ge acc (c ∷ s) = omega (arith, value_ge (acc * 10 + (c - 48)) s)

pub judge_digit : (limit acc c : ℕ) (s : List ℕ) → 48 ≤ c → c ≤ 57 → judge limit acc (c ∷ s) ≡ judge limit (acc * 10 + (c - 48)) s
judge_digit limit acc c s a b = rw (is_digit_between c a b)

pub judge_over : (limit acc : ℕ) (s : List ℕ) → limit < acc → judge limit acc s ≡ None
judge_over limit acc s a = rw (lt-leb (value acc s) limit (omega (arith, value_ge acc s)), cond_same)

pub plain_more : (s : List ℕ) → 1 < length s → (get_or s 0 0 ≡ 48 → ⊥) → plain s ≡ all_digits s
plain_more [] l ne = absurd (omega arith)
plain_more (c ∷ []) l ne = absurd (omega arith)
plain_more (c ∷ d ∷ s) l ne = rw (ne_eqb c 48 ne)

pub from_judge : (s : List ℕ) (limit : ℕ) (r : Option ℕ) → plain s ≡ all_digits s → judge limit 0 s ≡ r → r ≡ digits_of s limit
from_judge s limit r p j = rw p (sym j)

module _ (s : List ℕ) (limit acc i : ℕ) (l : i < length s) where
  pub judge_cons : judge limit acc (drop i s) ≡ judge limit acc (get_or s i 0 ∷ drop (i + 1) s)
  judge_cons = rw (add-one, drop-cons s i 0)

  pub next_at : 48 ≤ get_or s i 0 → get_or s i 0 ≤ 57 → judge limit acc (drop i s) ≡ judge limit (acc * 10 + (get_or s i 0 - 48)) (drop (i + 1) s)
  next_at a b = judge_cons ∙ judge_digit limit acc (get_or s i 0) (drop (i + 1) s) a b

-- a number that was read is within its limit
pub digits_small : (s : List ℕ) (limit v : ℕ) → Some v ≡ digits_of s limit → v ≤ limit
digits_small s limit v e = by_cases (plain s) (leb (value 0 s) limit) (value 0 s) (leb-true (value 0 s) limit) e
  where
    by_cases : (p q : Bool) (x : ℕ) → (q ≡ true → x ≤ limit) → Some v ≡ cond p (cond q (Some x) None) None → v ≤ limit
    by_cases true true x h k = let z : v ≡ x = cc in omega (arith, h refl)
    by_cases true false x h k = let z : ◌≡◌ {A = ℕ} 0 1 = cc in absurd (omega arith)
    by_cases false q x h k = let z : ◌≡◌ {A = ℕ} 0 1 = cc in absurd (omega arith)
