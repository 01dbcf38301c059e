-- Nothing here has to be believed: the reading of numbers and samples, computed. That it gives exactly what `decimal` and `sample_text` write, within
-- its bounds, is proved: `number_exact` and `sample_exact` in proofs/NumeralRound.antt.
--   is_digit, all_digits  a byte from 48 to 57, that is `0` to `9`; a text of such bytes only
--   value acc s           the number that the digits s write after the digits of acc
--   plain s               s writes a number: at least one byte, digits only, and no 0 before others
--   digits_of s limit     the number that the whole of s writes, if it is at most limit
--   number_of s           the same with limit 255: every number of a run file but a sample
--   sample_of s           the sample that the whole of s writes
use Rattle.std.specs.Prelude.{Bool, true, false, cond, List, [], ◌∷◌, ℕ, zero, suc, ◌+◌, ◌-◌, ◌*◌, leb, eqb, ℤ, pos, negsuc, None, Option, Some}

abbrev pub is_digit : ℕ → Bool
is_digit c = cond (leb 48 c) (leb c 57) false

abbrev pub all_digits : List ℕ → Bool
all_digits [] = true
all_digits (c ∷ s) = cond (is_digit c) (all_digits s) false

abbrev pub value : ℕ → List ℕ → ℕ
value acc [] = acc
value acc (c ∷ s) = value (acc * 10 + (c - 48)) s

abbrev pub plain : List ℕ → Bool
plain [] = false
plain (c ∷ []) = is_digit c
plain (c ∷ d ∷ s) = cond (eqb c 48) false (all_digits (c ∷ d ∷ s))

abbrev pub digits_of : List ℕ → ℕ → Option ℕ
digits_of s limit = cond (plain s) (cond (leb (value 0 s) limit) (Some (value 0 s)) None) None

unfoldable pub number_of : List ℕ → Option ℕ
number_of s = digits_of s 255

-- digits with no minus before them
abbrev pub plus_of : Option ℕ → Option ℤ
plus_of (Some v) = Some (pos v)
plus_of None = None

-- digits after a minus: -0 is no sample
abbrev pub negated : ℕ → Option ℤ
negated zero = None
negated (suc k) = Some (negsuc k)

abbrev pub minus_of : Option ℕ → Option ℤ
minus_of (Some v) = negated v
minus_of None = None

unfoldable pub sample_of : List ℕ → Option ℤ
sample_of [] = None
sample_of (c ∷ s) = cond (eqb c 45) (minus_of (digits_of s 2147483648)) (plus_of (digits_of (c ∷ s) 2147483647))
