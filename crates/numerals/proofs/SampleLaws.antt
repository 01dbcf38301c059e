-- Laws of samples as text: printed by their sign and magnitude, read with or without a minus, and read back as printed. Assumes nothing.
use Rattle.std.specs.Prelude.{None, Option, Some}
use mathlib.Core.Path.{◌≡◌, refl, sym, ◌∙◌, ap}
use mathlib.Core.Bool.{true, false}
use mathlib.Core.List.{List, [], ◌∷◌}
use Prim.Native.Nat.{ℕ, zero, suc, ◌-◌, ◌≤◌, ◌<◌}
use native.Mathlib.Omega.{arith}
use lib.ListN.{length, get_or, take, drop}
use lib.Seq.{take_all}
use lib.IntN.{ℤ, pos, negsuc, neg_ℤ, nat_abs}
use lib.Signed.{lt_z}
use borrow.Author.Tests.{ltb-true, eq-eqb, ne_eqb}
use Rattle.numerals.specs.Decimal.{decimal}
use Rattle.numerals.specs.Samples.{sample_text}
use Rattle.numerals.specs.Reading.{digits_of, sample_of, plus_of, minus_of, negated, is_digit, all_digits}
use mir.Syntax.{w32}
use mir.Val.{SFits, to_z, of_z}
use mir.ValLaws.{to_z-of_z}
use Rattle.numerals.proofs.PrintLaws.{long_decimal, decimal_short, wrote_as}
use Rattle.numerals.specs.declared.Page.{Page}
use Rattle.numerals.specs.Places.{Wrote}
use Rattle.numerals.proofs.DecimalRound.{read_printed, all_decimal, digit_of, cond_both}

pub text_neg : (z : ℤ) → lt_z z (pos 0) ≡ true → sample_text z ≡ 45 ∷ decimal (nat_abs z)
unfolding sample_text
text_neg (pos n) e = absurd (omega (arith, ltb-true n 0 e))
text_neg (negsuc n) e = refl

pub text_pos : (z : ℤ) → lt_z z (pos 0) ≡ false → sample_text z ≡ decimal (nat_abs z)
unfolding sample_text
text_pos (pos n) e = refl
text_pos (negsuc n) e = let w : ◌≡◌ {A = ℕ} 0 1 = cc in absurd (omega arith)

-- as the code comes to it: by the sample that the bits of z stand for
pub sample_below : (z : ℤ) (n : ℕ) → SFits w32 z → lt_z (to_z w32 (of_z w32 z)) (pos 0) ≡ true → n ≡ nat_abs (to_z w32 (of_z w32 z)) → 45 ∷ decimal n ≡ sample_text z
sample_below z n f e m =
    let x : to_z w32 (of_z w32 z) ≡ z = to_z-of_z w32 z f in
    ap (λ (k : ℕ). 45 ∷ decimal k) (m ∙ ap nat_abs x) ∙ sym (text_neg z (sym (ap (λ (y : ℤ). lt_z y (pos 0)) x) ∙ e))

pub sample_above : (z : ℤ) (n : ℕ) → SFits w32 z → lt_z (to_z w32 (of_z w32 z)) (pos 0) ≡ false → n ≡ nat_abs (to_z w32 (of_z w32 z)) → decimal n ≡ sample_text z
sample_above z n f e m =
    let x : to_z w32 (of_z w32 z) ≡ z = to_z-of_z w32 z f in
    ap decimal (m ∙ ap nat_abs x) ∙ sym (text_pos z (sym (ap (λ (y : ℤ). lt_z y (pos 0)) x) ∙ e))

-- a sample's text as a call of the printer gives it
pub wrote_sample : {p q : Page} (z : ℤ) → SFits w32 z → Wrote p (sample_text (to_z w32 (of_z w32 z))) q → Wrote p (sample_text z) q
wrote_sample z f x = wrote_as (ap sample_text (to_z-of_z w32 z f)) x

pub sample_none : (s : List ℕ) → length s ≡ 0 → None ≡ sample_of s
unfolding sample_of
sample_none [] e = refl
sample_none (c ∷ s) e = absurd (omega arith)

pub sample_minus : (s : List ℕ) (d : Option ℕ) → 0 < length s → get_or s 0 0 ≡ 45 → d ≡ digits_of (take (length s - 1) (drop 1 s)) 2147483648 → minus_of d ≡ sample_of s
unfolding sample_of
sample_minus [] d l h e = absurd (omega arith)
sample_minus (c ∷ s) d l h e = rw (eq-eqb c 45 h) (ap minus_of (e ∙ ap (λ (t : List ℕ). digits_of t 2147483648) (take_all (length (c ∷ s) - 1) s (omega arith))))

-- -0 is no sample
pub sample_zero : (s : List ℕ) → 0 < length s → get_or s 0 0 ≡ 45 → digits_of (take (length s - 1) (drop 1 s)) 2147483648 ≡ Some 0 → sample_of s ≡ None
sample_zero s l h e = sym (sample_minus s (Some 0) l h (sym e))

pub sample_plus : (s : List ℕ) (d : Option ℕ) → 0 < length s → (get_or s 0 0 ≡ 45 → ⊥) → d ≡ digits_of s 2147483647 → plus_of d ≡ sample_of s
unfolding sample_of
sample_plus [] d l h e = absurd (omega arith)
sample_plus (c ∷ s) d l h e = rw (ne_eqb c 45 h) (ap plus_of e)

pub negated_is : (v : ℕ) → (v ≡ 0 → ⊥) → Some (neg_ℤ (pos v)) ≡ negated v
negated_is zero h = absurd (h refl)
negated_is (suc k) h = refl

first_digit : (s : List ℕ) → 0 < length s → all_digits s ≡ true → get_or s 0 0 ≡ 45 → ⊥
first_digit [] l a e = omega arith
first_digit (c ∷ s) l a e = omega (arith, (digit_of c (cond_both (is_digit c) (all_digits s) a).0).0)

-- reading a printed sample gives it back
pub sample_round : (z : ℤ) → SFits w32 z → sample_of (sample_text z) ≡ Some z
unfolding sample_text sample_of
sample_round (pos n) f = sym (sample_plus (decimal n) (Some n) (some n) (first_digit (decimal n) (some n) (digits n)) (sym (read_printed n 2147483647 (omega (arith, f.sfits)))))
  where
    some : (k : ℕ) → 0 < length (decimal k)
    some k = long_decimal k

    digits : (k : ℕ) → all_digits (decimal k) ≡ true
    digits k = all_decimal k
sample_round (negsuc n) f = rw (read_printed (suc n) 2147483648 (omega (arith, f.sfits)))

-- the text of a sample has at most 11 bytes
pub sample_short : (z : ℤ) → SFits w32 z → length (sample_text z) ≤ 11
unfolding sample_text
sample_short (pos n) f = omega (arith, decimal_short 9 n (omega (arith, f.sfits)))
sample_short (negsuc n) f = omega (arith, decimal_short 9 (suc n) (omega (arith, f.sfits)))
