-- Laws of a line's fields: the word that it begins with, and the number after it. Assumes nothing.
use Rattle.limits.specs.declared.Kind.TheVariants.{Take as taking}
use Rattle.std.specs.Prelude.{None, Option, Some}
use mathlib.Core.Path.{◌≡◌, refl, sym, ◌∙◌, ap, subst}
use mathlib.Core.Bool.{Bool, true, false, cond}
use mathlib.Core.List.{List, [], ◌∷◌, ◌++◌}
use Prim.Native.Nat.{ℕ, suc, ◌<◌}
use native.Mathlib.Omega.{arith}
use lib.Dec.{eqb}
use lib.IntN.{ℤ, pos, negsuc}
use borrow.Author.Tests.{eq-eqb, ne_eqb, eqb-true}
use Rattle.numerals.specs.Decimal.{decimal}
use Rattle.numerals.specs.Samples.{sample_text}
use Rattle.numerals.specs.Reading.{is_digit, all_digits, number_of, sample_of}
use Rattle.numerals.proofs.DecimalRound.{all_decimal, digit_of, cond_both}
use Rattle.numerals.proofs.NumeralRound.{NumberIs, number_is, SampleIs, sample_is}
use Rattle.runfile.specs.Spelling.{take_word}
use Rattle.runfile.specs.Reading.{operation, parts, same, number_after, take_of, operation_of}
use Rattle.runfile.specs.Twins.{Free}
use Rattle.runfile.proofs.PartsLaws.{parts_append, parts_free, together, together_parts, HasPart, parts_some}

-- ---- words
pub same_self : (f : List ℕ) → same f f ≡ true
same_self [] = refl
same_self (c ∷ f) = rw (eq-eqb c c refl) (same_self f)

pub same_is : (f g : List ℕ) → same f g ≡ true → f ≡ g
same_is [] [] e = refl
same_is [] (d ∷ g) e = let z : ◌≡◌ {A = ℕ} 0 1 = cc in absurd (omega arith)
same_is (c ∷ f) [] e = let z : ◌≡◌ {A = ℕ} 0 1 = cc in absurd (omega arith)
same_is (c ∷ f) (d ∷ g) e = let p = cond_both (eqb c d) (same f g) e in (λ i. eqb-true c d p.0 i ∷ same_is f g p.1 i)

-- ---- the texts of numbers and samples hold no separator
pub free_digits : (x : ℕ) (s : List ℕ) → x < 48 → all_digits s ≡ true → Free x s
free_digits x [] l a = tt
free_digits x (c ∷ s) l a =
    let p = cond_both (is_digit c) (all_digits s) a in
    (ne_eqb c x (λ e. omega (arith, (digit_of c p.0).0)), free_digits x s l p.1)

pub free_decimal : (x n : ℕ) → x < 48 → Free x (decimal n)
free_decimal x n l = free_digits x (decimal n) l (all_decimal n)

pub free_sample : (x : ℕ) (z : ℤ) → x < 45 → Free x (sample_text z)
unfolding sample_text
free_sample x (pos n) l = free_decimal x n (omega arith)
free_sample x (negsuc n) l = (ne_eqb 45 x (λ e. omega arith), free_decimal x (suc n) (omega arith))

-- a text with a tab in it is no number and no sample
pub number_tab : (s p : List ℕ) (q : List ℕ) (ps : List (List ℕ)) → parts 9 s ≡ p ∷ q ∷ ps → number_of s ≡ None
number_tab s p q ps e = go (number_of s) refl (number_is s)
  where
    go : (r : Option ℕ) → number_of s ≡ r → NumberIs r s → number_of s ≡ None
    go (Some v) d h =
        let f : parts 9 s ≡ s ∷ [] = parts_free 9 s (subst (Free 9) h.0 (free_decimal 9 v (omega arith))) in
        let z : ◌≡◌ {A = ℕ} 0 1 = cc in
        absurd (omega arith)
    go None d h = d

pub sample_tab : (s p : List ℕ) (q : List ℕ) (ps : List (List ℕ)) → parts 9 s ≡ p ∷ q ∷ ps → sample_of s ≡ None
sample_tab s p q ps e = go (sample_of s) refl (sample_is s)
  where
    go : (r : Option ℤ) → sample_of s ≡ r → SampleIs r s → sample_of s ≡ None
    go (Some x) d h =
        let f : parts 9 s ≡ s ∷ [] = parts_free 9 s (subst (Free 9) h.0 (free_sample 9 x (omega arith))) in
        let z : ◌≡◌ {A = ℕ} 0 1 = cc in
        absurd (omega arith)
    go None d h = d

-- the parts of a text are itself alone, or two or more that it is put together of
pub parts_cases : (P : List (List ℕ) → Type 0) (s : List ℕ) → P (s ∷ []) → ((p q : List ℕ) (ps : List (List ℕ)) → parts 9 s ≡ p ∷ q ∷ ps → P (p ∷ q ∷ ps)) → P (parts 9 s)
parts_cases P s one more = go (parts 9 s) refl (parts_some 9 s) (together_parts 9 s)
  where
    go : (ps : List (List ℕ)) → parts 9 s ≡ ps → HasPart ps → together 9 ps ≡ s → P ps
    go [] e h t = absurd h
    go (p ∷ []) e h t = subst (λ (x : List ℕ). P (x ∷ [])) (sym t) one
    go (p ∷ q ∷ ps) e h t = more p q ps e

-- ---- the number after a word
pub number_none : (w l : List ℕ) → ((rest : List ℕ) → l ≡ w ++ (9 ∷ rest) → ⊥) → number_after w (parts 9 l) ≡ None
number_none w l h = go (parts 9 l) (together_parts 9 l)
  where
    go : (ps : List (List ℕ)) → together 9 ps ≡ l → number_after w ps ≡ None
    go [] t = refl
    go (f ∷ []) t = refl
    go (f ∷ n ∷ []) t = at (same f w) refl
      where
        at : (b : Bool) → same f w ≡ b → cond b (number_of n) None ≡ None
        at true e = absurd (h n (sym t ∙ ap (λ (x : List ℕ). x ++ (9 ∷ n)) (same_is f w e)))
        at false e = refl
    go (f ∷ n ∷ m ∷ ps) t = refl

module _ (w : List ℕ) (free : Free 9 w) where
  pub number_after_word : (rest : List ℕ) → number_after w (parts 9 (w ++ (9 ∷ rest))) ≡ number_of rest
  number_after_word rest =
      ap (number_after w) (parts_append 9 w rest free)
      ∙ parts_cases (λ ps. number_after w (w ∷ ps) ≡ number_of rest) rest (rw (same_self w)) (λ p q ps e. sym (number_tab rest p q ps e))

-- a line that is a take
pub op_take : (ps : List (List ℕ)) (t : ℕ) → number_after take_word ps ≡ Some t → Some (operation t taking (pos 0)) ≡ operation_of ps
op_take [] t e = let z : ◌≡◌ {A = ℕ} 0 1 = cc in absurd (omega arith)
op_take (w ∷ []) t e = let z : ◌≡◌ {A = ℕ} 0 1 = cc in absurd (omega arith)
op_take (w ∷ n ∷ []) t e = at (same w take_word) e
  where
    at : (b : Bool) → cond b (number_of n) None ≡ Some t → Some (operation t taking (pos 0)) ≡ cond b (take_of (number_of n)) None
    at true d = ap take_of (sym d)
    at false d = let z : ◌≡◌ {A = ℕ} 0 1 = cc in absurd (omega arith)
op_take (w ∷ n ∷ x ∷ []) t e = let z : ◌≡◌ {A = ℕ} 0 1 = cc in absurd (omega arith)
op_take (w ∷ n ∷ x ∷ f ∷ fs) t e = let z : ◌≡◌ {A = ℕ} 0 1 = cc in absurd (omega arith)
