-- A number or a sample is read back from its text, and its text is the one that was read. Assumes nothing.
--   number_exact, sample_exact
--                        a number is read from a text exactly where it is at most 255 and the text its own; a sample where it fits 32 signed bits
--   NumberIs, SampleIs   what is known of a text by its reading: it is the text of the number or sample read, which is within its bounds
use Rattle.std.specs.Prelude.{None, Option, Some}
use mathlib.Core.Path.{◌≡◌, refl, sym, ◌∙◌, ap, subst}
use mathlib.Core.Logic.{◌↔◌}
use mathlib.Core.Bool.{Bool, true, false, cond}
use mathlib.Core.List.{List, [], ◌∷◌}
use Prim.Native.Nat.{ℕ, zero, suc, ◌≤◌}
use native.Mathlib.Omega.{arith}
use lib.Dec.{eqb, leb}
use lib.IntN.{ℤ}
use mir.Syntax.{w32}
use mir.Val.{SFits}
use borrow.Author.Tests.{eqb-true, leb-true}
use Rattle.numerals.specs.Decimal.{decimal}
use Rattle.numerals.specs.Samples.{sample_text}
use Rattle.numerals.specs.Reading.{value, plain, digits_of, number_of, sample_of, plus_of, minus_of}
use Rattle.numerals.proofs.DecimalRound.{read_printed, printed_read}
use Rattle.numerals.proofs.SampleLaws.{sample_round}

-- a property of both arms is one of the choice
pub cond_elim : {A : Type 0} (P : A → Type 0) (b : Bool) (x y : A) → (b ≡ true → P x) → (b ≡ false → P y) → P (cond b x y)
cond_elim P true x y f g = f refl
cond_elim P false x y f g = g refl

abbrev pub DigitsAre : ℕ → Option ℕ → List ℕ → Type 0
DigitsAre limit (Some v) s = (decimal v ≡ s) × (v ≤ limit)
DigitsAre limit None s = Unit {0}

abbrev pub NumberIs : Option ℕ → List ℕ → Type 0
NumberIs (Some v) s = (decimal v ≡ s) × (v ≤ 255)
NumberIs None s = Unit {0}

abbrev pub SampleIs : Option ℤ → List ℕ → Type 0
SampleIs (Some x) s = (sample_text x ≡ s) × SFits w32 x
SampleIs None s = Unit {0}

pub digits_are : (s : List ℕ) (limit : ℕ) → DigitsAre limit (digits_of s limit) s
digits_are s limit =
    cond_elim (λ d. DigitsAre limit d s) (plain s) (cond (leb (value 0 s) limit) (Some (value 0 s)) None) None
    (λ p. cond_elim (λ d. DigitsAre limit d s) (leb (value 0 s) limit) (Some (value 0 s)) None (λ q. (printed_read s p, leb-true (value 0 s) limit q)) (λ _. tt)) (λ _. tt)

-- reading a printed number gives it back
pub number_round : (n : ℕ) → n ≤ 255 → number_of (decimal n) ≡ Some n
unfolding number_of
number_round n h = read_printed n 255 h

-- printing a number that was read gives its text
pub number_is : (s : List ℕ) → NumberIs (number_of s) s
unfolding number_of
number_is s = go (digits_of s 255) (digits_are s 255)
  where
    go : (d : Option ℕ) → DigitsAre 255 d s → NumberIs d s
    go (Some v) h = h
    go None h = tt

plus_is : (s : List ℕ) (d : Option ℕ) → DigitsAre 2147483647 d s → SampleIs (plus_of d) s
unfolding sample_text
plus_is s (Some v) h = (h.0, record { sfits = omega (arith, h.1) })
plus_is s None h = tt

minus_is : (c : ℕ) (s : List ℕ) (d : Option ℕ) → c ≡ 45 → DigitsAre 2147483648 d s → SampleIs (minus_of d) (c ∷ s)
unfolding sample_text
minus_is c s (Some zero) e h = tt
minus_is c s (Some (suc k)) e h = ((λ i. sym e i ∷ h.0 i), record { sfits = omega (arith, h.1) })
minus_is c s None e h = tt

-- printing a sample that was read gives its text
pub sample_is : (s : List ℕ) → SampleIs (sample_of s) s
unfolding sample_of
sample_is [] = tt
sample_is (c ∷ s) =
    cond_elim (λ d. SampleIs d (c ∷ s)) (eqb c 45) (minus_of (digits_of s 2147483648)) (plus_of (digits_of (c ∷ s) 2147483647))
    (λ e. minus_is c s (digits_of s 2147483648) (eqb-true c 45 e) (digits_are s 2147483648)) (λ e. plus_is (c ∷ s) (digits_of (c ∷ s) 2147483647) (digits_are (c ∷ s) 2147483647))

-- ---- what is read, and from which text
pub number_exact : (s : List ℕ) (n : ℕ) → (number_of s ≡ Some n) ↔ ((n ≤ 255) × (s ≡ decimal n))
number_exact s n =
    (λ e. let h = subst (λ (r : Option ℕ). NumberIs r s) e (number_is s) in (h.1, sym h.0), λ h. ap number_of h.1 ∙ number_round n h.0)

pub sample_exact : (s : List ℕ) (x : ℤ) → (sample_of s ≡ Some x) ↔ (SFits w32 x × (s ≡ sample_text x))
sample_exact s x =
    (λ e. let h = subst (λ (r : Option ℤ). SampleIs r s) e (sample_is s) in (h.1, sym h.0), λ h. ap sample_of h.1 ∙ sample_round x h.0)
