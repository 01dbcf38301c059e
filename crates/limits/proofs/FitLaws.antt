-- What a chain of tests that ends in a pass says of each test, and what an answer says of the chain. Assumes nothing.
--   unless_pass, unless_at_pass  the first test held, and the rest passes
--   then_pass                    both chains pass
--   both_true                    of two tests together
--   nowhere, lowest_none         a search that ends nowhere met nothing, and the other way round
--   fit_told, in_numbers         an answer that is told by a fit tells the fit, and can be told in other words
use Rattle.std.specs.Prelude.{Err, None, Ok, Option, Some}
use Rattle.limits.specs.Refusals.{Fit}
use mathlib.Core.Path.{◌≡◌, refl, sym, ap, ◌∙◌}
use mathlib.Core.Bool.{Bool, true, false, cond, ◌&&◌, false≢true}
use Prim.Native.Nat.{ℕ, zero, suc, ◌+◌, ◌≤◌, ◌<◌}
use native.Mathlib.Omega.{arith}
use native.Mathlib.Decide.{ℕ_discrete}
use Rattle.limits.specs.declared.Refusal.{Refusal}
use Rattle.limits.specs.Lists.{lowest_from, lowest}
use Rattle.limits.specs.Refusals.{unless, unless_at, and_then, by_fit}

refused_not : {A : Type 0} (r : Refusal) → ◌≡◌ {A = Fit} (Err r) (Ok tt) → A
refused_not r e = let z : ◌≡◌ {A = ℕ} 0 1 = cc in absurd (omega arith)

pub unless_pass : (b : Bool) (r : Refusal) (rest : Fit) → unless b r rest ≡ Ok tt → (b ≡ true) × (rest ≡ Ok tt)
unless_pass true r rest e = (refl, e)
unless_pass false r rest e = refused_not r e

pub unless_at_pass : (p : Option ℕ) (r : ℕ → Refusal) (rest : Fit) → unless_at p r rest ≡ Ok tt → (p ≡ None) × (rest ≡ Ok tt)
unless_at_pass None r rest e = (refl, e)
unless_at_pass (Some i) r rest e = refused_not (r i) e

pub then_pass : (f g : Fit) → and_then f g ≡ Ok tt → (f ≡ Ok tt) × (g ≡ Ok tt)
then_pass (Ok tt) g e = (refl, e)
then_pass (Err r) g e = refused_not r e

pub both_true : (a b : Bool) → (a && b) ≡ true → (a ≡ true) × (b ≡ true)
both_true true b e = (refl, e)
both_true false b e = absurd (false≢true e)

-- ---- searches

nowhere_from : (p : ℕ → Bool) (k n : ℕ) → lowest_from p k n ≡ None → (i : ℕ) → k ≤ i → i < k + n → p i ≡ false
unfolding lowest_from
nowhere_from p k zero e i lo hi = absurd (omega arith)
nowhere_from p k (suc n) e i lo hi = go (p k) refl e (ℕ_discrete i k) (λ h. nowhere_from p (suc k) n h i)
  where
    go : (b : Bool) → p k ≡ b → cond b (Some k) (lowest_from p (suc k) n) ≡ None → Dec (i ≡ k) → (lowest_from p (suc k) n ≡ None → suc k ≤ i → i < suc k + n → p i ≡ false) → p i ≡ false
    go true q h d ih = absurd (let z : ◌≡◌ {A = ℕ} 0 1 = cc in omega arith)
    go false q h (yes s) ih = ap p s ∙ q
    go false q h (no s) ih = ih h (omega arith) (omega arith)

pub nowhere : (p : ℕ → Bool) (n : ℕ) → lowest p n ≡ None → (i : ℕ) → i < n → p i ≡ false
nowhere p n e i lt = nowhere_from p 0 n e i (omega arith) (omega arith)

nowhere_from_none : (p : ℕ → Bool) (k n : ℕ) → ((i : ℕ) → k ≤ i → i < k + n → p i ≡ false) → lowest_from p k n ≡ None
unfolding lowest_from
nowhere_from_none p k zero f = refl
nowhere_from_none p k (suc n) f = rw (f k (omega arith) (omega arith)) (nowhere_from_none p (suc k) n (λ i lo hi. f i (omega arith) (omega arith)))

pub lowest_none : (p : ℕ → Bool) (n : ℕ) → ((i : ℕ) → i < n → p i ≡ false) → lowest p n ≡ None
lowest_none p n f = nowhere_from_none p 0 n (λ i lo hi. f i (omega arith))

-- ---- answers

-- where accepting answers and refusals can be told apart (`fitOf`), an answer by a fit tells it
pub fit_told : {A : Type 0} (fitOf : A → Fit) (refused : Refusal → A) {a r : A} → fitOf a ≡ Ok tt → ((x : Refusal) → fitOf (refused x) ≡ Err x) → (f : Fit) → r ≡ by_fit f a refused → f ≡ fitOf r
fit_told fitOf refused p q (Ok tt) e = sym (ap fitOf e ∙ p)
fit_told fitOf refused p q (Err x) e = sym (ap fitOf e ∙ q x)

-- what is made of an answer by a fit is made of each of its two cases
pub in_numbers : {A B : Type 0} (numbers : A → B) (f : Fit) (a : A) (refused : Refusal → A) → numbers (by_fit f a refused) ≡ by_fit f (numbers a) (λ x. numbers (refused x))
in_numbers numbers (Ok tt) a refused = refl
in_numbers numbers (Err x) a refused = refl
