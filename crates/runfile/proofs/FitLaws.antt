-- Laws of the reader's tests 1 to 9, of answers that they give, and of entries that stand over the first ones of a list. Assumes nothing.
use Rattle.std.specs.Prelude.{Err, Ok}
use Rattle.limits.specs.Refusals.{Fit}
use mathlib.Core.Path.{◌≡◌, refl, ◌∙◌, ap}
use mathlib.Core.Bool.{Bool, true, false, ◌&&◌}
use mathlib.Core.List.{List, ◌++◌}
use Prim.Native.Nat.{ℕ, ◌+◌, ◌≤◌, ◌<◌}
use native.Mathlib.Omega.{arith}
use lib.Dec.{leb}
use lib.IntN.{ℤ}
use lib.ListN.{length, drop}
use lib.Seq.{sets, sets-eq}
use borrow.Author.Tests.{leb-true, le-leb, lt-leb}
use Rattle.limits.specs.declared.Refusal.{Refusal}
use Rattle.limits.specs.declared.Refusal.TheVariants.{Room}
use Rattle.limits.specs.Lists.{over}
use Rattle.limits.specs.Operations.{input_of}
use Rattle.limits.specs.Refusals.{unless, and_then, input_refusal}
use Rattle.runfile.specs.Wrong.{file}
use Rattle.runfile.specs.Answers.{file_fit}

-- ---- entries stored from the start on
-- where they fit, they stand over the first entries
pub over_sets : {A : Type 0} (vs l : List A) → length vs ≤ length l → sets l 0 vs ≡ over vs l
over_sets vs l h =
    let z : 0 + length vs ≡ length vs = omega arith in
    sets-eq vs l 0 (omega arith) ∙ ap (λ (k : ℕ). vs ++ drop k l) z

-- ---- the tests 1 to 9
module _ (a b c d n m : ℕ) (ts ks : List ℕ) (xs : List ℤ) (ss : List ℕ) where
  abbrev input : Fit
  input = input_refusal (input_of n m ts ks xs ss)

  abbrev fits : Fit
  fits = file_fit a b c d (file n m ts ks xs ss)

  pub fit_refused : (x : Refusal) → input ≡ Err x → fits ≡ Err x
  unfolding file_fit
  fit_refused x e = rw e

  module _ (e : input ≡ Ok tt) where
    pub no_thread_room : a < length ts → fits ≡ Err Room
    unfolding file_fit
    no_thread_room h = rw (e, lt-leb (length ts) a h) (go (leb (length ks) b) (leb (length xs) c) (leb (length ss) d))
      where
        go : (p q r : Bool) → unless (false && p && q && r) Room (Ok tt) ≡ Err Room
        go true true true = refl
        go true true false = refl
        go true false true = refl
        go true false false = refl
        go false true true = refl
        go false true false = refl
        go false false true = refl
        go false false false = refl

    module _ (h₁ : length ts ≤ a) where
      pub no_kind_room : b < length ks → fits ≡ Err Room
      unfolding file_fit
      no_kind_room h = rw (e, le-leb (length ts) a h₁, lt-leb (length ks) b h) (go (leb (length xs) c) (leb (length ss) d))
        where
          go : (q r : Bool) → unless (true && false && q && r) Room (Ok tt) ≡ Err Room
          go true true = refl
          go true false = refl
          go false true = refl
          go false false = refl

      module _ (h₂ : length ks ≤ b) where
        pub no_sample_room : c < length xs → fits ≡ Err Room
        unfolding file_fit
        no_sample_room h = rw (e, le-leb (length ts) a h₁, le-leb (length ks) b h₂, lt-leb (length xs) c h) (go (leb (length ss) d))
          where
            go : (r : Bool) → unless (true && true && false && r) Room (Ok tt) ≡ Err Room
            go true = refl
            go false = refl

        module _ (h₃ : length xs ≤ c) where
          pub no_step_room : d < length ss → fits ≡ Err Room
          unfolding file_fit
          no_step_room h = rw (e, le-leb (length ts) a h₁, le-leb (length ks) b h₂, le-leb (length xs) c h₃, lt-leb (length ss) d h)

          pub all_room : length ss ≤ d → fits ≡ Ok tt
          unfolding file_fit
          all_room h = rw (e, le-leb (length ts) a h₁, le-leb (length ks) b h₂, le-leb (length xs) c h₃, le-leb (length ss) d h)

  -- what is accepted has passed all tests, and there is room for it
  pub fit_room : fits ≡ Ok tt → (input ≡ Ok tt) × ((length ts ≤ a) × ((length ks ≤ b) × ((length xs ≤ c) × (length ss ≤ d))))
  unfolding file_fit
  fit_room e = at input refl e
    where
      go : (p q r s : Bool) → unless (p && q && r && s) Room (Ok tt) ≡ Ok tt → (p ≡ true) × ((q ≡ true) × ((r ≡ true) × (s ≡ true)))
      go true true true true e = (refl, (refl, (refl, refl)))
      go true true true false e = let z : ◌≡◌ {A = ℕ} 0 1 = cc in absurd (omega arith)
      go true true false true e = let z : ◌≡◌ {A = ℕ} 0 1 = cc in absurd (omega arith)
      go true true false false e = let z : ◌≡◌ {A = ℕ} 0 1 = cc in absurd (omega arith)
      go true false true true e = let z : ◌≡◌ {A = ℕ} 0 1 = cc in absurd (omega arith)
      go true false true false e = let z : ◌≡◌ {A = ℕ} 0 1 = cc in absurd (omega arith)
      go true false false true e = let z : ◌≡◌ {A = ℕ} 0 1 = cc in absurd (omega arith)
      go true false false false e = let z : ◌≡◌ {A = ℕ} 0 1 = cc in absurd (omega arith)
      go false q r s e = low q r s e
        where
          low : (q r s : Bool) → unless (false && q && r && s) Room (Ok tt) ≡ Ok tt → (false ≡ true) × ((q ≡ true) × ((r ≡ true) × (s ≡ true)))
          low true true true e = let z : ◌≡◌ {A = ℕ} 0 1 = cc in absurd (omega arith)
          low true true false e = let z : ◌≡◌ {A = ℕ} 0 1 = cc in absurd (omega arith)
          low true false true e = let z : ◌≡◌ {A = ℕ} 0 1 = cc in absurd (omega arith)
          low true false false e = let z : ◌≡◌ {A = ℕ} 0 1 = cc in absurd (omega arith)
          low false true true e = let z : ◌≡◌ {A = ℕ} 0 1 = cc in absurd (omega arith)
          low false true false e = let z : ◌≡◌ {A = ℕ} 0 1 = cc in absurd (omega arith)
          low false false true e = let z : ◌≡◌ {A = ℕ} 0 1 = cc in absurd (omega arith)
          low false false false e = let z : ◌≡◌ {A = ℕ} 0 1 = cc in absurd (omega arith)

      at : (f : Fit) → input ≡ f → and_then f (unless (leb (length ts) a && leb (length ks) b && leb (length xs) c && leb (length ss) d) Room (Ok tt)) ≡ Ok tt
          → (input ≡ Ok tt) × ((length ts ≤ a) × ((length ks ≤ b) × ((length xs ≤ c) × (length ss ≤ d))))
      at (Ok tt) q e =
          let w = go (leb (length ts) a) (leb (length ks) b) (leb (length xs) c) (leb (length ss) d) e in
          (q, (leb-true (length ts) a w.0, (leb-true (length ks) b w.1.0, (leb-true (length xs) c w.1.1.0, leb-true (length ss) d w.1.1.1))))
      at (Err x) q e = let z : ◌≡◌ {A = ℕ} 0 1 = cc in absurd (omega arith)

-- each way out of a function that tests in turn
pub ruleset room_tests = (fit_refused, no_thread_room, no_kind_room, no_sample_room, no_step_room, all_room)
