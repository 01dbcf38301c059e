-- Laws of an input that passes 1 to 8: what it says of each operation and entry, and that the tests of longer lists need no more than one entry too many.
-- Assumes nothing.
--   GoodOps    each operation of the three lists is one that refusal 5 does not name
--   GoodSteps  each entry of a schedule is a thread
use Rattle.limits.specs.Refusals.{Fit}
use mathlib.Core.Path.{◌≡◌, refl, sym, ◌∙◌, ap}
use mathlib.Core.Bool.{Bool, true, false}
use mathlib.Core.List.{List, [], ◌∷◌}
use Prim.Native.Nat.{ℕ, suc, ◌<◌}
use native.Mathlib.Omega.{arith}
use lib.Dec.{leb}
use lib.IntN.{ℤ}
use lib.ListN.{length, get_or, take}
use lib.Seq.{take_all, length-take-le}
use borrow.Author.Tests.{leb-true, leb-false, lt-leb, eq-eqb}
use Rattle.limits.specs.declared.Refusal.TheVariants.{Threads, Slots, Lengths, Operations, Operation}
use Rattle.limits.specs.Lists.{lowest}
use Rattle.limits.specs.Operations.{Input, input_of}
use Rattle.limits.specs.Refusals.{unless, unless_at, within, together, unfit, unfit_at, input_refusal}
use Rattle.limits.specs.Parts.{schedule_refusal}
use Rattle.limits.proofs.PassLaws.{Passed}

-- ---- what passed, entry by entry

abbrev pub GoodOps : ℕ → List ℕ → List ℕ → List ℤ → Type 0
GoodOps threads [] [] [] = Unit {0}
GoodOps threads [] [] (x ∷ sample) = ⊥
GoodOps threads [] (k ∷ kind) sample = ⊥
GoodOps threads (t ∷ thread) [] sample = ⊥
GoodOps threads (t ∷ thread) (k ∷ kind) [] = ⊥
GoodOps threads (t ∷ thread) (k ∷ kind) (x ∷ sample) = (unfit threads t k x ≡ false) × GoodOps threads thread kind sample

pub good_ops : (threads : ℕ) (thread kind : List ℕ) (sample : List ℤ) → length kind ≡ length thread → length sample ≡ length thread
    → ((i : ℕ) → i < length thread → unfit_at threads thread kind sample i ≡ false) → GoodOps threads thread kind sample
good_ops threads [] [] [] a b h = tt
good_ops threads [] [] (x ∷ sample) a b h = absurd (omega arith)
good_ops threads [] (k ∷ kind) sample a b h = absurd (omega arith)
good_ops threads (t ∷ thread) [] sample a b h = absurd (omega arith)
good_ops threads (t ∷ thread) (k ∷ kind) [] a b h = absurd (omega arith)
good_ops threads (t ∷ thread) (k ∷ kind) (x ∷ sample) a b h = (h 0 (omega arith), good_ops threads thread kind sample (omega arith) (omega arith) (λ i l. h (suc i) (omega arith)))

abbrev pub GoodSteps : ℕ → List ℕ → Type 0
GoodSteps threads [] = Unit {0}
GoodSteps threads (t ∷ schedule) = (t < threads) × GoodSteps threads schedule

good_steps : (threads : ℕ) (schedule : List ℕ) → ((k : ℕ) → k < length schedule → get_or schedule k 0 < threads) → GoodSteps threads schedule
good_steps threads [] h = tt
good_steps threads (t ∷ schedule) h = (h 0 (omega arith), good_steps threads schedule (λ k l. h (suc k) (omega arith)))

module _ {i : Input} (p : Passed i) where
  pub passed_ops : GoodOps i.threads i.thread i.kind i.sample
  passed_ops = good_ops i.threads i.thread i.kind i.sample p.kinds p.samples p.fit

  pub passed_steps : GoodSteps i.threads i.schedule
  passed_steps = good_steps i.threads i.schedule p.named

-- ---- one entry more than a run may have is enough for the tests
module _ (threads slots : ℕ) (thread kind : List ℕ) (sample : List ℤ) (schedule : List ℕ) (ks : length kind ≡ length thread) (xs : length sample ≡ length thread) where
  one_length : together thread kind sample ≡ true
  one_length = rw (eq-eqb (length kind) (length thread) ks, eq-eqb (length sample) (length thread) xs)

  cut_length : 128 < length thread → together (take 129 thread) (take 129 kind) (take 129 sample) ≡ true
  cut_length h =
      rw (
        eq-eqb (length (take 129 kind)) (length (take 129 thread)) (length-take-le 129 kind (omega arith) ∙ sym (length-take-le 129 thread (omega arith))),
        eq-eqb (length (take 129 sample)) (length (take 129 thread)) (length-take-le 129 sample (omega arith) ∙ sym (length-take-le 129 thread (omega arith))),
      )

  many_cut : 128 < length thread → input_refusal (input_of threads slots thread kind sample schedule) ≡ input_refusal (input_of threads slots (take 129 thread) (take 129 kind) (take 129 sample) (take 4097 schedule))
  unfolding input_refusal
  many_cut h =
      rw (one_length, cut_length h, lt-leb (length thread) 128 h, lt-leb (length (take 129 thread)) 128 (rw (length-take-le 129 thread (omega arith)) (omega arith)))

  long_cut : 4096 < length schedule → schedule_refusal threads slots kind schedule ≡ schedule_refusal threads slots kind (take 4097 schedule)
  unfolding schedule_refusal
  long_cut h = rw (lt-leb (length schedule) 4096 h, lt-leb (length (take 4097 schedule)) 4096 (rw (length-take-le 4097 schedule (omega arith)) (omega arith)))

  steps_cut : input_refusal (input_of threads slots thread kind sample schedule) ≡ input_refusal (input_of threads slots thread kind sample (take 4097 schedule))
  unfolding input_refusal schedule_refusal
  steps_cut = go (leb (length schedule) 4096) refl
    where
      go : (b : Bool) → leb (length schedule) 4096 ≡ b → input_refusal (input_of threads slots thread kind sample schedule) ≡ input_refusal (input_of threads slots thread kind sample (take 4097 schedule))
      go true e = ap (λ (ss : List ℕ). input_refusal (input_of threads slots thread kind sample ss)) (sym (take_all 4097 schedule (omega (arith, leb-true (length schedule) 4096 e))))
      go false e =
          ap (λ (f : Fit). unless (within 1 16 threads) Threads (unless (within 1 64 slots) Slots (unless (together thread kind sample) Lengths (unless (leb (length thread) 128) Operations
          (unless_at (lowest (unfit_at threads thread kind sample) (length thread)) Operation f))))) (long_cut (leb-false (length schedule) 4096 e))

  pub input_cut : input_refusal (input_of threads slots thread kind sample schedule) ≡ input_refusal (input_of threads slots (take 129 thread) (take 129 kind) (take 129 sample) (take 4097 schedule))
  input_cut = go (leb (length thread) 128) refl
    where
      go : (b : Bool) → leb (length thread) 128 ≡ b → input_refusal (input_of threads slots thread kind sample schedule) ≡ input_refusal (input_of threads slots (take 129 thread) (take 129 kind) (take 129 sample) (take 4097 schedule))
      go true e =
          let h = leb-true (length thread) 128 e in
          steps_cut ∙ (λ i. input_refusal (input_of threads slots (sym (take_all 129 thread (omega arith)) i) (sym (take_all 129 kind (omega arith)) i) (sym (take_all 129 sample (omega arith)) i) (take 4097 schedule)))
      go false e = many_cut (leb-false (length thread) 128 e)
