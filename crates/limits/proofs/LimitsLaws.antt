-- Laws of the chains of tests of this crate, one for each way out, and of signed numbers and their bits. Assumes nothing.
use Rattle.std.specs.Prelude.{Err, Ok}
use Rattle.limits.specs.Refusals.{Fit}
use mathlib.Core.Path.{◌≡◌, refl}
use mathlib.Core.Bool.{Bool, true, false, ◌&&◌, false≢true}
use mathlib.Core.List.{List}
use Prim.Native.Nat.{ℕ, ◌≤◌, ◌<◌, ◌^◌}
use lib.Dec.{eqb}
use lib.IntN.{ℤ}
use lib.ListN.{length}
use mir.Facts.{to_z-of_z}
use mir.Syntax.{w32}
use mir.Val.{to_z, of_z}
use lib.Signed.{mag}
use borrow.Author.Tests.{eqb-true, le-leb, lt-leb}
use Rattle.limits.specs.declared.Refusal.TheVariants.{Threads, Slots, Lengths, Operations, Operation, Puts, Schedule, Entry}
use Rattle.limits.specs.Lists.{lowest}
use Rattle.limits.specs.Operations.{input_of, puts_in}
use Rattle.limits.specs.Refusals.{unless_at, within, together, unfit_at, input_refusal}
use Rattle.limits.specs.Parts.{stray_at, schedule_refusal, table_refusal}

-- a sample of 32 bits comes back from its bits
pub back32 : (z : ℤ) → mag z < 2 ^ 31 → to_z w32 (of_z w32 z) ≡ z
back32 z p = to_z-of_z {w = w32} (record { sfits = p })

-- ---- the chains of tests: one law for each way out

module _ (threads slots : ℕ) (kind schedule : List ℕ) where
  pub schedule_puts : slots < puts_in kind → schedule_refusal threads slots kind schedule ≡ Err Puts
  unfolding schedule_refusal
  schedule_puts h = rw (lt-leb (puts_in kind) slots h)

  pub schedule_long : puts_in kind ≤ slots → 4096 < length schedule → schedule_refusal threads slots kind schedule ≡ Err Schedule
  unfolding schedule_refusal
  schedule_long h k = rw (le-leb (puts_in kind) slots h, lt-leb (length schedule) 4096 k)

  pub schedule_by : puts_in kind ≤ slots → length schedule ≤ 4096 → schedule_refusal threads slots kind schedule ≡ unless_at (lowest (stray_at threads schedule) (length schedule)) Entry (Ok tt)
  unfolding schedule_refusal
  schedule_by h k = rw (le-leb (puts_in kind) slots h, le-leb (length schedule) 4096 k)

module _ (threads : ℕ) (thread kind : List ℕ) (sample : List ℤ) where
  abbrev tabled : Fit
  tabled = table_refusal threads thread kind sample

  pub table_threads : within 1 16 threads ≡ false → tabled ≡ Err Threads
  unfolding table_refusal
  table_threads a = rw a

  pub table_lengths : within 1 16 threads ≡ true → together thread kind sample ≡ false → tabled ≡ Err Lengths
  unfolding table_refusal
  table_lengths a b = rw (a, b)

  pub table_operations : within 1 16 threads ≡ true → together thread kind sample ≡ true → 128 < length thread → tabled ≡ Err Operations
  unfolding table_refusal
  table_operations a b k = rw (a, b, lt-leb (length thread) 128 k)

  pub table_by : within 1 16 threads ≡ true → together thread kind sample ≡ true → length thread ≤ 128
      → tabled ≡ unless_at (lowest (unfit_at threads thread kind sample) (length thread)) Operation (Ok tt)
  unfolding table_refusal
  table_by a b k = rw (a, b, le-leb (length thread) 128 k)

module _ (threads slots : ℕ) (thread kind : List ℕ) (sample : List ℤ) (schedule : List ℕ) where
  abbrev entered : Fit
  entered = input_refusal (input_of threads slots thread kind sample schedule)

  pub input_threads : within 1 16 threads ≡ false → entered ≡ Err Threads
  unfolding input_refusal
  input_threads a = rw a

  pub input_slots : within 1 16 threads ≡ true → within 1 64 slots ≡ false → entered ≡ Err Slots
  unfolding input_refusal
  input_slots a b = rw (a, b)

  pub input_lengths : within 1 16 threads ≡ true → within 1 64 slots ≡ true → together thread kind sample ≡ false → entered ≡ Err Lengths
  unfolding input_refusal
  input_lengths a b d = rw (a, b, d)

  pub input_operations : within 1 16 threads ≡ true → within 1 64 slots ≡ true → together thread kind sample ≡ true → 128 < length thread → entered ≡ Err Operations
  unfolding input_refusal
  input_operations a b d k = rw (a, b, d, lt-leb (length thread) 128 k)

  pub input_by : within 1 16 threads ≡ true → within 1 64 slots ≡ true → together thread kind sample ≡ true → length thread ≤ 128
      → entered ≡ unless_at (lowest (unfit_at threads thread kind sample) (length thread)) Operation (schedule_refusal threads slots kind schedule)
  unfolding input_refusal schedule_refusal
  input_by a b d k = rw (a, b, d, le-leb (length thread) 128 k)

-- lists that go together are of one length
pub together_lengths : (thread kind : List ℕ) (sample : List ℤ) → together thread kind sample ≡ true → (length kind ≡ length thread) × (length sample ≡ length thread)
together_lengths thread kind sample e = go (eqb (length kind) (length thread)) (eqb (length sample) (length thread)) refl refl e
  where
    go : (a b : Bool) → eqb (length kind) (length thread) ≡ a → eqb (length sample) (length thread) ≡ b → (a && b) ≡ true → (length kind ≡ length thread) × (length sample ≡ length thread)
    go true true p q r = (eqb-true (length kind) (length thread) p, eqb-true (length sample) (length thread) q)
    go true false p q r = absurd (false≢true r)
    go false true p q r = absurd (false≢true r)
    go false false p q r = absurd (false≢true r)
