-- Laws of the judge's refusals: the lowest position of an event that cannot stand, and the chain of tests. Assumes nothing.
use Rattle.std.proofs.Common.{◌≡◌, ◌≢◌, Bool, true, false, ◌&&◌, eqb, leb, ℕ, ◌<◌, ℤ, List, length, Option, Some, None, Ok, Err, refl, sym}
use Rattle.std.proofs.Math.Bool.{and-true, and-false}
use Rattle.std.proofs.lemmas.Bool.{false≢true}
use borrow.Author.Tests.{eqb-true, eq-eqb, ne_eqb, leb-true}
use Rattle.limits.specs.declared.Refusal.{Refusal}
use Rattle.limits.specs.declared.Refusal.TheVariants.{Threads, Lengths, Operations, Operation, Event}
use Rattle.limits.specs.declared.Table.{Table}
use Rattle.limits.specs.Lists.{lowest}
use Rattle.limits.specs.Operations.{table_of}
use Rattle.limits.specs.Refusals.{Fit, unless, unless_at, and_then, within, together, unfit_at}
use Rattle.limits.specs.Parts.{table_refusal}
use Rattle.limits.proofs.LimitsLaws.{together_lengths}
use Rattle.limits.proofs.SearchLaws.{lowest_first}
use Rattle.limits.proofs.FitLaws.{unless_pass, unless_at_pass, both_true, nowhere, lowest_none}
use Rattle.judge.specs.Stand.{StandsAt}
use Rattle.judge.specs.Decide.{stands?}
use Rattle.judge.specs.Judge.{fails, judge_refusal}
use Rattle.judge.specs.Marks.{Fitting, event_refusal}

-- ---- a decision goes by what holds

fails_so : {P : Type 0} (d : Dec P) → P → fails d ≡ false
fails_so (yes _) p = refl
fails_so (no n) p = absurd (n p)

fails_not : {P : Type 0} (d : Dec P) → ¬ P → fails d ≡ true
fails_not (yes p) n = absurd (n p)
fails_not (no _) n = refl

not_fails : {P : Type 0} (d : Dec P) → fails d ≡ false → P
not_fails (yes p) e = p
not_fails (no _) e = absurd (false≢true (sym e))

-- ---- a chain that goes on after its end

unless_then : (b : Bool) (r : Refusal) (f g : Fit) → and_then (unless b r f) g ≡ unless b r (and_then f g)
unless_then true r f g = refl
unless_then false r f g = refl

unless_at_then : (p : Option ℕ) (r : ℕ → Refusal) (f g : Fit) → and_then (unless_at p r f) g ≡ unless_at p r (and_then f g)
unless_at_then None r f g = refl
unless_at_then (Some i) r f g = refl

-- ---- refusal 10

module _ (thread kind : List ℕ) (sample : List ℤ) (cs : List ℕ) (xs : List ℤ) where
  -- an event can stand
  abbrev At : ℕ → Type 0
  At = StandsAt (table_of thread kind sample) cs xs

  abbrev at? : (i : ℕ) → Dec (At i)
  at? = stands? (table_of thread kind sample) cs xs

  -- reading stops at the lowest event that cannot stand
  pub event_stops : (i : ℕ) → i < length cs → ¬ At i → ((j : ℕ) → j < i → At j) → event_refusal thread kind sample cs xs ≡ Err (Event i)
  unfolding event_refusal
  event_stops i lt n f = rw (lowest_first (λ j. fails (at? j)) (length cs) i lt (fails_not (at? i) n) (λ j l. fails_so (at? j) (f j l)))

  -- or nowhere
  pub event_passes : ((j : ℕ) → j < length cs → At j) → event_refusal thread kind sample cs xs ≡ Ok tt
  unfolding event_refusal
  event_passes f = rw (lowest_none (λ j. fails (at? j)) (length cs) (λ j l. fails_so (at? j) (f j l)))

  -- what passes has no such event
  pub passes_stand : event_refusal thread kind sample cs xs ≡ Ok tt → (j : ℕ) → j < length cs → At j
  unfolding event_refusal
  passes_stand e j lt =
      not_fails (at? j) (nowhere (λ j. fails (at? j)) (length cs) (unless_at_pass (lowest (λ j. fails (at? j)) (length cs)) Event (Ok tt) e).0 j lt)

-- ---- the chain

-- what a table that passes has
pub table_fits : (threads : ℕ) (t : Table) → table_refusal threads t.thread.now t.kind.now t.sample.now ≡ Ok tt → Fitting t
unfolding table_refusal
table_fits threads t e =
    let a = unless_pass (within 1 16 threads) Threads _ e in
    let b = unless_pass (together t.thread.now t.kind.now t.sample.now) Lengths _ a.1 in
    let c = unless_pass (leb (length t.thread.now) 128) Operations _ b.1 in
    let lengths = together_lengths t.thread.now t.kind.now t.sample.now b.0 in
    record { few = leb-true (length t.thread.now) 128 c.0; even = (lengths.0, lengths.1) }

module _ (threads : ℕ) (thread kind : List ℕ) (sample : List ℤ) (cs : List ℕ) (xs : List ℤ) where
  -- the ways out
  pub chain_threads : within 1 16 threads ≡ false → judge_refusal threads thread kind sample cs xs ≡ Err Threads
  unfolding judge_refusal
  chain_threads e = rw e

  pub chain_lengths : within 1 16 threads ≡ true → length xs ≢ length cs → judge_refusal threads thread kind sample cs xs ≡ Err Lengths
  unfolding judge_refusal
  chain_lengths e ne = rw (e, ne_eqb (length xs) (length cs) ne, and-false (together thread kind sample))

  -- where the lists of the history go together, the table's tests come first, then the events
  pub chain_together : length xs ≡ length cs → judge_refusal threads thread kind sample cs xs ≡ and_then (table_refusal threads thread kind sample) (event_refusal thread kind sample cs xs)
  unfolding judge_refusal table_refusal event_refusal
  chain_together e = rw (eq-eqb (length xs) (length cs) e, and-true (together thread kind sample)) (simp (unless_then, unless_at_then))

  -- what an input that is not refused has
  pub chain_pass : judge_refusal threads thread kind sample cs xs ≡ Ok tt → (length xs ≡ length cs) × (event_refusal thread kind sample cs xs ≡ Ok tt)
  unfolding judge_refusal event_refusal
  chain_pass e =
      let a = unless_pass (within 1 16 threads) Threads _ e in
      let b = unless_pass (together thread kind sample && eqb (length xs) (length cs)) Lengths _ a.1 in
      let c = unless_pass (leb (length thread) 128) Operations _ b.1 in
      let d = unless_at_pass (lowest (unfit_at threads thread kind sample) (length thread)) Operation _ c.1 in
      (eqb-true (length xs) (length cs) (both_true (together thread kind sample) (eqb (length xs) (length cs)) b.0).1, d.1)
