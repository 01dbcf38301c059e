-- The judge passes what every accepted run writes (document 01, 'The judge'): it refuses nothing of it, and says 0. Assumes nothing.
use Rattle.std.specs.Prelude.{Ok}
use mathlib.Core.Path.{◌≡◌, refl, sym, ap, ◌∙◌}
use mathlib.Core.Bool.{true, false}
use mathlib.Core.List.{List}
use Prim.Native.Nat.{ℕ}
use lib.Dec.{leb, eqb}
use lib.IntN.{ℤ}
use lib.ListN.{length, length-map}
use borrow.Author.Tests.{eq-eqb}
use Rattle.limits.specs.declared.Refusal.TheVariants.{Threads, Lengths, Operations}
use Rattle.limits.specs.Operations.{table_of}
use Rattle.limits.proofs.FitLaws.{unless_pass, lowest_none}
use Rattle.limits.specs.Refusals.{within, together}
use Rattle.limits.specs.Parts.{table_refusal}
use Rattle.history.specs.History.{code_of, beside}
use Rattle.linear.specs.declared.Verdict.TheVariants.{Linear}
use Rattle.judge.specs.Decide.{stands?}
use Rattle.judge.specs.Judge.{fails, judge_refusal, judged}
use Rattle.judge.specs.Marks.{event_refusal}
use Rattle.machine.specs.Bench.{Bench}
use Rattle.machine.specs.Shown.{order, codes, samples}
use Rattle.machine.proofs.RunLaws.{Run}
use Rattle.machine.proofs.ChainLaws.{OrderedAt}
use Rattle.theorems.proofs.OrderLaws.{run_stands, run_verdict}

-- ---- tests that pass

holds_not : {P : Type 0} (d : Dec P) → P → fails d ≡ false
holds_not (yes _) p = refl
holds_not (no n) p = absurd (n p)

-- what the judge tests of the table is what passes in a run's input
judge_passes : (threads : ℕ) (thread kind : List ℕ) (sample : List ℤ) (cs : List ℕ) (xs : List ℤ) → table_refusal threads thread kind sample ≡ Ok tt
    → eqb (length xs) (length cs) ≡ true → event_refusal thread kind sample cs xs ≡ Ok tt → judge_refusal threads thread kind sample cs xs ≡ Ok tt
unfolding table_refusal judge_refusal event_refusal
judge_passes threads thread kind sample cs xs e same events =
    let a = unless_pass (within 1 16 threads) Threads _ e in
    let b = unless_pass (together thread kind sample) Lengths _ a.1 in
    let c = unless_pass (leb (length thread) 128) Operations _ b.1 in
    rw (a.0, b.0, same, c.0, events) c.1

-- ---- what a run writes

module _ (threads slots : ℕ) (thread kind : List ℕ) (sample : List ℤ) (B : Bench)
    (r : Run (table_of thread kind sample) threads slots B) (i : OrderedAt (table_of thread kind sample) threads B) where
  -- each event can stand
  events_pass : event_refusal thread kind sample (codes B) (samples B) ≡ Ok tt
  unfolding event_refusal
  events_pass = rw (lowest_none (λ j. fails (stands? (table_of thread kind sample) (codes B) (samples B) j)) (length (codes B))
      (λ j lt. holds_not (stands? (table_of thread kind sample) (codes B) (samples B) j) (run_stands (table_of thread kind sample) threads slots B r i j lt)))

  pub run_judged : table_refusal threads thread kind sample ≡ Ok tt → judged threads thread kind sample (codes B) (samples B) (order B) ≡ Ok Linear
  unfolding judged
  run_judged e =
      rw (judge_passes threads thread kind sample (codes B) (samples B) e
      (eq-eqb (length (samples B)) (length (codes B)) (length-map B.history beside ∙ sym (length-map B.history code_of))) events_pass)
      (ap Ok (run_verdict (table_of thread kind sample) threads slots B r i))
