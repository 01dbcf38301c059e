-- What the judge answers, for every input (document 01, 'The judge'; refusals 1, 3, 4, 5 and 10). Assumes nothing.
--   fails          whether a decision is against
--   judge_refusal  the lowest refusal that applies, or none
--   judged         the refusal, or the verdict
use Rattle.limits.specs.Refusals.{Fit}
use Rattle.limits.specs.declared.Refusal.{Refusal}
use Rattle.linear.specs.declared.Verdict.{Verdict}
use Rattle.std.specs.Prelude.{Bool, true, false, ◌&&◌, List, ℕ, leb, eqb, ℤ, length, Err, Ok, Result}
use Rattle.limits.specs.declared.Refusal.TheVariants.{Threads, Lengths, Operations, Operation, Event}
use Rattle.limits.specs.Lists.{lowest}
use Rattle.limits.specs.Operations.{table_of}
use Rattle.limits.specs.Refusals.{unless, unless_at, by_fit, within, together, unfit_at}
use Rattle.history.specs.History.{events}
use Rattle.linear.specs.Verdict.{verdict}
use Rattle.judge.specs.Decide.{stands?}

abbrev pub fails : {P : Type 0} → Dec P → Bool
fails (yes _) = false
fails (no _) = true

-- 1; 3, of the three operation lists and of the two lists of the history; 4; 5; 10, at the lowest event that cannot stand
unfoldable pub judge_refusal : ℕ → List ℕ → List ℕ → List ℤ → List ℕ → List ℤ → Fit
judge_refusal threads thread kind sample codes samples =
    unless (within 1 16 threads) Threads
    (unless (together thread kind sample && eqb (length samples) (length codes)) Lengths
    (unless (leb (length thread) 128) Operations
    (unless_at (lowest (unfit_at threads thread kind sample) (length thread)) Operation
    (unless_at (lowest (λ i. fails (stands? (table_of thread kind sample) codes samples i)) (length codes)) Event
    (Ok tt)))))

unfoldable pub judged : ℕ → List ℕ → List ℕ → List ℤ → List ℕ → List ℤ → List ℕ → Result Verdict Refusal
judged threads thread kind sample codes samples order =
    let T = table_of thread kind sample in by_fit (judge_refusal threads thread kind sample codes samples) (Ok (verdict T (events T codes samples) order)) Err
