-- What the exported functions answer, in numbers only (document 01, 'History, order, and what a run writes', 'The judge', 'Numbered refusals').
-- Assumes nothing.
--   run_numbers   a run's answer: a refusal's number and detail, and the nine numbers of a run; a run that is accepted has the refusal 0, 0, one that is
--                 refused the numbers `nothing`
--   lower         the lower of two numbers
--   RunTells      all that a run says to a caller from outside: from the input i, the lent lists l and three more for the thread records (phase codes,
--                 phase numbers, ends) to the lists afterwards and the answer; there is room for as many records as the shortest of the three has entries
--   judge_numbers  the judge's answer: 0, 0 and the verdict's number; or the refusal's number, its detail, and 0
use Rattle.limits.specs.Refusals.{Fit}
use Rattle.limits.specs.declared.Refusal.{Refusal}
use Rattle.linear.specs.declared.Verdict.{Verdict}
use Rattle.std.specs.Prelude.{◌≡◌, cond, List, map, ℕ, leb, ℤ, length, Err, Ok, Result}
use Rattle.limits.specs.Operations.{Input}
use Rattle.limits.specs.Refusals.{refusal_told, by_fit, lent_after}
use Rattle.machine.specs.Bench.{Worker}
use Rattle.machine.specs.Shown.{phase_told}
use Rattle.run.specs.declared.Summary.{Summary}
use Rattle.run.specs.Run.{Lists, run_fit, bench_after, summary_of, lists_after}
use Rattle.linear.specs.Numbers.{verdict_number}
use Rattle.outside.specs.declared.RunAnswer.{RunAnswer}
use Rattle.outside.specs.declared.JudgeAnswer.{JudgeAnswer}

abbrev pub run_numbers : ℕ × ℕ → Summary → RunAnswer
run_numbers refusal s =
    record {
      refusal = refusal.0;
      detail = refusal.1;
      events = s.events;
      order = s.order;
      back = s.back;
      steps = s.steps;
      idle = s.idle;
      stores = s.stores;
      swaps = s.swaps;
      finds = s.finds;
      fruitless = s.fruitless;
    }

abbrev pub nothing : Summary
nothing = record { events = 0; order = 0; back = 0; steps = 0; idle = 0; stores = 0; swaps = 0; finds = 0; fruitless = 0 }

abbrev pub lower : ℕ → ℕ → ℕ
lower a b = cond (leb a b) a b

module _ (i : Input) (l : Lists) (ps : List ℕ) (ns : List ℤ) (es : List ℕ) where
  abbrev fit : Fit
  fit = run_fit i l (lower (lower (length ps) (length ns)) (length es))

  pub record RunTells (m : Lists) (ps' : List ℕ) (ns' : List ℤ) (es' : List ℕ) (r : RunAnswer) : Type 0 where
    pub answer : r ≡ by_fit fit (run_numbers (0, 0) (summary_of i)) (λ x. run_numbers (refusal_told x) nothing)
    pub lists : m ≡ lists_after fit (bench_after i) l
    pub phases : ps' ≡ lent_after fit (map (λ (w : Worker). (phase_told w.phase).0) (bench_after i).workers) ps
    pub numbers : ns' ≡ lent_after fit (map (λ (w : Worker). (phase_told w.phase).1) (bench_after i).workers) ns
    pub ends : es' ≡ lent_after fit (map (λ (w : Worker). (phase_told w.phase).2) (bench_after i).workers) es

abbrev pub judge_numbers : Result Verdict Refusal → JudgeAnswer
judge_numbers (Ok v) = record { refusal = 0; detail = 0; verdict = verdict_number v }
judge_numbers (Err r) = record { refusal = (refusal_told r).0; detail = (refusal_told r).1; verdict = 0 }
