-- A run whose caller also lends the thread records (document 01, 'The caller lends: …' under 'History, order, and what a run writes'). Assumes nothing.
--   RecordsSay   all that such a run says, for every input: from the input i, the lent lists l and the lent records rs to the lists m and the records rs'
--                afterwards and the answer. The first records are those of the threads, one for each, in the order of their numbers
use Rattle.limits.specs.declared.Refusal.{Refusal}
use Rattle.run.specs.declared.Summary.{Summary}
use Rattle.std.specs.Prelude.{◌≡◌, List, length, Err, Ok, Result}
use Rattle.limits.specs.Operations.{Input}
use Rattle.limits.specs.Refusals.{by_fit, lent_after}
use Rattle.machine.specs.declared.ThreadRecord.{ThreadRecord}
use Rattle.machine.specs.Shown.{records}
use Rattle.run.specs.Run.{Lists, run_fit, bench_after, summary_of, lists_after}

pub record RecordsSay (i : Input) (l m : Lists) (rs rs' : List ThreadRecord) (r : Result Summary Refusal) : Type 0 where
  pub answer : r ≡ by_fit (run_fit i l (length rs)) (Ok (summary_of i)) Err
  pub lists : m ≡ lists_after (run_fit i l (length rs)) (bench_after i) l
  pub records : rs' ≡ lent_after (run_fit i l (length rs)) (records (bench_after i)) rs
