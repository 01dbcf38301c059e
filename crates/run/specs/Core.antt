-- Nothing in this file has to be believed by a reader of the claims: what `run_core` says, which gives the thread records by value and not in a lent list.
-- What is lent, answered and written is that of Run.antt. Assumes nothing.
--   records_after  the records of the threads, and resting ones up to 16
--   core_of        an accepted run: its numbers, and the records
--   RunSays        from the input, the lent lists l and the room for records to the lists m afterwards and the answer, with the records by value
use Rattle.std.specs.Prelude.{◌≡◌, List, ◌++◌, ℕ, drop, replicate, Result, Ok, Err}
use Rattle.limits.specs.declared.Refusal.{Refusal}
use Rattle.limits.specs.Operations.{Input}
use Rattle.limits.specs.Refusals.{by_fit}
use Rattle.machine.specs.Bench.{Bench}
use Rattle.machine.specs.declared.Phase.TheVariants.{Rest}
use Rattle.machine.specs.declared.ThreadRecord.{ThreadRecord}
use Rattle.machine.specs.Shown.{records}
use Rattle.run.specs.declared.Ran.{Ran}
use Rattle.run.specs.Run.{Lists, run_fit, bench_after, summary_of, lists_after}

abbrev pub rest_record : ThreadRecord
rest_record = record { phase = Rest }

unfoldable pub records_after : ℕ → Bench → List ThreadRecord
records_after threads B = records B ++ drop threads (replicate 16 rest_record)

abbrev pub core_of : Input → Ran
core_of i = record { summary = summary_of i; records = records_after i.threads (bench_after i) }

pub record RunSays (i : Input) (l m : Lists) (room : ℕ) (r : Result Ran Refusal) : Type 0 where
  pub answer : r ≡ by_fit (run_fit i l room) (Ok (core_of i)) Err
  pub lists : m ≡ lists_after (run_fit i l room) (bench_after i) l
