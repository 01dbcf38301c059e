-- From what the core says of its sixteen records by value to what the run says of the lent ones. Assumes nothing.
--   fits           what an accepted run has passed: few threads, room for their records, a record for each
--   few_threads    no more records are stored than the core has or the caller has room for
--   says_ran       the first of the core's records are those of the threads, so storing them is all that was missing
--   says_refused   a refused run leaves the lent records as they are
use Rattle.std.specs.Prelude.{Err, Ok}
use Rattle.limits.specs.Refusals.{Fit}
use Rattle.limits.specs.declared.Refusal.{Refusal}
use mathlib.Core.Path.{◌≡◌, ◌∙◌}
use mathlib.Core.List.{List, ◌++◌}
use Prim.Native.Nat.{◌≤◌}
use lib.ListN.{length, take, drop, replicate, length-map}
use lib.Seq.{take_at}
use Rattle.limits.specs.Operations.{Input, table}
use Rattle.machine.specs.declared.ThreadRecord.{ThreadRecord}
use Rattle.machine.specs.Bench.{Bench}
use Rattle.machine.specs.Shown.{records}
use Rattle.machine.proofs.RunLaws.{workers_length}
use Rattle.run.specs.declared.Ran.{Ran}
use Rattle.run.specs.Run.{Lists, run_fit, bench_after}
use Rattle.run.specs.Core.{rest_record, records_after, core_of, RunSays}
use Rattle.run.proofs.PassedLaws.{passed_run}
use Rattle.run.proofs.FitLaws.{fit_passed, fit_rooms, ran_fit, ran_summary}
use Rattle.records.specs.Records.{RecordsSay}

module _ (i : Input) (l : Lists) (rs : List ThreadRecord) where
  abbrev B : Bench
  B = bench_after i

  abbrev fit : Fit
  fit = run_fit i l (length rs)

  -- no more threads than sixteen or than the lent list has entries, and a record for each
  pub record Fits : Type 0 where
    pub few : i.threads ≤ 16
    pub room : i.threads ≤ length rs
    pub size : length (records B) ≡ i.threads

  -- the first two were tested; and no step of the bench adds or loses a thread
  pub fits : fit ≡ Ok tt → Fits
  fits e =
      let p = fit_passed i l (length rs) e in
      record {
        few = p.threads_most;
        room = (fit_rooms i l (length rs) e).records;
        size = length-map B.workers _ ∙ workers_length (table i) i.threads i.slots B (passed_run i p);
      }

  -- ---- what the core says, and then the run

  module _ (m : Lists) (ran : Ran) (core : RunSays i l m (length rs) (Ok ran)) where
    pass : fit ≡ Ok tt
    pass = ran_fit (core_of i) fit core.answer

    shown : ran ≡ core_of i
    shown = ran_summary (core_of i) fit core.answer

    -- no more records are stored than the core has or the caller has room for
    pub few_threads : (i.threads ≤ 16) × (i.threads ≤ length rs)
    few_threads = let p = fits pass in (p.few, p.room)

    -- the core's records begin with those of the threads
    pub says_ran : (rs' : List ThreadRecord) → rs' ≡ take i.threads ran.records ++ drop i.threads rs → RecordsSay i l m rs rs' (Ok ran.summary)
    unfolding records_after
    says_ran rs' stored =
        let size = (fits pass).size in
        record {
          answer = rw (pass, shown);
          lists = core.lists;
          records = rw (stored, pass, shown, take_at (records B) (drop i.threads (replicate 16 rest_record)) i.threads size, size);
        }

  pub says_refused : (m : Lists) (r : Refusal) → RunSays i l m (length rs) (Err r) → RecordsSay i l m rs rs (Err r)
  says_refused m r core =
      let e : fit ≡ Err r = ran_fit (core_of i) fit core.answer in
      record { answer = rw e; lists = core.lists; records = rw e }
