-- What a run says, told in numbers: refused, every lent list is as it was; accepted, the record lists show the bench's threads. Assumes nothing.
--   rooms           an accepted run has few threads, and room for each in every record list
--   tells_refused   what a refused run tells
--   tells_ran       what an accepted run tells
use Rattle.std.specs.Prelude.{Err, Ok, Result}
use Rattle.std.proofs.lemmas.Bool.Decides.{nat_tests}
use Rattle.std.proofs.lemmas.Simd.{map-map}
use Rattle.limits.specs.Refusals.{Fit}
use mathlib.Core.Path.{◌≡◌, ap, ◌∙◌}
use mathlib.Core.List.{List, map}
use Prim.Native.Nat.{ℕ, ◌≤◌, min}
use native.Mathlib.Omega.{arith}
use lib.IntN.{ℤ}
use lib.ListN.{length, take, drop, replicate, length-map}
use lib.Seq.{take_at}
use Rattle.limits.specs.declared.Refusal.{Refusal}
use Rattle.limits.specs.Lists.{over}
use Rattle.limits.specs.Operations.{Input, table}
use Rattle.limits.specs.Refusals.{lent_after}
use Rattle.machine.specs.declared.Phase.{Phase}
use Rattle.machine.specs.declared.ThreadRecord.{ThreadRecord}
use Rattle.machine.specs.Bench.{Bench, Worker}
use Rattle.machine.specs.Shown.{phase_told, records}
use Rattle.machine.proofs.RunLaws.{workers_length}
use Rattle.run.specs.declared.Ran.{Ran}
use Rattle.run.specs.Run.{Lists, run_fit, bench_after}
use Rattle.run.specs.Core.{rest_record, records_after, core_of, RunSays}
use Rattle.run.proofs.PassedLaws.{passed_run}
use Rattle.run.proofs.FitLaws.{fit_passed, fit_rooms, ran_fit, ran_summary}
use Rattle.outside.specs.declared.RunAnswer.{RunAnswer}
use Rattle.outside.specs.Outside.{lower, RunTells}
use Rattle.outside.specs.Told.{outcome_numbers}
use Rattle.outside.specs.RecordTwin.{Shows}

-- ---- the lowest of three numbers

lower_is : (a b : ℕ) → min a b ≡ lower a b
lower_is a b = grind (arith, nat_tests)

least_low : (a b c n : ℕ) → n ≤ lower (lower a b) c → (n ≤ a) × (n ≤ b) × (n ≤ c)
least_low a b c n h = let k : n ≤ min (min a b) c = rw (lower_is (min a b) c, lower_is a b) h in (omega arith, omega arith, omega arith)

-- for how many records the three lists have room
abbrev pub room : List ℕ → List ℤ → List ℕ → ℕ
room ps ns es = lower (lower (length ps) (length ns)) (length es)

room_is : (ps : List ℕ) (ns : List ℤ) (es : List ℕ) (n r : ℕ) → n ≡ min (length ps) (length ns) → r ≡ min n (length es) → r ≡ room ps ns es
room_is ps ns es n r a b = b ∙ lower_is n (length es) ∙ ap (λ (k : ℕ). lower k (length es)) (a ∙ lower_is (length ps) (length ns))

module _ (i : Input) (l : Lists) (ps : List ℕ) (ns : List ℤ) (es : List ℕ) where
  abbrev free : ℕ
  free = room ps ns es

  abbrev fit : Fit
  fit = run_fit i l free

  abbrev B : Bench
  B = bench_after i

  -- few threads, and room for what each shows in every record list
  pub record Rooms : Type 0 where
    pub most : i.threads ≤ 16
    pub phases : i.threads ≤ length ps
    pub numbers : i.threads ≤ length ns
    pub ends : i.threads ≤ length es

  module _ (passes : fit ≡ Ok tt) where
    -- no step of the bench adds or loses a thread
    many : length B.workers ≡ i.threads
    many =
        workers_length (table i) i.threads i.slots B
        (passed_run i (fit_passed i l free passes))

    -- the first records are the bench's, so they show what its threads show
    first : take i.threads (records_after i.threads B) ≡ records B
    unfolding records_after
    first = take_at (records B) (drop i.threads (replicate 16 rest_record)) i.threads (length-map B.workers _ ∙ many)

    over_threads : {A : Type 0} (f : Phase → A) (ran : Ran) (out : List A) → ran ≡ core_of i
        → over (map (λ (r : ThreadRecord). f r.phase) (take i.threads ran.records)) out ≡ lent_after fit (map (λ (w : Worker). f w.phase) B.workers) out
    over_threads {A} f ran out e =
        rw (passes, e) (ap (λ (l : List A). over l out) (ap (map (λ (r : ThreadRecord). f r.phase)) first ∙ map-map (λ (r : ThreadRecord). f r.phase) _ B.workers))

  -- what the run says, asked for as many records as there is room for
  pub says_within : (n r : ℕ) (m : Lists) (q : Result Ran Refusal) → n ≡ min (length ps) (length ns) → r ≡ min n (length es) → RunSays i l m r q → RunSays i l m free q
  says_within n r m q a b says = rw (room_is ps ns es n r a b) at says

  -- ---- refused: nothing is written

  pub tells_refused : (m : Lists) (a : RunAnswer) (x : Refusal) → RunSays i l m free (Err x) → a ≡ outcome_numbers (Err x) → RunTells i l ps ns es m ps ns es a
  tells_refused m a x says told =
      let unfit : fit ≡ Err x = ran_fit (core_of i) fit says.answer in
      record { answer = rw unfit told; lists = says.lists; phases = rw unfit; numbers = rw unfit; ends = rw unfit }

  -- ---- accepted: the record lists show the threads

  module _ (m : Lists) (ran : Ran) (says : RunSays i l m free (Ok ran)) where
    pass : fit ≡ Ok tt
    pass = ran_fit (core_of i) fit says.answer

    is_core : ran ≡ core_of i
    is_core = ran_summary (core_of i) fit says.answer

    pub rooms : Rooms
    rooms =
        let k = least_low (length ps) (length ns) (length es) i.threads (fit_rooms i l free pass).records in
        record { most = (fit_passed i l free pass).threads_most; phases = k.0; numbers = k.1; ends = k.2 }

    pub tells_ran : (a : RunAnswer) (ps' : List ℕ) (ns' : List ℤ) (es' : List ℕ) → a ≡ outcome_numbers (Ok ran.summary) → Shows (take i.threads ran.records) ps ns es ps' ns' es'
        → RunTells i l ps ns es m ps' ns' es' a
    tells_ran a ps' ns' es' told shows = record {
      answer = rw pass (told ∙ ap (λ (x : Ran). outcome_numbers (Ok x.summary)) is_core);
      lists = says.lists;
      phases = shows.phases ∙ over_threads pass (λ (x : Phase). (phase_told x).0) ran ps is_core;
      numbers = shows.numbers ∙ over_threads pass (λ (x : Phase). (phase_told x).1) ran ns is_core;
      ends = shows.ends ∙ over_threads pass (λ (x : Phase). (phase_told x).2) ran es is_core;
    }
