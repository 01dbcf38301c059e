-- What the run says of the lent records, entry by entry (document 01: 'one for each thread', 'fills the first entries that it has and touches no entry after them'). Assumes nothing.
--   record_of_thread   after an accepted run entry t is the record of thread t
--   record_after       every entry after those is as it was
--   records_refused    after a refused run every entry is
--   records_length     no entry is added or lost
use Rattle.std.specs.Prelude.{Err, Ok, Result}
use Rattle.limits.specs.Refusals.{Fit}
use Rattle.run.specs.declared.Summary.{Summary}
use mathlib.Core.Path.{◌≡◌, refl, sym, ap, ◌∙◌}
use mathlib.Core.List.{List, [], ◌∷◌, ◌++◌, map}
use Prim.Native.Nat.{ℕ, zero, suc, ◌+◌, ◌-◌, ◌≤◌, ◌<◌}
use native.Mathlib.Omega.{arith}
use lib.ListN.{length, get_or, take, drop, length-append, length-drop}
use lib.Seq.{take_at, get_or-take, get_or-append-add, get_or-drop}
use Rattle.limits.specs.declared.Refusal.{Refusal}
use Rattle.limits.specs.Operations.{Input}
use Rattle.limits.specs.Refusals.{lent_after}
use Rattle.machine.specs.declared.ThreadRecord.{ThreadRecord}
use Rattle.machine.specs.Bench.{Bench, Worker, idler, worker_at}
use Rattle.machine.specs.Shown.{records}
use Rattle.run.specs.Run.{Lists, run_fit, bench_after}
use Rattle.run.specs.Core.{rest_record}
use Rattle.records.specs.Records.{RecordsSay}
use Rattle.records.proofs.SayLaws.{Fits, fits}

-- a worker's record
abbrev pub record_of : Worker → ThreadRecord
record_of w = record { phase = w.phase }

-- the record of worker t, and past the last worker a resting one on both sides
at_records : (ws : List Worker) (t : ℕ) → get_or (map record_of ws) t rest_record ≡ record_of (get_or ws t idler)
at_records [] t = refl
at_records (w ∷ ws) zero = refl
at_records (w ∷ ws) (suc t) = at_records ws t

module _ (i : Input) (l m : Lists) (rs rs' : List ThreadRecord) (r : Result Summary Refusal) (says : RecordsSay i l m rs rs' r) where
  abbrev B : Bench
  B = bench_after i

  abbrev fit : Fit
  fit = run_fit i l (length rs)

  under : (f : Fit) → fit ≡ f → rs' ≡ lent_after f (records B) rs
  under f e = says.records ∙ ap (λ (g : Fit). lent_after g (records B) rs) e

  had : fit ≡ Ok tt → Fits i l rs
  had = fits i l rs

  -- the first entries are the records of the workers, and there are as many workers as threads
  pub record_of_thread : fit ≡ Ok tt → (t : ℕ) → t < i.threads → get_or rs' t rest_record ≡ record_of (worker_at B t)
  record_of_thread e t lt =
      sym (get_or-take i.threads rs' t rest_record lt) ∙ ap (λ (k : List ThreadRecord). get_or (take i.threads k) t rest_record) (under (Ok tt) e)
      ∙ ap (λ (k : List ThreadRecord). get_or k t rest_record) (take_at (records B) (drop (length (records B)) rs) i.threads (had e).size) ∙ at_records B.workers t

  pub record_after : fit ≡ Ok tt → (k : ℕ) → i.threads ≤ k → get_or rs' k rest_record ≡ get_or rs k rest_record
  record_after e k le =
      let at : k ≡ length (records B) + (k - i.threads) = omega (arith, (had e).size) in
      ap (λ (z : List ThreadRecord). get_or z k rest_record) (under (Ok tt) e) ∙ ap (λ (j : ℕ). get_or (records B ++ drop (length (records B)) rs) j rest_record) at
      ∙ get_or-append-add (records B) (drop (length (records B)) rs) (k - i.threads) rest_record ∙ get_or-drop (length (records B)) rs (k - i.threads) rest_record
      ∙ ap (λ (j : ℕ). get_or rs j rest_record) (sym at)

  pub records_refused : (x : Refusal) → fit ≡ Err x → rs' ≡ rs
  records_refused x e = under (Err x) e

  pub records_length : length rs' ≡ length rs
  records_length = go fit refl
    where
      go : (f : Fit) → fit ≡ f → length rs' ≡ length rs
      go (Ok tt) e = omega (arith, ap length (under (Ok tt) e), length-append (records B) (drop (length (records B)) rs), length-drop (length (records B)) rs, (had e).size, (had e).room)
      go (Err x) e = ap length (under (Err x) e)
