-- What a run's own statement gives: a refused call leaves every list, an accepted one leaves what the bench shows, and demand 3 of that. Assumes nothing.
use Rattle.std.specs.Prelude.{Err, Ok, Result}
use Rattle.limits.specs.Refusals.{Fit}
use mathlib.Core.Path.{◌≡◌, refl, sym, ap, ◌∙◌}
use mathlib.Core.List.{List, map}
use Prim.Native.Nat.{ℕ, ◌+◌}
use lib.ListN.{length, take, drop, length-map}
use lib.Seq.{take_at}
use Rattle.limits.specs.declared.Refusal.{Refusal}
use Rattle.limits.specs.Lists.{over}
use Rattle.limits.specs.Operations.{Input, table}
use Rattle.limits.specs.Refusals.{by_fit, lent_after}
use Rattle.limits.proofs.PassLaws.{Passed, table_passed}
use Rattle.history.specs.History.{code_of, beside}
use Rattle.history.proofs.ListLaws.{clash}
use Rattle.linear.specs.declared.Verdict.TheVariants.{Linear}
use Rattle.judge.specs.Judge.{judged}
use Rattle.machine.specs.declared.ThreadRecord.{ThreadRecord}
use Rattle.machine.specs.Bench.{Worker, Bench}
use Rattle.machine.specs.Shown.{codes, samples, order, mark, held, records}
use Rattle.machine.proofs.RunLaws.{Run, workers_length, slots_length}
use Rattle.machine.proofs.ChainLaws.{OrderedAt}
use Rattle.run.specs.declared.Summary.{Summary}
use Rattle.run.specs.Run.{Lists, run_fit, bench_after, summary_of, lists_after, history_in}
use Rattle.run.proofs.PassedLaws.{passed_run, passed_ordered, passed_most, passed_named}
use Rattle.run.proofs.FitLaws.{fit_passed, ran_fit, ran_summary}
use Rattle.records.specs.Records.{RecordsSay}
use Rattle.theorems.specs.Demand.{stays, Linearized}
use Rattle.theorems.proofs.OrderLaws.{run_linearized, run_events, stores_balance}
use Rattle.theorems.proofs.JudgedLaws.{run_judged}

-- a listing that is refused leaves the text that was lent
pub left_text : (f : Fit) (n : ℕ) (x : Refusal) (w l : List ℕ) → by_fit f (Ok n) Err ≡ Err x → lent_after f w l ≡ l
left_text (Ok tt) n x w l e = clash (cc)
left_text (Err q) n x w l e = refl

-- of a list that begins with n entries vs the first n are vs
took : {A : Type 0} (vs l : List A) (n : ℕ) → length vs ≡ n → take n (over vs l) ≡ vs
took vs l n e = take_at vs (drop (length vs) l) n e

module _ (i : Input) (l m : Lists) (rs rs' : List ThreadRecord) (r : Result Summary Refusal) (says : RecordsSay i l m rs rs' r) where
  abbrev B : Bench
  B = bench_after i

  abbrev fit : Fit
  fit = run_fit i l (length rs)

  -- ---- what fits is accepted, what does not is refused

  pub answers_pass : fit ≡ Ok tt → r ≡ Ok (summary_of i)
  answers_pass e = says.answer ∙ ap (λ (f : Fit). by_fit f (Ok (summary_of i)) Err) e

  pub answers_unfit : (x : Refusal) → fit ≡ Err x → r ≡ Err x
  answers_unfit x e = says.answer ∙ ap (λ (f : Fit). by_fit f (Ok (summary_of i)) Err) e

  -- ---- the statement leaves nothing open: each part is an equation whose right side knows only what went in

  pub one_result : (n : Lists) (ts : List ThreadRecord) (q : Result Summary Refusal) → RecordsSay i l n rs ts q → (m ≡ n) × (rs' ≡ ts) × (r ≡ q)
  one_result n ts q a = (says.lists ∙ sym a.lists, says.records ∙ sym a.records, says.answer ∙ sym a.answer)

  -- ---- refused

  pub left_all : (x : Refusal) → r ≡ Err x → (m ≡ l) × (rs' ≡ rs)
  left_all x e = (rw unfit at says.lists, rw unfit at says.records)
    where
      unfit : fit ≡ Err x
      unfit = ran_fit (summary_of i) fit (sym e ∙ says.answer)

  -- ---- accepted

  module _ (s : Summary) (e : r ≡ Ok s) where
    pass : fit ≡ Ok tt
    pass = ran_fit (summary_of i) fit (sym e ∙ says.answer)

    pub ran_numbers : s ≡ summary_of i
    ran_numbers = ran_summary (summary_of i) fit (sym e ∙ says.answer)

    pub ran_lists : m ≡ lists_after (Ok tt) B l
    ran_lists = rw pass at says.lists

    pub ran_records : rs' ≡ over (records B) rs
    ran_records = rw pass at says.records

    ran_passed : Passed i
    ran_passed = fit_passed i l (length rs) pass

    -- ---- every law of runs holds of the bench

    run : Run (table i) i.threads i.slots B
    run = passed_run i ran_passed

    ordered : OrderedAt (table i) i.threads B
    ordered = passed_ordered i ran_passed

    -- ---- the first entries of each list are what the bench shows

    pub wrote_codes : take s.events m.codes ≡ codes B
    unfolding summary_of
    wrote_codes = ap (λ (x : Lists). take s.events x.codes) ran_lists ∙ took (codes B) l.codes s.events (length-map B.history code_of ∙ sym (ap (λ (x : Summary). x.events) ran_numbers))

    pub wrote_samples : take s.events m.samples ≡ samples B
    unfolding summary_of
    wrote_samples = ap (λ (x : Lists). take s.events x.samples) ran_lists ∙ took (samples B) l.samples s.events (length-map B.history beside ∙ sym (ap (λ (x : Summary). x.events) ran_numbers))

    pub wrote_order : take s.order m.order ≡ order B
    unfolding summary_of
    wrote_order = ap (λ (x : Lists). take s.order x.order) ran_lists ∙ took (order B) l.order s.order (sym (ap (λ (x : Summary). x.order) ran_numbers))

    pub wrote_marks : take i.slots m.marks ≡ map mark B.slots
    wrote_marks = ap (λ (x : Lists). take i.slots x.marks) ran_lists ∙ took (map mark B.slots) l.marks i.slots (length-map B.slots mark ∙ slots_length (table i) i.threads i.slots B run)

    pub wrote_held : take i.slots m.held ≡ map held B.slots
    wrote_held = ap (λ (x : Lists). take i.slots x.held) ran_lists ∙ took (map held B.slots) l.held i.slots (length-map B.slots held ∙ slots_length (table i) i.threads i.slots B run)

    pub ran_balance : s.stores ≡ s.finds + length (stays (take i.slots m.marks) (take i.slots m.held))
    unfolding summary_of
    ran_balance = rw (wrote_marks, wrote_held, ran_numbers) (stores_balance (table i) i.threads i.slots i.schedule (passed_most i ran_passed) (passed_named i ran_passed))

    pub wrote_records : take i.threads rs' ≡ records B
    wrote_records = ap (take i.threads) ran_records ∙ took (records B) rs i.threads (length-map B.workers (λ (w : Worker). record { phase = w.phase }) ∙ workers_length (table i) i.threads i.slots B run)

    -- the codes and samples written are those of the bench's history
    pub wrote_history : history_in i s m ≡ B.history
    wrote_history = rw (wrote_codes, wrote_samples) (run_events (table i) i.threads i.slots B run ordered)

    -- ---- demand 3, and the judge, of what was written

    pub ran_linearized : Linearized (table i) (history_in i s m) (take i.threads rs') (take i.slots m.marks) (take i.slots m.held) (take s.order m.order)
    ran_linearized = rw (wrote_history, wrote_records, wrote_marks, wrote_held, wrote_order) (run_linearized (table i) i.threads i.slots B run ordered)

    pub ran_judged : judged i.threads i.thread i.kind i.sample (take s.events m.codes) (take s.events m.samples) (take s.order m.order) ≡ Ok Linear
    ran_judged = rw (wrote_codes, wrote_samples, wrote_order)
        (run_judged i.threads i.slots i.thread i.kind i.sample B run ordered
        (table_passed i ran_passed))
