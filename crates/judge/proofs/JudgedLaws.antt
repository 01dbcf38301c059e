-- The judge's answer: one law for each way out; that verdict 0 is given exactly to linearizations; that the answer is only one. Assumes nothing.
use Rattle.std.proofs.Common.{◌≡◌, ◌≢◌, true, false, cond, ℕ, ℤ, List, [], map, length, Result, Ok, Err, refl, sym, ap, ◌∙◌}
use lib.ListN.{length-map}
use Rattle.limits.specs.declared.Refusal.{Refusal}
use Rattle.limits.specs.declared.Refusal.TheVariants.{Threads, Lengths}
use Rattle.limits.specs.Lists.{All}
use Rattle.limits.specs.Operations.{table_of}
use Rattle.limits.specs.Refusals.{Fit, by_fit, and_then, within}
use Rattle.limits.specs.Parts.{table_refusal}
use Rattle.limits.proofs.FitLaws.{in_numbers}
use Rattle.history.specs.History.{Event as Happening, code_of, beside, events}
use Rattle.history.specs.Standing.{Stands}
use Rattle.history.proofs.HistoryLaws.{Right, Sound, standing}
use Rattle.history.proofs.CodeLaws.{events_right, stands_each, events_codes, codes_stand}
use Rattle.linear.specs.declared.Verdict.{Verdict}
use Rattle.linear.specs.declared.Verdict.TheVariants.{Linear}
use Rattle.linear.specs.Verdict.{verdict}
use Rattle.linear.specs.Linear.{Linearizes}
use Rattle.linear.proofs.VerdictLaws.{linear_sound, linear_complete}
use Rattle.judge.specs.Judge.{judge_refusal, judged}
use Rattle.judge.specs.Marks.{event_refusal, ReadTo, Finds}
use Rattle.judge.specs.declared.History.{History}
use Rattle.judge.specs.declared.marks.Marks.{Marks}
use Rattle.judge.proofs.ConditionLaws.{found}
use Rattle.limits.specs.declared.Table.{Table}
use Rattle.judge.proofs.RefusalLaws.{table_fits, chain_threads, chain_lengths, chain_together, chain_pass, event_passes, passes_stand}

-- the refusal; the verdict, if there is none
abbrev pub or_else : Fit → Verdict → Result Verdict Refusal
or_else fit v = by_fit fit (Ok v) Err

-- verdict 0 is no refusal
or_linear : (f : Fit) (v : Verdict) → or_else f v ≡ Ok Linear → (f ≡ Ok tt) × (v ≡ Linear)
or_linear (Ok tt) v e = (refl, cc)
or_linear (Err r) v e = absurd (cc)

module _ (threads : ℕ) (thread kind : List ℕ) (sample : List ℤ) (codes : List ℕ) (samples : List ℤ) (order : List ℕ) where
  -- what is answered, and the verdict in it
  abbrev answer : Result Verdict Refusal
  answer = judged threads thread kind sample codes samples order

  abbrev said : Verdict
  said = verdict (table_of thread kind sample) (events (table_of thread kind sample) codes samples) order

  -- ---- the ways out

  pub judged_threads : within 1 16 threads ≡ false → answer ≡ Err Threads
  unfolding judged
  judged_threads e = rw (chain_threads threads thread kind sample codes samples e)

  pub judged_lengths : within 1 16 threads ≡ true → length samples ≢ length codes → answer ≡ Err Lengths
  unfolding judged
  judged_lengths e ne = rw (chain_lengths threads thread kind sample codes samples e ne)

  pub judged_apart : length samples ≢ length codes → answer ≡ cond (within 1 16 threads) (Err Lengths) (Err Threads)
  judged_apart ne = elim (within 1 16 threads) as (λ b. within 1 16 threads ≡ b → answer ≡ cond b (Err Lengths) (Err Threads)) [ true ↦ λ w. judged_lengths w ne | false ↦ judged_threads ] refl

  -- where the lists of the history go together, the table is tested first, then the events
  pub judged_together : length samples ≡ length codes → answer ≡ by_fit (table_refusal threads thread kind sample) (or_else (event_refusal thread kind sample codes samples) said) Err
  unfolding judged
  judged_together e = rw (chain_together threads thread kind sample codes samples e) (in_numbers (λ (f : Fit). or_else f said) (table_refusal threads thread kind sample) _ Err)

  pub judged_table : length samples ≡ length codes → (r : Refusal) → table_refusal threads thread kind sample ≡ Err r → answer ≡ Err r
  judged_table e r t = rw t at (judged_together e)

  pub judged_history : length samples ≡ length codes → table_refusal threads thread kind sample ≡ Ok tt → answer ≡ or_else (event_refusal thread kind sample codes samples) said
  judged_history e t = rw t at (judged_together e)

  -- ---- verdict 0 and linearizations

  -- a history that is not refused is sound
  pub unrefused : judge_refusal threads thread kind sample codes samples ≡ Ok tt → Sound (table_of thread kind sample) (events (table_of thread kind sample) codes samples)
  unrefused e =
      let stand = passes_stand thread kind sample codes samples (chain_pass threads thread kind sample codes samples e).1 in
      let T = table_of thread kind sample in
      standing T (events T codes samples) (stands_each T [] codes samples stand) (events_right T codes samples)

  -- verdict 0 is given to linearizations only
  pub verdict_sound : answer ≡ Ok Linear → Linearizes (table_of thread kind sample) (events (table_of thread kind sample) codes samples) order
  unfolding judged
  verdict_sound e =
      let p = or_linear (judge_refusal threads thread kind sample codes samples) said e in
      linear_sound (table_of thread kind sample) (events (table_of thread kind sample) codes samples) order (unrefused p.0) p.1

  -- and every linearization of a history that is not refused gets it
  pub verdict_complete : judge_refusal threads thread kind sample codes samples ≡ Ok tt
      → Linearizes (table_of thread kind sample) (events (table_of thread kind sample) codes samples) order → answer ≡ Ok Linear
  unfolding judged
  verdict_complete e z =
      rw e (ap Ok (linear_complete (table_of thread kind sample) (events (table_of thread kind sample) codes samples) order (unrefused e) z))

  -- two answers that meet the contract are equal
  pub judged_only : (r s : Result Verdict Refusal) → r ≡ answer → s ≡ answer → r ≡ s
  judged_only r s p q = p ∙ sym q

-- a history that stands, written as codes and samples: the judge accepts every linearization of it
module _ (threads : ℕ) (thread kind : List ℕ) (sample : List ℤ) (fit : table_refusal threads thread kind sample ≡ Ok tt) (h : List Happening)
    (right : All (Right (table_of thread kind sample)) h) (stands : Stands (table_of thread kind sample) h) where
  -- none of its events is refused
  pub history_passes : judge_refusal threads thread kind sample (map code_of h) (map beside h) ≡ Ok tt
  history_passes =
      chain_together threads thread kind sample (map code_of h) (map beside h) (length-map h beside ∙ sym (length-map h code_of))
      ∙ ap (λ (f : Fit). and_then f (event_refusal thread kind sample (map code_of h) (map beside h))) fit
      ∙ event_passes thread kind sample (map code_of h) (map beside h) (codes_stand (table_of thread kind sample) h right stands)

  -- so a linearization of it gets verdict 0
  pub linearization_accepted : (order : List ℕ) → Linearizes (table_of thread kind sample) h order → judged threads thread kind sample (map code_of h) (map beside h) order ≡ Ok Linear
  linearization_accepted order z =
      verdict_complete threads thread kind sample (map code_of h) (map beside h) order history_passes (rw (events_codes (table_of thread kind sample) h right) z)

-- what is found of a history that was read to its end is the answer
pub judged_read : (threads : ℕ) (t : Table) (h : History) (m : Marks) (order : List ℕ) (v : Verdict) → length h.samples.now ≡ length h.codes.now → table_refusal threads t.thread.now t.kind.now t.sample.now ≡ Ok tt
    → ReadTo t h (length h.codes.now) m → Finds t h m order v → judged threads t.thread.now t.kind.now t.sample.now h.codes.now h.samples.now order ≡ Ok v
judged_read threads t h m order v together pass read f =
    judged_history threads _ _ _ _ _ order together pass ∙ rw (event_passes _ _ _ _ _ read.stand) (ap Ok (sym (found t (table_fits threads t pass) h together m read order v f)))
