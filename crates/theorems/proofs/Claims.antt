-- The claims, in one place: demands 1, 2 and 3, sentence by sentence, each about what a public function answers and writes. Assumes nothing.
-- Every public function is total and asks nothing of its caller: what it says of every input is its contract. `RecordsSay` is that of `records::run`,
-- `judged` that of `judge::judge`, `ReadSays` that of `reader::read_run`, `WriteSays` that of `writer::write_run`, `ListSays` that of
-- `listing::list_run`, `AnswerSays` that of `answer::answer`, which gives the program `bench` what it prints.
--   what_fits, what_does_not   demand 1: a run ends in its result or in the refusal that its input gets
--   refused_leaves_all         demand 1: a refused run writes nothing into memory that was lent; likewise `refused_read`, `refused_write`, `refused_list`
--   prints_whole               demand 1: for every text `bench` has its listing or the line of its refusal to print; which, `prints_listing`, `prints_refusal` say
--   run_exact                  demand 2: slots, phases, counts and history are those of the document's steps
--   runs_balance               stores = finds + filled slots
--   accepted_exactly           demand 2: an order is accepted exactly if it is a linearization
--   same_bytes, same_lists     demand 2: run files read and write back
--   text_holds, holds_one      what `read_of` gives for a text is what the text holds: a run's input, or the first line that is not as written
--   order_of_a_run             demand 3, of what the run wrote
--   judge_passes_runs          the judge's verdict on what a run wrote is 0
--   run_one, judge_one, read_one, write_one, list_one, print_one   two results that meet a contract are the same
--   worked_runs                the table of document 01, A to I
use Rattle.std.specs.Prelude.{Err, Ok, Result}
use Rattle.linear.specs.declared.Verdict.{Verdict}
use Rattle.runfile.specs.declared.Sizes.{Sizes}
use mathlib.Core.Path.{◌≡◌, sym, ◌∙◌}
use mathlib.Core.List.{List}
use Prim.Native.Nat.{ℕ, ◌+◌, ◌≤◌}
use lib.IntN.{ℤ}
use lib.ListN.{length, take}
use Rattle.limits.specs.declared.Refusal.{Refusal}
use Rattle.limits.specs.Lists.{over}
use Rattle.limits.specs.Operations.{table_of, Input, input_of, table}
use Rattle.history.specs.History.{events}
use Rattle.linear.specs.declared.Verdict.TheVariants.{Linear}
use Rattle.linear.specs.Linear.{Linearizes}
use Rattle.judge.specs.Judge.{judge_refusal, judged}
use Rattle.judge.proofs.JudgedLaws.{verdict_sound, verdict_complete}
use Rattle.machine.specs.declared.ThreadRecord.{ThreadRecord}
use Rattle.machine.specs.Shown.{records}
use Rattle.run.specs.declared.Summary.{Summary}
use Rattle.run.specs.Run.{Lists, run_fit, bench_after, summary_of, lists_after, history_in}
use Rattle.records.specs.Records.{RecordsSay}
use Rattle.runfile.specs.Wrong.{File, Holds}
use Rattle.runfile.specs.Reading.{read_of}
use Rattle.runfile.specs.Answers.{input_in, read_fit, ReadSays, WriteSays}
use Rattle.runfile.specs.RunText.{Fitting}
use Rattle.runfile.proofs.RunFiles as file
use Rattle.lines.specs.Lines.{refused_line}
use Rattle.listing.specs.Listing.{listing_text, listing_fit, ListSays}
use Rattle.answer.specs.Answer.{answer_text, AnswerSays}
use Rattle.answer.proofs.AnswerLaws.{answer_fits, answer_refused, answer_run}
use Rattle.theorems.specs.Demand.{stays, Linearized}
use Rattle.theorems.specs.Worked.{Worked}
use Rattle.theorems.proofs.WorkedLaws.{worked}
use Rattle.theorems.proofs.ClaimLaws as law
use Rattle.runfile.specs.Reading.{sizes}

-- ---- runs: `records::run`, called with the input i, the lists l and the thread records rs, answered r and left the lists m and the records rs'

module _ (i : Input) (l m : Lists) (rs rs' : List ThreadRecord) (r : Result Summary Refusal) (says : RecordsSay i l m rs rs' r) where
  -- 'Every table, schedule .. ends in a result or a numbered refusal': a result where nothing is to be refused, and the refusal where something is
  pub what_fits : run_fit i l (length rs) ≡ Ok tt → r ≡ Ok (summary_of i)
  what_fits e = law.answers_pass i l m rs rs' r says e

  pub what_does_not : (x : Refusal) → run_fit i l (length rs) ≡ Err x → r ≡ Err x
  what_does_not x e = law.answers_unfit i l m rs rs' r says x e

  -- 'A refused call writes nothing into memory that was lent'
  pub refused_leaves_all : (x : Refusal) → r ≡ Err x → (m ≡ l) × (rs' ≡ rs)
  refused_leaves_all x e = law.left_all i l m rs rs' r says x e

  -- 'Final slots, thread phases, counts and history are exactly those of the Herlihy-Wing steps of document 01'
  pub run_exact : (s : Summary) → r ≡ Ok s → (s ≡ summary_of i) × (m ≡ lists_after (Ok tt) (bench_after i) l) × (rs' ≡ over (records (bench_after i)) rs)
  run_exact s e = (law.ran_numbers i l m rs rs' r says s e, law.ran_lists i l m rs rs' r says s e, law.ran_records i l m rs rs' r says s e)

  -- 'Stores = finds + filled slots at the end, always'
  pub runs_balance : (s : Summary) → r ≡ Ok s → s.stores ≡ s.finds + length (stays (take i.slots m.marks) (take i.slots m.held))
  runs_balance s e = law.ran_balance i l m rs rs' r says s e

  -- demand 3, told by nothing but what the run wrote: its order lists exactly the returned operations, the unreturned puts that stored and the unreturned
  -- takes that found something, each once; one that returned before another was called stands before it; on a plain queue each take gets what it got,
  -- and the samples of the filled slots stay; so it is a linearization
  pub order_of_a_run : (s : Summary) → r ≡ Ok s
      → Linearized (table i) (history_in i s m) (take i.threads rs') (take i.slots m.marks) (take i.slots m.held) (take s.order m.order)
  order_of_a_run s e = law.ran_linearized i l m rs rs' r says s e

  -- the judge, given what the run wrote, says 0
  pub judge_passes_runs : (s : Summary) → r ≡ Ok s
      → judged i.threads i.thread i.kind i.sample (take s.events m.codes) (take s.events m.samples) (take s.order m.order) ≡ Ok Linear
  judge_passes_runs s e = law.ran_judged i l m rs rs' r says s e

  pub run_one : (n : Lists) (ts : List ThreadRecord) (q : Result Summary Refusal) → RecordsSay i l n rs ts q → (m ≡ n) × (rs' ≡ ts) × (r ≡ q)
  run_one n ts q a = law.one_result i l m rs rs' r says n ts q a

-- ---- the judge

module _ (threads : ℕ) (thread kind : List ℕ) (sample : List ℤ) (codes : List ℕ) (samples : List ℤ) (proposed : List ℕ) where
  -- 'An order proposed for a history is accepted exactly if it is a linearization of it'
  pub accepted_exactly :
      (judged threads thread kind sample codes samples proposed ≡ Ok Linear
      → Linearizes (table_of thread kind sample) (events (table_of thread kind sample) codes samples) proposed)
      × (judge_refusal threads thread kind sample codes samples ≡ Ok tt → Linearizes (table_of thread kind sample) (events (table_of thread kind sample) codes samples) proposed
      → judged threads thread kind sample codes samples proposed ≡ Ok Linear)
  accepted_exactly = (verdict_sound threads thread kind sample codes samples proposed, verdict_complete threads thread kind sample codes samples proposed)

  pub judge_one : (r q : Result Verdict Refusal) → r ≡ judged threads thread kind sample codes samples proposed → q ≡ judged threads thread kind sample codes samples proposed → r ≡ q
  judge_one r q a b = a ∙ sym b

-- ---- run files

-- 'reading what was written gives the same lists': whatever `write_run` wrote, `read_run` reads back
pub same_lists : {i : Input} {text₀ text : List ℕ} {b : ℕ} → WriteSays i text₀ (Ok b) text → Fitting i.sample
    → {thread₀ kind₀ : List ℕ} {sample₀ : List ℤ} {schedule₀ : List ℕ} {r : Result Sizes Refusal} {thread kind : List ℕ} {sample : List ℤ} {schedule : List ℕ}
    → ReadSays (take b text) thread₀ kind₀ sample₀ schedule₀ r thread kind sample schedule
    → length i.thread ≤ length thread₀ → length i.thread ≤ length kind₀ → length i.thread ≤ length sample₀ → length i.schedule ≤ length schedule₀
    → (r ≡ Ok (sizes i.threads i.slots (length i.thread) (length i.schedule)))
    × (thread ≡ over i.thread thread₀) × (kind ≡ over i.kind kind₀) × (sample ≡ over i.sample sample₀) × (schedule ≡ over i.schedule schedule₀)
same_lists w f a ht hk hx hs = file.read_write w f a ht hk hx hs

-- 'writing what was read gives the same bytes': whatever `read_run` read, `write_run` writes back
pub same_bytes : {s thread₀ kind₀ : List ℕ} {sample₀ : List ℤ} {schedule₀ : List ℕ} {n m o t : ℕ} {thread kind : List ℕ} {sample : List ℤ} {schedule : List ℕ}
    → ReadSays s thread₀ kind₀ sample₀ schedule₀ (Ok (sizes n m o t)) thread kind sample schedule → {text₀ text : List ℕ} {r : Result ℕ Refusal}
    → WriteSays (input_of n m (take o thread) (take o kind) (take o sample) (take t schedule)) text₀ r text → length s ≤ length text₀
    → (r ≡ Ok (length s)) × (text ≡ over s text₀)
same_bytes a w h = file.write_read a w h

-- what the reader's contract calls `read_of text` is what the text holds, and a text holds one thing only: the input whose text it is, or, where it is the text
-- of none, the first line such that no run file has the same lines up to and with it ('11, a line of a run file is not as written; lowest such line')
pub text_holds : (text : List ℕ) → Holds text (read_of text)
text_holds text = file.read_holds text

pub holds_one : (text : List ℕ) (f g : File) → Holds text f → Holds text g → f ≡ g
holds_one text f g a b = file.holds_one text f g a b

-- 'A refused call writes nothing into memory that was lent', of the reader
pub refused_read : {s thread₀ kind₀ : List ℕ} {sample₀ : List ℤ} {schedule₀ : List ℕ} {x : Refusal} {thread kind : List ℕ} {sample : List ℤ} {schedule : List ℕ}
    → ReadSays s thread₀ kind₀ sample₀ schedule₀ (Err x) thread kind sample schedule → (thread ≡ thread₀) × (kind ≡ kind₀) × (sample ≡ sample₀) × (schedule ≡ schedule₀)
refused_read a = file.refused_read a

-- and of the writer
pub refused_write : {i : Input} {text₀ text : List ℕ} {x : Refusal} → WriteSays i text₀ (Err x) text → text ≡ text₀
refused_write a = file.refused_write a

pub read_one : {s thread₀ kind₀ : List ℕ} {sample₀ : List ℤ} {schedule₀ : List ℕ} {r r' : Result Sizes Refusal} {thread thread' kind kind' : List ℕ} {sample sample' : List ℤ} {schedule schedule' : List ℕ}
    → ReadSays s thread₀ kind₀ sample₀ schedule₀ r thread kind sample schedule → ReadSays s thread₀ kind₀ sample₀ schedule₀ r' thread' kind' sample' schedule'
    → (r ≡ r') × (thread ≡ thread') × (kind ≡ kind') × (sample ≡ sample') × (schedule ≡ schedule')
read_one a b = (a.answer ∙ sym b.answer, a.threads ∙ sym b.threads, a.kinds ∙ sym b.kinds, a.samples ∙ sym b.samples, a.steps ∙ sym b.steps)

pub write_one : {i : Input} {text₀ text text' : List ℕ} {r r' : Result ℕ Refusal} → WriteSays i text₀ r text → WriteSays i text₀ r' text' → (r ≡ r') × (text ≡ text')
write_one a b = (a.answer ∙ sym b.answer, a.bytes ∙ sym b.bytes)

-- ---- the listing: `listing::list_run`, called with a run's input i and the text `text`, answered r and left text'

module _ (i : Input) (text : List ℕ) (r : Result ℕ Refusal) (text' : List ℕ) (says : ListSays i text r text') where
  -- 'A refused call writes nothing into memory that was lent'
  pub refused_list : (x : Refusal) → r ≡ Err x → text' ≡ text
  refused_list x e = says.bytes ∙ law.left_text (listing_fit i (length text)) (length (listing_text i)) x (listing_text i) text (sym says.answer ∙ e)

  pub list_one : (q : Result ℕ Refusal) (other : List ℕ) → ListSays i text q other → (r ≡ q) × (text' ≡ other)
  list_one q other a = (says.answer ∙ sym a.answer, says.bytes ∙ sym a.bytes)

-- ---- the program: `answer::answer`, called with the text that was read and room for what is printed, answered r and left out'

module _ (text out : List ℕ) (r : Result ℕ Refusal) (out' : List ℕ) (says : AnswerSays text out r out') where
  -- 'Every .. run file .. ends in a result or a numbered refusal': into 12,288 bytes all that is to be printed is written
  pub prints_whole : 12288 ≤ length out → (r ≡ Ok (length (answer_text text))) × (take (length (answer_text text)) out' ≡ answer_text text)
  prints_whole room = answer_fits text out r out' room says

  pub print_one : (q : Result ℕ Refusal) (other : List ℕ) → AnswerSays text out q other → (r ≡ q) × (out' ≡ other)
  print_one q other a = (says.answer ∙ sym a.answer, says.bytes ∙ sym a.bytes)

-- a text that the reader accepts prints the listing of what it holds
pub prints_listing : (text : List ℕ) → read_fit text 128 128 128 4096 ≡ Ok tt → answer_text text ≡ listing_text (input_in (read_of text))
prints_listing text e = answer_run text e

-- 'Refused input prints one line: `refused`, number, detail'
pub prints_refusal : (text : List ℕ) (x : Refusal) → read_fit text 128 128 128 4096 ≡ Err x → answer_text text ≡ refused_line x
prints_refusal text x e = answer_refused text x e

-- ---- the worked runs

pub worked_runs : Worked
worked_runs = worked
