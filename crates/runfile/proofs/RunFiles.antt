-- What is claimed of run files (document 01, 'Run files': for input that passes, writing what was read gives the same bytes, and reading what was
-- written gives the same lists), of whatever answers meet the contracts of `read_run` and `write_run`. Assumes nothing.
--   read_only, write_only   two answers that meet a contract are equal, and so are the lists that they leave
--   refused-read, refused-write
--                           a refusal leaves what was lent as it was
--   read_write              reading what was written gives the same numbers and the same lists
--   write_read              writing what was read gives the same bytes
--   read_holds, holds_read  what is read is what the text holds, told without reading it (specs/Wrong.antt), and the other way round
--   holds_one               a text holds one thing only
--   read_run, run_read      so a run's input is read exactly where the text is that of what a run file can hold,
--   wrong-none, read-or-wrong
--                           a text has a wrong line exactly where it is the text of no run,
--   read-wrong, wrong-one, wrong-read
--                           and the line given is the first that is not as written, of which there is one only
use Rattle.std.specs.Prelude.{Err, Ok, Result}
use Rattle.limits.specs.Refusals.{Fit}
use Rattle.runfile.specs.declared.Sizes.{Sizes}
use mathlib.Core.Path.{◌≡◌, refl, sym, ◌∙◌, ap, subst}
use mathlib.Core.Bool.{Bool, true, false}
use mathlib.Core.List.{List}
use Prim.Native.Nat.{ℕ, ◌≤◌}
use native.Mathlib.Omega.{arith}
use lib.Dec.{leb}
use lib.IntN.{ℤ}
use lib.ListN.{length, take, drop}
use lib.Seq.{take_at}
use borrow.Author.Tests.{le-leb}
use Rattle.limits.specs.declared.Refusal.{Refusal}
use Rattle.limits.specs.declared.Refusal.TheVariants.{Room, Text}
use Rattle.limits.specs.Lists.{over}
use Rattle.limits.specs.Operations.{Input, input_of}
use Rattle.limits.specs.Refusals.{unless, by_fit, lent_after, input_refusal}
use Rattle.runfile.specs.RunText.{run_text, Fitting}
use Rattle.runfile.specs.Wrong.{File, file, wrong}
use Rattle.runfile.specs.Reading.{read_of}
use Rattle.runfile.specs.Answers.{input_in, file_fit, read_fit, ReadSays, write_fit, WriteSays}
use Rattle.limits.proofs.PassLaws.{input_passed}
use Rattle.limits.proofs.FitLaws.{fit_told, then_pass}
use Rattle.runfile.proofs.FitLaws.{all_room, fit_room}
use Rattle.runfile.proofs.TextLaws.{all_fit, text_short}
use Rattle.runfile.proofs.ReadRound.{read_text, passed_fits}
use Rattle.runfile.proofs.SpellingLaws.{run_spelled}
use Rattle.runfile.specs.Reading.{sizes}
pub use Rattle.runfile.proofs.HoldLaws.{read_run, run_read, wrong_none, read_or_wrong}
pub use Rattle.runfile.proofs.WrongLaws.{read_wrong, wrong_one, wrong_read, read_holds, holds_read, holds_one}

-- ---- one answer only, since each part of a contract is an equation
pub read_only : {s thread₀ kind₀ : List ℕ} {sample₀ : List ℤ} {schedule₀ : List ℕ} {r r' : Result Sizes Refusal} {thread thread' kind kind' : List ℕ} {sample sample' : List ℤ} {schedule schedule' : List ℕ}
    → ReadSays s thread₀ kind₀ sample₀ schedule₀ r thread kind sample schedule → ReadSays s thread₀ kind₀ sample₀ schedule₀ r' thread' kind' sample' schedule'
    → (r ≡ r') × ((thread ≡ thread') × ((kind ≡ kind') × ((sample ≡ sample') × (schedule ≡ schedule'))))
read_only a b =
    (a.answer ∙ sym b.answer, (a.threads ∙ sym b.threads, (a.kinds ∙ sym b.kinds, (a.samples ∙ sym b.samples, a.steps ∙ sym b.steps))))

pub write_only : {i : Input} {text₀ text text' : List ℕ} {r r' : Result ℕ Refusal} → WriteSays i text₀ r text → WriteSays i text₀ r' text' → (r ≡ r') × (text ≡ text')
write_only a b = (a.answer ∙ sym b.answer, a.bytes ∙ sym b.bytes)

-- ---- an answer tells the fit that it was given by
abbrev pub fit_read : Result Sizes Refusal → Fit
fit_read (Ok z) = Ok tt
fit_read (Err x) = Err x

abbrev pub fit_written : Result ℕ Refusal → Fit
fit_written (Ok b) = Ok tt
fit_written (Err x) = Err x

pub read_fit_lem : {s thread₀ kind₀ : List ℕ} {sample₀ : List ℤ} {schedule₀ : List ℕ} {r : Result Sizes Refusal} {thread kind : List ℕ} {sample : List ℤ} {schedule : List ℕ}
    → ReadSays s thread₀ kind₀ sample₀ schedule₀ r thread kind sample schedule → read_fit s (length thread₀) (length kind₀) (length sample₀) (length schedule₀) ≡ fit_read r
read_fit_lem a = fit_told fit_read Err refl (λ x. refl) _ a.answer

pub write_fit_lem : {i : Input} {text₀ : List ℕ} {r : Result ℕ Refusal} {text : List ℕ} → WriteSays i text₀ r text → write_fit i (length text₀) ≡ fit_written r
write_fit_lem a = fit_told fit_written Err refl (λ x. refl) _ a.answer

-- ---- a refusal leaves what was lent as it was
pub refused_read : {s thread₀ kind₀ : List ℕ} {sample₀ : List ℤ} {schedule₀ : List ℕ} {x : Refusal} {thread kind : List ℕ} {sample : List ℤ} {schedule : List ℕ}
    → ReadSays s thread₀ kind₀ sample₀ schedule₀ (Err x) thread kind sample schedule → (thread ≡ thread₀) × (kind ≡ kind₀) × (sample ≡ sample₀) × (schedule ≡ schedule₀)
refused_read a = let f = read_fit_lem a in (rw f at a.threads, rw f at a.kinds, rw f at a.samples, rw f at a.steps)

pub refused_write : {i : Input} {text₀ : List ℕ} {x : Refusal} {text : List ℕ} → WriteSays i text₀ (Err x) text → text ≡ text₀
refused_write a = rw (write_fit_lem a) at a.bytes

-- ---- what an accepted text and an accepted input say
-- a text that is not refused is the text of the input that it holds, which has passed 1 to 8
pub record Accepted (s : List ℕ) (f : File) : Type 0 where
  pub passes : input_refusal (input_in f) ≡ Ok tt
  pub whole : run_text (input_in f) ≡ s

pub accepted : (s : List ℕ) (a b c d : ℕ) → read_fit s a b c d ≡ Ok tt → Accepted s (read_of s)
unfolding read_fit file_fit
accepted s a b c d e = go (leb (length s) 65536) (read_of s) refl e
  where
    go : (g : Bool) (f : File) → read_of s ≡ f → unless g Text (file_fit a b c d f) ≡ Ok tt → Accepted s f
    go true (file n m ts ks xs ss) q h = record { passes = (fit_room a b c d n m ts ks xs ss h).0; whole = sym (read_run s n m ts ks xs ss q).1 }
    go true (wrong k) q h = let z : ◌≡◌ {A = ℕ} 0 1 = cc in absurd (omega arith)
    go false f q h = let z : ◌≡◌ {A = ℕ} 0 1 = cc in absurd (omega arith)

-- an input that is not refused has passed 1 to 8
pub write_passes : (i : Input) (room : ℕ) → write_fit i room ≡ Ok tt → input_refusal i ≡ Ok tt
unfolding write_fit
write_passes i room e = (then_pass (input_refusal i) (unless (leb (length (run_text i)) room) Room (Ok tt)) e).0

-- the entries that were filled
taken : {A : Type 0} (vs l k : List A) (n : ℕ) → k ≡ over vs l → n ≡ length vs → take n k ≡ vs
taken vs l k n e h = ap (take n) e ∙ take_at vs (drop (length vs) l) n (sym h)

-- the numbers answered and the entries filled are the input that the text holds
pub read_input :
    {s thread₀ kind₀ : List ℕ} {sample₀ : List ℤ} {schedule₀ : List ℕ} {n m o t : ℕ} {thread kind : List ℕ} {sample : List ℤ} {schedule : List ℕ}
    → ReadSays s thread₀ kind₀ sample₀ schedule₀ (Ok (sizes n m o t)) thread kind sample schedule
    → Accepted s (read_of s) × (input_of n m (take o thread) (take o kind) (take o sample) (take t schedule) ≡ input_in (read_of s))
read_input {s} {thread₀} {kind₀} {sample₀} {schedule₀} {n} {m} {o} {t} {thread} {kind} {sample} {schedule} a =
    let i = input_in (read_of s) in
    let f = read_fit_lem a in
    let x = accepted s (length thread₀) (length kind₀) (length sample₀) (length schedule₀) f in
    let p = input_passed i x.passes in
    let e : ◌≡◌ {A = Result Sizes Refusal} (Ok (sizes n m o t)) (Ok (sizes i.threads i.slots (length i.thread) (length i.schedule))) = rw f at a.answer in
    let z : sizes n m o t ≡ sizes i.threads i.slots (length i.thread) (length i.schedule) = cc in
    let en : n ≡ i.threads = ap (λ (k : Sizes). k.threads) z in
    let em : m ≡ i.slots = ap (λ (k : Sizes). k.slots) z in
    let eo : o ≡ length i.thread = ap (λ (k : Sizes). k.operations) z in
    let et : t ≡ length i.schedule = ap (λ (k : Sizes). k.steps) z in
    let lt : take o thread ≡ i.thread = taken i.thread thread₀ thread o (rw f at a.threads) eo in
    let lk : take o kind ≡ i.kind = taken i.kind kind₀ kind o (rw f at a.kinds) (eo ∙ sym p.kinds) in
    let lx : take o sample ≡ i.sample = taken i.sample sample₀ sample o (rw f at a.samples) (eo ∙ sym p.samples) in
    let ls : take t schedule ≡ i.schedule = taken i.schedule schedule₀ schedule t (rw f at a.steps) et in
    (x, λ j. input_of (en j) (em j) (lt j) (lk j) (lx j) (ls j))

-- ---- the two round trips
-- the bytes that `write_run` fills, read with room for what was written, give the same numbers and lists
pub read_write :
    {i : Input} {text₀ text : List ℕ} {b : ℕ}
    → WriteSays i text₀ (Ok b) text
    → Fitting i.sample
    → {thread₀ kind₀ : List ℕ} {sample₀ : List ℤ} {schedule₀ : List ℕ} {r : Result Sizes Refusal} {thread' kind' : List ℕ} {sample' : List ℤ} {schedule' : List ℕ}
    → ReadSays (take b text) thread₀ kind₀ sample₀ schedule₀ r thread' kind' sample' schedule'
    → length i.thread ≤ length thread₀ → length i.thread ≤ length kind₀ → length i.thread ≤ length sample₀ → length i.schedule ≤ length schedule₀
    → (r ≡ Ok (sizes i.threads i.slots (length i.thread) (length i.schedule)))
    × (thread' ≡ over i.thread thread₀) × (kind' ≡ over i.kind kind₀) × (sample' ≡ over i.sample sample₀) × (schedule' ≡ over i.schedule schedule₀)
unfolding read_fit
read_write {i} {text₀} {text} {b} w f {thread₀} {kind₀} {sample₀} {schedule₀} a ht hk hx hs =
    let g = write_fit_lem w in
    let pass = write_passes i (length text₀) g in
    let p = input_passed i pass in
    let fits = all_fit i.sample f in
    let e : ◌≡◌ {A = Result ℕ Refusal} (Ok b) (Ok (length (run_text i))) = rw g at w.answer in
    let many : b ≡ length (run_text i) = cc in
    let same : take b text ≡ run_text i = taken (run_text i) text₀ text b (rw g at w.bytes) many in
    let read : read_of (take b text) ≡ file i.threads i.slots i.thread i.kind i.sample i.schedule = ap read_of (same ∙ run_spelled i) ∙ read_text (passed_fits p fits) in
    let held : input_in (read_of (take b text)) ≡ i = ap input_in read in
    let short : length (take b text) ≤ 65536 = rw (same ∙ run_spelled i) (text_short p fits) in
    let lk = p.kinds in
    let lx = p.samples in
    let room = all_room (length thread₀) (length kind₀) (length sample₀) (length schedule₀) i.threads i.slots i.thread i.kind i.sample i.schedule pass ht (omega arith) (omega arith) hs in
    let fit : read_fit (take b text) (length thread₀) (length kind₀) (length sample₀) (length schedule₀) ≡ Ok tt =
    rw (le-leb (length (take b text)) 65536 short) (ap (file_fit (length thread₀) (length kind₀) (length sample₀) (length schedule₀)) read ∙ room) in (
      a.answer ∙ (λ j. by_fit (fit j) (Ok (sizes (held j).threads (held j).slots (length (held j).thread) (length (held j).schedule))) Err),
      a.threads ∙ (λ j. lent_after (fit j) (held j).thread thread₀),
      a.kinds ∙ (λ j. lent_after (fit j) (held j).kind kind₀),
      a.samples ∙ (λ j. lent_after (fit j) (held j).sample sample₀),
      a.steps ∙ (λ j. lent_after (fit j) (held j).schedule schedule₀),
    )

-- the first entries that `read_run` fills, written with room for the text, give the same bytes
pub write_read :
    {s thread₀ kind₀ : List ℕ} {sample₀ : List ℤ} {schedule₀ : List ℕ} {n m o t : ℕ} {thread kind : List ℕ} {sample : List ℤ} {schedule : List ℕ}
    → ReadSays s thread₀ kind₀ sample₀ schedule₀ (Ok (sizes n m o t)) thread kind sample schedule
    → {text₀ text : List ℕ} {r : Result ℕ Refusal}
    → WriteSays (input_of n m (take o thread) (take o kind) (take o sample) (take t schedule)) text₀ r text
    → length s ≤ length text₀
    → (r ≡ Ok (length s)) × (text ≡ over s text₀)
unfolding write_fit
write_read {s} a {text₀} {text} {r} w h =
    let q = read_input a in
    let i = input_in (read_of s) in
    let v : WriteSays i text₀ r text = subst (λ (i : Input). WriteSays i text₀ r text) q.1 w in
    let whole = q.0.whole in
    let fit : write_fit i (length text₀) ≡ Ok tt = rw (q.0.passes, whole, le-leb (length s) (length text₀) h) in
    (v.answer ∙ (λ j. by_fit (fit j) (Ok (length (whole j))) Err), v.bytes ∙ (λ j. lent_after (fit j) (whole j) text₀))
