-- What is printed for a text, by what the reader and the listing answer; there is only one such answer, and it fits 12,288 bytes. Assumes nothing.
use Rattle.std.specs.Prelude.{Err, Ok, Result}
use Rattle.limits.specs.Refusals.{Fit}
use Rattle.runfile.specs.declared.Sizes.{Sizes}
use mathlib.Core.Path.{◌≡◌, sym, ◌∙◌, ap, subst}
use mathlib.Core.Bool.{true}
use mathlib.Core.List.{List}
use Prim.Native.Nat.{ℕ, ◌≤◌}
use native.Mathlib.Omega.{arith}
use lib.Dec.{leb}
use lib.IntN.{ℤ, pos}
use lib.ListN.{length, take, drop, replicate, length-replicate}
use lib.Seq.{take-append_seam}
use borrow.Author.Tests.{le-leb}
use Rattle.limits.specs.declared.Refusal.{Refusal}
use Rattle.limits.specs.Operations.{Input, input_of}
use Rattle.limits.specs.Refusals.{by_fit}
use Rattle.runfile.specs.Reading.{read_of}
use Rattle.runfile.specs.Answers.{input_in, read_fit, ReadSays}
use Rattle.runfile.proofs.RunFiles.{fit_read, read_fit_lem, read_input}
use Rattle.lines.specs.Lines.{refused_line}
use Rattle.listing.specs.Listing.{listing_text, listing_fit, ListSays, RefusalSays}
use Rattle.answer.specs.Answer.{answer_text, AnswerSays}
use Rattle.runfile.specs.Reading.{sizes}

-- ---- what the statement gives
-- both answers and both texts are equal to one value
pub answer_only : (text out : List ℕ) (r s : Result ℕ Refusal) (a b : List ℕ) → AnswerSays text out r a → AnswerSays text out s b → (r ≡ s) × (a ≡ b)
answer_only text out r s a b p q = (p.answer ∙ sym q.answer, p.bytes ∙ sym q.bytes)

-- what is printed is written whole into every text of 12,288 bytes
pub answer_fits : (text out : List ℕ) (r : Result ℕ Refusal) (a : List ℕ) → 12288 ≤ length out → AnswerSays text out r a
    → (r ≡ Ok (length (answer_text text))) × (take (length (answer_text text)) a ≡ answer_text text)
answer_fits text out r a room says =
    let w = answer_text text in
    let b : leb (length w) (length out) ≡ true = le-leb (length w) (length out) (omega (arith, says.short)) in
    (rw b at says.answer, ap (take (length w)) (rw b at says.bytes) ∙ take-append_seam w (drop (length w) out))

-- an answer of m bytes, in a text of 12,288 bytes
pub answer_count : {text out : List ℕ} {r : Result ℕ Refusal} {a : List ℕ} (m : ℕ) → r ≡ Ok m → 12288 ≤ length out → AnswerSays text out r a → (m ≡ length (answer_text text)) × (m ≤ 12288)
answer_count {text} {out} {r} {a} m e room says =
    let f = (answer_fits text out r a room says).0 in
    let q : m ≡ length (answer_text text) = cc in
    (q, omega (arith, says.short))

-- such a text gets no refusal
pub answer_never : {text out : List ℕ} {r : Result ℕ Refusal} {a : List ℕ} (x : Refusal) → r ≡ Err x → 12288 ≤ length out → AnswerSays text out r a → ⊥
answer_never {text} {out} {r} {a} x e room says =
    let f = (answer_fits text out r a room says).0 in
    let z : ◌≡◌ {A = ℕ} 0 1 = cc in
    omega arith

-- a refused text prints the line of its refusal
pub answer_refused : (text : List ℕ) (x : Refusal) → read_fit text 128 128 128 4096 ≡ Err x → answer_text text ≡ refused_line x
unfolding answer_text
answer_refused text x e = ap (λ (f : Fit). by_fit f (listing_text (input_in (read_of text))) refused_line) e

-- an accepted text prints the listing of what it holds
pub answer_run : (text : List ℕ) → read_fit text 128 128 128 4096 ≡ Ok tt → answer_text text ≡ listing_text (input_in (read_of text))
unfolding answer_text
answer_run text e = ap (λ (f : Fit). by_fit f (listing_text (input_in (read_of text))) refused_line) e

-- ---- what the reader fills, in lists of the most entries that a run has
abbrev pub ReadWhole : List ℕ → Result Sizes Refusal → List ℕ → List ℕ → List ℤ → List ℕ → Type 0
ReadWhole text r thread kind sample schedule = ReadSays text (replicate 128 0) (replicate 128 0) (replicate 128 (pos 0)) (replicate 4096 0) r thread kind sample schedule

module _ {text thread kind : List ℕ} {sample : List ℤ} {schedule : List ℕ} {r : Result Sizes Refusal} (says : ReadWhole text r thread kind sample schedule) where
  -- the refusal that the text gets, or none
  pub whole_fit : read_fit text 128 128 128 4096 ≡ fit_read r
  whole_fit =
      sym (λ i. read_fit text (length-replicate {A = ℕ} 128 0 i) (length-replicate {A = ℕ} 128 0 i) (length-replicate 128 (pos 0) i) (length-replicate {A = ℕ} 4096 0 i)) ∙ read_fit_lem says

module _ {text thread kind : List ℕ} {sample : List ℤ} {schedule out : List ℕ} {r : Result ℕ Refusal} {out' : List ℕ} where
  -- the line of the refusal was written
  pub refused_says : {x : Refusal} → ReadWhole text (Err x) thread kind sample schedule → RefusalSays x out r out' → AnswerSays text out r out'
  refused_says {x} says line =
      let e = answer_refused text x (whole_fit says) in
      record { answer = rw e line.answer; bytes = rw e line.bytes; short = rw e (omega (arith, line.short)) }

  -- the listing of the filled entries was written
  pub run_says : {n m o t : ℕ} → ReadWhole text (Ok (sizes n m o t)) thread kind sample schedule
      → ListSays (input_of n m (take o thread) (take o kind) (take o sample) (take t schedule)) out r out' → AnswerSays text out r out'
  unfolding listing_fit
  run_says says listed =
      let a = read_input says in
      let l = subst (λ (i : Input). ListSays i out r out') a.1 listed in
      let w = answer_run text (whole_fit says) in
      let p = a.0.passes in
      record { answer = rw w (rw p at l.answer); bytes = rw w (rw p at l.bytes); short = rw w (l.short p) }

  -- the same where what is listed is known to be what was filled
  pub filled_says : {n m o t : ℕ} {thread' kind' : List ℕ} {sample' : List ℤ} {schedule' : List ℕ} → ReadWhole text (Ok (sizes n m o t)) thread kind sample schedule
      → ListSays (input_of n m (take o thread') (take o kind') (take o sample') (take t schedule')) out r out' → thread' ≡ thread → kind' ≡ kind → sample' ≡ sample → schedule' ≡ schedule
      → AnswerSays text out r out'
  filled_says {n} {m} {o} {t} says listed a b c d = run_says says (subst (λ (i : Input). ListSays i out r out') (λ j. input_of n m (take o (a j)) (take o (b j)) (take o (c j)) (take t (d j))) listed)
