-- A refused call writes nothing: where an exported function's answer has a refusal other than 0, each lent list is as it was. And each refusal is
-- told by the document's number, never by 0, since these numbers begin with 1; so a caller who tests `refusal` misses none. Assumes nothing.
use Rattle.std.specs.Prelude.{Err, Ok, Result}
use Rattle.limits.specs.Refusals.{Fit}
use Rattle.runfile.specs.declared.Sizes.{Sizes}
use mathlib.Core.Path.{◌≡◌, refl, ap, ◌∙◌}
use mathlib.Core.Logic.{◌≢◌}
use mathlib.Core.List.{List}
use Prim.Native.Nat.{ℕ, ◌<◌}
use native.Mathlib.Omega.{arith}
use lib.IntN.{ℤ}
use lib.ListN.{length}
use Rattle.limits.specs.declared.Refusal.{Refusal}
use Rattle.limits.specs.declared.Refusal.TheVariants.{Threads, Slots, Lengths, Operations, Operation, Puts, Schedule, Entry, Room, Event, Line, Text}
use Rattle.limits.specs.Operations.{Input}
use Rattle.limits.specs.Refusals.{refusal_told, by_fit}
use Rattle.run.specs.Run.{Lists, run_fit, summary_of}
use Rattle.runfile.specs.RunText.{run_text}
use Rattle.runfile.specs.Reading.{read_of}
use Rattle.runfile.specs.Answers.{input_in, read_fit, write_fit}
use Rattle.listing.specs.Listing.{listing_text, listing_fit}
use Rattle.outside.specs.declared.RunAnswer.{RunAnswer}
use Rattle.outside.specs.declared.texts.ReadAnswer.{ReadAnswer}
use Rattle.outside.specs.declared.texts.TextAnswer.{TextAnswer}
use Rattle.outside.specs.Outside.{run_numbers, nothing, RunTells}
use Rattle.outside.specs.Texts.{read_numbers, ReadTells, text_numbers, WriteTells, ListTells}
use Rattle.limits.proofs.FitLaws.{in_numbers}
use Rattle.outside.proofs.OutsideLaws.{room}
use Rattle.runfile.specs.Reading.{sizes}

-- the document's numbers begin with 1
pub number_positive : (x : Refusal) → 0 < (refusal_told x).0
number_positive Threads = omega arith
number_positive Slots = omega arith
number_positive Lengths = omega arith
number_positive Operations = omega arith
number_positive (Operation o) = omega arith
number_positive Puts = omega arith
number_positive Schedule = omega arith
number_positive (Entry i) = omega arith
number_positive Room = omega arith
number_positive (Event i) = omega arith
number_positive (Line k) = omega arith
number_positive Text = omega arith

-- a number that tells a refusal
abbrev pub Told : ℕ → Refusal → Type 0
Told n x = (n ≡ (refusal_told x).0) × (0 < n)

-- ---- a fit in numbers: 0 where it passes, the document's number where it refuses

abbrev number : Fit → ℕ
number f = by_fit f 0 (λ x. (refusal_told x).0)

-- another number than 0 tells that the fit refuses
refuses : (f : Fit) (n : ℕ) → n ≡ number f → n ≢ 0 → (x : Refusal) × (f ≡ Err x)
refuses (Ok tt) n e nz = absurd (nz e)
refuses (Err x) n e nz = (x, refl)

-- and a fit that refuses is told by its refusal's number
told : (f : Fit) (n : ℕ) → n ≡ number f → (x : Refusal) → f ≡ Err x → Told n x
told f n e x refused =
    let k : n ≡ (refusal_told x).0 = rw refused at e in
    (k, rw k (number_positive x))

-- ---- the run

module _ (i : Input) (l : Lists) (ps : List ℕ) (ns : List ℤ) (es : List ℕ) (m : Lists) (ps' : List ℕ) (ns' : List ℤ) (es' : List ℕ) (r : RunAnswer) (tells : RunTells i l ps ns es m ps' ns' es' r) where
  abbrev ran : Fit
  ran = run_fit i l (room ps ns es)

  run_number : r.refusal ≡ number ran
  run_number = ap (λ (a : RunAnswer). a.refusal) tells.answer ∙ in_numbers (λ (a : RunAnswer). a.refusal) ran (run_numbers (0, 0) (summary_of i)) (λ x. run_numbers (refusal_told x) nothing)

  pub run_refused_leaves : r.refusal ≢ 0 → (m ≡ l) × (ps' ≡ ps) × (ns' ≡ ns) × (es' ≡ es)
  run_refused_leaves nz =
      let e = (refuses ran r.refusal run_number nz).1 in
      (rw e at tells.lists, rw e at tells.phases, rw e at tells.numbers, rw e at tells.ends)

  pub run_refused_told : (x : Refusal) → ran ≡ Err x → Told r.refusal x
  run_refused_told = told ran r.refusal run_number

-- ---- the reader

module _ (text thread kind : List ℕ) (sample : List ℤ) (schedule : List ℕ) (r : ReadAnswer) (thread' kind' : List ℕ) (sample' : List ℤ) (schedule' : List ℕ)
    (tells : ReadTells text thread kind sample schedule r thread' kind' sample' schedule') where
  abbrev read : Fit
  read = read_fit text (length thread) (length kind) (length sample) (length schedule)

  read_number : r.refusal ≡ number read
  read_number =
      let i = input_in (read_of text) in
      ap (λ (a : ReadAnswer). a.refusal) (tells.answer ∙ ap read_numbers tells.says.answer)
      ∙ in_numbers (λ (q : Result Sizes Refusal). (read_numbers q).refusal) read (Ok (sizes i.threads i.slots (length i.thread) (length i.schedule))) Err

  pub read_refused_leaves : r.refusal ≢ 0 → (thread' ≡ thread) × (kind' ≡ kind) × (sample' ≡ sample) × (schedule' ≡ schedule)
  read_refused_leaves nz =
      let e = (refuses read r.refusal read_number nz).1 in
      let says = tells.says in
      (rw e at says.threads, rw e at says.kinds, rw e at says.samples, rw e at says.steps)

  pub read_refused_told : (x : Refusal) → read ≡ Err x → Told r.refusal x
  read_refused_told = told read r.refusal read_number

-- ---- the writer and the listing

-- a text of n bytes that a fit lets in
text_number : (f : Fit) (n : ℕ) (r : TextAnswer) → r ≡ by_fit f (text_numbers (0, 0) n) (λ x. text_numbers (refusal_told x) 0) → r.refusal ≡ number f
text_number f n r e = ap (λ (a : TextAnswer). a.refusal) e ∙ in_numbers (λ (a : TextAnswer). a.refusal) f (text_numbers (0, 0) n) (λ x. text_numbers (refusal_told x) 0)

module _ (i : Input) (text : List ℕ) (r : TextAnswer) (text' : List ℕ) where
  module _ (tells : WriteTells i text r text') where
    write_number : r.refusal ≡ number (write_fit i (length text))
    write_number = text_number (write_fit i (length text)) (length (run_text i)) r tells.answer

    pub write_refused_leaves : r.refusal ≢ 0 → text' ≡ text
    write_refused_leaves nz = rw (refuses (write_fit i (length text)) r.refusal write_number nz).1 at tells.bytes

    pub write_refused_told : (x : Refusal) → write_fit i (length text) ≡ Err x → Told r.refusal x
    write_refused_told = told (write_fit i (length text)) r.refusal write_number

  module _ (tells : ListTells i text r text') where
    list_number : r.refusal ≡ number (listing_fit i (length text))
    list_number = text_number (listing_fit i (length text)) (length (listing_text i)) r tells.answer

    pub list_refused_leaves : r.refusal ≢ 0 → text' ≡ text
    list_refused_leaves nz = rw (refuses (listing_fit i (length text)) r.refusal list_number nz).1 at tells.bytes

    pub list_refused_told : (x : Refusal) → listing_fit i (length text) ≡ Err x → Told r.refusal x
    list_refused_told = told (listing_fit i (length text)) r.refusal list_number
