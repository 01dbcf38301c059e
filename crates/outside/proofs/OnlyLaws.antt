-- Two results that meet the statement of an exported function on the same input are the same: each part is told by an equation whose
-- right side knows only what went in. Assumes nothing.
use mathlib.Core.Path.{◌≡◌, sym, ap, ◌∙◌}
use mathlib.Core.List.{List}
use Prim.Native.Nat.{ℕ}
use lib.IntN.{ℤ}
use Rattle.limits.specs.Operations.{Input}
use Rattle.run.specs.Run.{Lists}
use Rattle.runfile.proofs.RunFiles.{read_only}
use Rattle.outside.specs.declared.RunAnswer.{RunAnswer}
use Rattle.outside.specs.declared.texts.ReadAnswer.{ReadAnswer}
use Rattle.outside.specs.declared.texts.TextAnswer.{TextAnswer}
use Rattle.outside.specs.Outside.{RunTells}
use Rattle.outside.specs.Texts.{read_numbers, ReadTells, WriteTells, ListTells}

-- the answer and the eight lists of a run
module _ (i : Input) (l : Lists) (ps : List ℕ) (ns : List ℤ) (es : List ℕ) (m : Lists) (ps' : List ℕ) (ns' : List ℤ) (es' : List ℕ) (k : Lists) (ps'' : List ℕ) (ns'' : List ℤ) (es'' : List ℕ) (r q : RunAnswer) where
  pub run_tells_only : RunTells i l ps ns es m ps' ns' es' r → RunTells i l ps ns es k ps'' ns'' es'' q → (r ≡ q) × (m ≡ k) × (ps' ≡ ps'') × (ns' ≡ ns'') × (es' ≡ es'')
  run_tells_only a b = (a.answer ∙ sym b.answer, a.lists ∙ sym b.lists, a.phases ∙ sym b.phases, a.numbers ∙ sym b.numbers, a.ends ∙ sym b.ends)

-- the answer and the four lists of a reading; the reader itself has one answer only
module _ (text thread kind : List ℕ) (sample : List ℤ) (schedule : List ℕ) (r q : ReadAnswer) (thread' kind' : List ℕ) (sample' : List ℤ) (schedule' thread'' kind'' : List ℕ) (sample'' : List ℤ) (schedule'' : List ℕ) where
  pub read_tells_only : ReadTells text thread kind sample schedule r thread' kind' sample' schedule' → ReadTells text thread kind sample schedule q thread'' kind'' sample'' schedule''
      → (r ≡ q) × (thread' ≡ thread'') × (kind' ≡ kind'') × (sample' ≡ sample'') × (schedule' ≡ schedule'')
  read_tells_only a b = let k = read_only a.says b.says in (a.answer ∙ ap read_numbers k.0 ∙ sym b.answer, k.1.0, k.1.1.0, k.1.1.1.0, k.1.1.1.1)

-- the answer and the text of a writing, and of a listing
module _ (i : Input) (text : List ℕ) (r q : TextAnswer) (text' text'' : List ℕ) where
  pub write_tells_only : WriteTells i text r text' → WriteTells i text q text'' → (r ≡ q) × (text' ≡ text'')
  write_tells_only a b = (a.answer ∙ sym b.answer, a.bytes ∙ sym b.bytes)

  pub list_tells_only : ListTells i text r text' → ListTells i text q text'' → (r ≡ q) × (text' ≡ text'')
  list_tells_only a b = (a.answer ∙ sym b.answer, a.bytes ∙ sym b.bytes)
