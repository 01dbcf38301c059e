-- The text of a run (RunText.antt), a line after another, is the one spelled with each line before the text after it (Spelling.antt). Assumes nothing.
use mathlib.Core.Path.{◌≡◌, refl, ◌∙◌, ap}
use mathlib.Core.Bool.{Bool, true, false, cond}
use mathlib.Core.List.{List, [], ◌∷◌, ◌++◌, append_assoc}
use Prim.Native.Nat.{ℕ}
use lib.Dec.{eqb}
use lib.IntN.{ℤ}
use Rattle.numerals.specs.Decimal.{decimal}
use Rattle.numerals.specs.Samples.{sample_text}
use Rattle.numerals.specs.Words.{line}
use Rattle.limits.specs.Operations.{Input}
use Rattle.runfile.specs.RunText as T
use Rattle.runfile.specs.RunText.{run_text}
use Rattle.runfile.specs.Spelling.{threads_word, slots_word, put_word, take_word, step_word, fields, ended, pair_line, op_line, ops_text, steps_text, spelled}

-- ---- a line of two fields, and one of three, with the text after it
two_fields : (f g rest : List ℕ) → line (f ∷ g ∷ []) ++ rest ≡ ended (fields f g) rest
two_fields f g rest = simp append_assoc

three_fields : (f g h rest : List ℕ) → line (f ∷ g ∷ h ∷ []) ++ rest ≡ ended (fields f (fields g h)) rest
three_fields f g h rest = simp append_assoc

-- ---- line by line
op_spelled : (t k : ℕ) (x : ℤ) (rest : List ℕ) → T.op_line t k x ++ rest ≡ ended (op_line t k x) rest
op_spelled t k x rest = go (eqb k 1)
  where
    go : (b : Bool) → cond b (line (put_word ∷ decimal t ∷ sample_text x ∷ [])) (line (take_word ∷ decimal t ∷ [])) ++ rest ≡ ended (cond b (fields put_word (fields (decimal t) (sample_text x))) (pair_line take_word t)) rest
    go true = three_fields put_word (decimal t) (sample_text x) rest
    go false = two_fields take_word (decimal t) rest

ops_spelled : (thread kind : List ℕ) (sample : List ℤ) → T.ops_text thread kind sample ≡ ops_text thread kind sample
ops_spelled [] kind sample = refl
ops_spelled (t ∷ thread) [] sample = refl
ops_spelled (t ∷ thread) (k ∷ kind) [] = refl
ops_spelled (t ∷ thread) (k ∷ kind) (x ∷ sample) = op_spelled t k x (T.ops_text thread kind sample) ∙ ap (ended (op_line t k x)) (ops_spelled thread kind sample)

steps_spelled : (schedule : List ℕ) → T.steps_text schedule ≡ steps_text schedule
steps_spelled [] = refl
steps_spelled (t ∷ schedule) = two_fields step_word (decimal t) (T.steps_text schedule) ∙ ap (ended (pair_line step_word t)) (steps_spelled schedule)

-- ---- the whole text
pub run_spelled : (i : Input) → run_text i ≡ spelled i.threads i.slots i.thread i.kind i.sample i.schedule
unfolding run_text spelled
run_spelled i =
    let body = T.ops_text i.thread i.kind i.sample ++ T.steps_text i.schedule in
    two_fields threads_word (decimal i.threads) (line (slots_word ∷ decimal i.slots ∷ []) ++ body)
    ∙ ap (ended (pair_line threads_word i.threads)) (two_fields slots_word (decimal i.slots) body
    ∙ ap (ended (pair_line slots_word i.slots)) (λ j. ops_spelled i.thread i.kind i.sample j ++ steps_spelled i.schedule j))
