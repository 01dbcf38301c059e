-- The text of a run (document 01, 'Run files'): one record a line; first the threads, then the slots, then all operations, then the schedule. Assumes nothing.
--   op_line     the line of an operation: kind 1 is a put, any other a take
--   ops_text    the lines of a table's operations
--   steps_text  the lines of a schedule
--   run_text    the whole text
--   Fitting     each sample of a list fits 32 signed bits
use Rattle.std.specs.Prelude.{cond, List, [], ◌∷◌, ◌++◌, ℕ, ◌<◌, eqb, ℤ, pos, length, get_or}
use Rattle.std.specs.Int.{w32}
use Rattle.std.proofs.Common.{SFits}
use Rattle.limits.specs.Operations.{Input}
use Rattle.numerals.specs.Decimal.{decimal}
use Rattle.numerals.specs.Samples.{sample_text}
use Rattle.numerals.specs.Words.{bytes, line}

abbrev pub op_line : ℕ → ℕ → ℤ → List ℕ
op_line t k x = cond (eqb k 1) (line (bytes "put" ∷ decimal t ∷ sample_text x ∷ [])) (line (bytes "take" ∷ decimal t ∷ []))

-- lists that differ in length are refused (3): where one ends, so does the text
abbrev pub ops_text : List ℕ → List ℕ → List ℤ → List ℕ
ops_text [] kind sample = []
ops_text (t ∷ thread) [] sample = []
ops_text (t ∷ thread) (k ∷ kind) [] = []
ops_text (t ∷ thread) (k ∷ kind) (x ∷ sample) = op_line t k x ++ ops_text thread kind sample

abbrev pub steps_text : List ℕ → List ℕ
steps_text [] = []
steps_text (t ∷ schedule) = line (bytes "step" ∷ decimal t ∷ []) ++ steps_text schedule

unfoldable pub run_text : Input → List ℕ
run_text i =
    line (bytes "threads" ∷ decimal i.threads ∷ []) ++ (line (bytes "slots" ∷ decimal i.slots ∷ [])
    ++ (ops_text i.thread i.kind i.sample ++ steps_text i.schedule))

abbrev pub Fitting : List ℤ → Type 0
Fitting sample = (i : ℕ) → i < length sample → SFits w32 (get_or sample i (pos 0))
