-- Nothing in this file has to be believed: the text of a run (RunText.antt) as the reader and the writer spell it, each line with the text after it.
--   threads_word ..  the words that records begin with
--   fields f g       two fields, parted by a tab (byte 9)
--   pair_line w n    the line of a word and a number
--   put_line t x     the line of a put: its thread and its sample
--   ended l rest     the line l, ended by a line feed (byte 10), and the text after it
--   ops_text         the lines of a table's operations
--   steps_text       the lines of a schedule
--   spelled          the whole text
use Rattle.std.specs.Prelude.{cond, List, [], ◌∷◌, ◌++◌, ℕ, eqb, ℤ}
use Rattle.numerals.specs.Decimal.{decimal}
use Rattle.numerals.specs.Samples.{sample_text}
use Rattle.numerals.specs.Words.{bytes}

abbrev pub threads_word : List ℕ
threads_word = bytes "threads"

abbrev pub slots_word : List ℕ
slots_word = bytes "slots"

abbrev pub put_word : List ℕ
put_word = bytes "put"

abbrev pub take_word : List ℕ
take_word = bytes "take"

abbrev pub step_word : List ℕ
step_word = bytes "step"

abbrev pub fields : List ℕ → List ℕ → List ℕ
fields f g = f ++ (9 ∷ g)

abbrev pub pair_line : List ℕ → ℕ → List ℕ
pair_line w n = fields w (decimal n)

abbrev pub put_line : ℕ → ℤ → List ℕ
put_line t x = fields put_word (fields (decimal t) (sample_text x))

abbrev pub ended : List ℕ → List ℕ → List ℕ
ended l rest = l ++ (10 ∷ rest)

abbrev pub op_line : ℕ → ℕ → ℤ → List ℕ
op_line t k x = cond (eqb k 1) (put_line t x) (pair_line take_word t)

abbrev pub ops_text : List ℕ → List ℕ → List ℤ → List ℕ
ops_text [] kind sample = []
ops_text (t ∷ thread) [] sample = []
ops_text (t ∷ thread) (k ∷ kind) [] = []
ops_text (t ∷ thread) (k ∷ kind) (x ∷ sample) = ended (op_line t k x) (ops_text thread kind sample)

abbrev pub steps_text : List ℕ → List ℕ
steps_text [] = []
steps_text (t ∷ schedule) = ended (pair_line step_word t) (steps_text schedule)

unfoldable pub spelled : ℕ → ℕ → List ℕ → List ℕ → List ℤ → List ℕ → List ℕ
spelled threads slots thread kind sample schedule =
    ended (pair_line threads_word threads) (ended (pair_line slots_word slots) (ops_text thread kind sample ++ steps_text schedule))
