-- What is printed for a text (document 01: `bench` 'reads a run file on standard input and prints a listing'; 'Refused input prints one line').
-- Assumes nothing.
--   answer_text  what is printed for a text, by a reader whose lists have room for every run: the listing of the run, or the line of the refusal
--   AnswerSays   the answer: how many bytes were written, or 9 where they do not fit; the lent text afterwards: exactly what is printed and then
--                what stood there, on a refusal as it was; and that 12,288 bytes are room for what is printed for every text
use Rattle.limits.specs.declared.Refusal.{Refusal}
use Rattle.std.specs.Prelude.{◌≡◌, List, ℕ, ◌≤◌, length, Err, Ok, Result}
use Rattle.limits.specs.Refusals.{by_fit, lent_after}
use Rattle.runfile.specs.Reading.{read_of}
use Rattle.runfile.specs.Answers.{input_in, read_fit}
use Rattle.lines.specs.Lines.{refused_line}
use Rattle.listing.specs.Listing.{listing_text, text_fit}

-- the most operations that a run has are 128, the most schedule entries 4,096
unfoldable pub answer_text : List ℕ → List ℕ
answer_text text = by_fit (read_fit text 128 128 128 4096) (listing_text (input_in (read_of text))) refused_line

pub record AnswerSays (text out : List ℕ) (r : Result ℕ Refusal) (out' : List ℕ) : Type 0 where
  pub answer : r ≡ by_fit (text_fit (length (answer_text text)) (length out)) (Ok (length (answer_text text))) Err
  pub bytes : out' ≡ lent_after (text_fit (length (answer_text text)) (length out)) (answer_text text) out
  pub short : length (answer_text text) ≤ 12288
