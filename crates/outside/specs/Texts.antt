-- What the exported functions over texts answer, in numbers only (document 01, 'Run files', 'Runs worked by hand', 'Numbered refusals'). Assumes nothing.
--   read_numbers   a reading: 0, 0 and the numbers of threads, slots, operations and schedule entries; or the refusal's number, its detail, and four times 0
--   ReadTells      the reader's answer in these numbers, and the four lent lists, as the reader says
--   text_numbers   a text that was written, or not: a refusal's number and detail, and the number of bytes; 0, 0 for none refused, and 0 bytes for a refusal
--   WriteTells     the writer's answer, and the lent text
--   ListTells      the listing's answer, and the lent text; and that 12,288 bytes are room for the listing of every accepted input
use Rattle.limits.specs.declared.Refusal.{Refusal}
use Rattle.runfile.specs.declared.Sizes.{Sizes}
use Rattle.std.specs.Prelude.{◌≡◌, List, ℕ, ◌≤◌, ℤ, length, Err, Ok, Result}
use Rattle.limits.specs.Operations.{Input}
use Rattle.limits.specs.Refusals.{refusal_told, by_fit, lent_after, input_refusal}
use Rattle.runfile.specs.RunText.{run_text}
use Rattle.runfile.specs.Answers.{ReadSays, write_fit}
use Rattle.listing.specs.Listing.{listing_text, listing_fit}
use Rattle.outside.specs.declared.texts.ReadAnswer.{ReadAnswer}
use Rattle.outside.specs.declared.texts.TextAnswer.{TextAnswer}

abbrev pub read_numbers : Result Sizes Refusal → ReadAnswer
read_numbers (Ok z) = record { refusal = 0; detail = 0; threads = z.threads; slots = z.slots; operations = z.operations; steps = z.steps }
read_numbers (Err r) = record { refusal = (refusal_told r).0; detail = (refusal_told r).1; threads = 0; slots = 0; operations = 0; steps = 0 }

pub record ReadTells (text thread kind : List ℕ) (sample : List ℤ) (schedule : List ℕ) (r : ReadAnswer) (thread' kind' : List ℕ) (sample' : List ℤ) (schedule' : List ℕ) : Type 0 where
  pub read : Result Sizes Refusal
  pub says : ReadSays text thread kind sample schedule read thread' kind' sample' schedule'
  pub answer : r ≡ read_numbers read

abbrev pub text_numbers : ℕ × ℕ → ℕ → TextAnswer
text_numbers refusal bytes = record { refusal = refusal.0; detail = refusal.1; bytes = bytes }

pub record WriteTells (i : Input) (text : List ℕ) (r : TextAnswer) (text' : List ℕ) : Type 0 where
  pub answer : r ≡ by_fit (write_fit i (length text)) (text_numbers (0, 0) (length (run_text i))) (λ x. text_numbers (refusal_told x) 0)
  pub bytes : text' ≡ lent_after (write_fit i (length text)) (run_text i) text

pub record ListTells (i : Input) (text : List ℕ) (r : TextAnswer) (text' : List ℕ) : Type 0 where
  pub answer : r ≡ by_fit (listing_fit i (length text)) (text_numbers (0, 0) (length (listing_text i))) (λ x. text_numbers (refusal_told x) 0)
  pub bytes : text' ≡ lent_after (listing_fit i (length text)) (listing_text i) text
  pub short : input_refusal i ≡ Ok tt → length (listing_text i) ≤ 12288
