-- What the reader and the writer of run files answer, refusals too, and what the lent lists hold afterwards (document 01, 'Numbered refusals':
-- the reader tests 12, 11, then 1, 2, 4 to 9; the writer 1 to 9). Assumes nothing.
--   input_in    the input that a text holds; an empty one where it holds none
--   file_fit    11 of a text; 1 to 8 of the input that it holds (3 never applies to it), then 9 where a lent list is shorter than what the text has
--   read_fit    the refusal that a text gets, or none: 12 before these
--   ReadSays    the reader's answer, the numbers of threads, slots, operations and schedule entries, or the refusal; and the lists: filled where it accepts,
--               as they were where it refuses
--   write_fit   the refusal that an input gets for a lent text of that length, or none
--   WriteSays   the writer's answer, the number of bytes written, or the refusal; and the lent text
use Rattle.limits.specs.Refusals.{Fit}
use Rattle.limits.specs.declared.Refusal.{Refusal}
use Rattle.runfile.specs.declared.Sizes.{Sizes}
use Rattle.std.specs.Prelude.{◌≡◌, ◌&&◌, List, [], ℕ, leb, ℤ, length, Err, Ok, Result}
use Rattle.limits.specs.declared.Refusal.TheVariants.{Room, Line, Text}
use Rattle.limits.specs.Operations.{Input, input_of}
use Rattle.limits.specs.Refusals.{unless, by_fit, and_then, lent_after, input_refusal}
use Rattle.runfile.specs.RunText.{run_text}
use Rattle.runfile.specs.Wrong.{File, file, wrong}
use Rattle.runfile.specs.Reading.{read_of}

abbrev pub input_in : File → Input
input_in (file threads slots thread kind sample schedule) = input_of threads slots thread kind sample schedule
input_in (wrong k) = input_of 0 0 [] [] [] []

-- ---- reading; the four numbers are the lengths of the lent lists
unfoldable pub file_fit : ℕ → ℕ → ℕ → ℕ → File → Fit
file_fit inThread inKind inSample inSchedule (file threads slots thread kind sample schedule) =
    and_then (input_refusal (input_of threads slots thread kind sample schedule))
    (unless (leb (length thread) inThread && leb (length kind) inKind && leb (length sample) inSample && leb (length schedule) inSchedule) Room (Ok tt))
file_fit inThread inKind inSample inSchedule (wrong k) = Err (Line k)

unfoldable pub read_fit : List ℕ → ℕ → ℕ → ℕ → ℕ → Fit
read_fit text inThread inKind inSample inSchedule = unless (leb (length text) 65536) Text (file_fit inThread inKind inSample inSchedule (read_of text))

module _ (text thread₀ kind₀ : List ℕ) (sample₀ : List ℤ) (schedule₀ : List ℕ) where
  abbrev fit : Fit
  fit = read_fit text (length thread₀) (length kind₀) (length sample₀) (length schedule₀)

  abbrev i : Input
  i = input_in (read_of text)

  pub record ReadSays (r : Result Sizes Refusal) (thread kind : List ℕ) (sample : List ℤ) (schedule : List ℕ) : Type 0 where
    pub answer : r ≡ by_fit fit (Ok (record { threads = i.threads; slots = i.slots; operations = length i.thread; steps = length i.schedule })) Err
    pub threads : thread ≡ lent_after fit i.thread thread₀
    pub kinds : kind ≡ lent_after fit i.kind kind₀
    pub samples : sample ≡ lent_after fit i.sample sample₀
    pub steps : schedule ≡ lent_after fit i.schedule schedule₀

-- ---- writing
unfoldable pub write_fit : Input → ℕ → Fit
write_fit i room = and_then (input_refusal i) (unless (leb (length (run_text i)) room) Room (Ok tt))

pub record WriteSays (i : Input) (text₀ : List ℕ) (r : Result ℕ Refusal) (text : List ℕ) : Type 0 where
  pub answer : r ≡ by_fit (write_fit i (length text₀)) (Ok (length (run_text i))) Err
  pub bytes : text ≡ lent_after (write_fit i (length text₀)) (run_text i) text₀
