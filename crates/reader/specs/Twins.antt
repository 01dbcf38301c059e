-- Nothing here has to be believed: what the private functions of the reader answer, by the definitions of Reading.
--   PassSays        the place after a word and its tab, where a line begins with them
--   LineSays        a line of a word and a number, with the place of the next; or that the next line is none
--   ShortSays       a step of one or two digits, read the short way; nothing is said where that way does not serve
--   put_in          the put of a line, by its fields
--   HeadSays        the first two lines, with the place after them
--   OpsSays         the operations read, and what they leave to be read
--   StepsSay        the schedule read
--   ParsedSays      the whole reading, its lists stored as far as the lent ones reach
--   SettleSays      the answer to a reading, and what the lent lists hold afterwards
--   file_of, fit_in, SameLengths, HasRoom, Settles   the same where the input and the lent lists are structs of the code
use Rattle.limits.specs.Refusals.{Fit}
use Rattle.limits.specs.declared.Refusal.{Refusal}
use Rattle.runfile.specs.declared.Sizes.{Sizes}
use Rattle.runfile.specs.declared.Operation.{Operation}
use Rattle.reader.specs.declared.whole.Head.{Head}
use Rattle.std.specs.Prelude.{◌≡◌, cond, List, [], ◌∷◌, ◌++◌, ℕ, ◌+◌, ◌≤◌, ◌<◌, ℤ, length, drop, Err, None, Ok, Option, Result, Some}
use Rattle.std.proofs.lemmas.List.Edits.{sets}
use Rattle.numerals.specs.Reading.{number_of, sample_of}
use Rattle.limits.specs.declared.Refusal.TheVariants as X
use Rattle.limits.specs.Operations.{Input}
use Rattle.limits.specs.declared.Input.{Input as Given}
use Rattle.reader.specs.declared.Lent.{Lent}
use Rattle.limits.specs.Refusals.{by_fit, lent_after}
use Rattle.runfile.specs.Spelling.{put_word, step_word}
use Rattle.runfile.specs.Reading.{parts, same, number_after, put_of, File, file, wrong, add_threads, add_slots, ops_from, steps_from, threads_then}
use Rattle.runfile.specs.Reading.{sizes}
use Rattle.runfile.specs.Answers.{input_in, file_fit}

abbrev pub PassSays : ℕ → List ℕ → List ℕ → Option ℕ → Type 0
PassSays a l w (Some f) = (f ≡ a + length w + 1) × (l ≡ w ++ (9 ∷ drop (length w + 1) l))
PassSays a l w None = (rest : List ℕ) → l ≡ w ++ (9 ∷ rest) → ⊥

-- the first line is not one of the word w and a number
abbrev pub NoPair : List ℕ → List (List ℕ) → Type 0
NoPair w [] = Unit {0}
NoPair w (l ∷ []) = Unit {0}
NoPair w (l ∷ m ∷ ls) = number_after w (parts 9 l) ≡ None

abbrev pub LineSays : List ℕ → List ℕ → ℕ → Option (ℕ × ℕ) → Type 0
LineSays w s a (Some p) =
    (l : List ℕ) × ((parts 10 (drop a s) ≡ l ∷ parts 10 (drop p.1 s)) × ((number_after w (parts 9 l) ≡ Some p.0) × ((a < p.1) × (p.1 ≤ length s))))
LineSays w s a None = NoPair w (parts 10 (drop a s))

abbrev pub ShortSays : List ℕ → ℕ → Option (ℕ × ℕ) → Type 0
ShortSays s a (Some p) = LineSays step_word s a (Some p)
ShortSays s a None = Unit {0}

abbrev pub put_in : List (List ℕ) → Option Operation
put_in [] = None
put_in (w ∷ []) = None
put_in (w ∷ t ∷ []) = None
put_in (w ∷ t ∷ x ∷ []) = cond (same w put_word) (put_of (number_of t) (sample_of x)) None
put_in (w ∷ t ∷ x ∷ f ∷ fs) = None

abbrev pub HeadSays : List ℕ → Result Head Refusal → Type 0
HeadSays s (Ok h) = (threads_then (parts 10 s) ≡ add_threads h.threads (add_slots h.slots (ops_from 3 (parts 10 (drop h.place s))))) × ((h.place ≤ length s) × (3 ≤ h.place + 1))
HeadSays s (Err r) = (k : ℕ) × ((threads_then (parts 10 s) ≡ wrong k) × (r ≡ X.Line k))

-- what a reading becomes when these operations, or these entries, stand before what it read
abbrev pub under_ops : List ℕ → List ℕ → List ℤ → File → File
under_ops ts ks xs (file a b thread kind sample schedule) = file a b (ts ++ thread) (ks ++ kind) (xs ++ sample) schedule
under_ops ts ks xs (wrong k) = wrong k

abbrev pub under_steps : List ℕ → File → File
under_steps ss (file a b thread kind sample schedule) = file a b thread kind sample (ss ++ schedule)
under_steps ss (wrong k) = wrong k

-- operations that were read, how many, and the lists that hold them
pub record Done (thread₀ kind₀ : List ℕ) (sample₀ : List ℤ) (thread kind : List ℕ) (sample : List ℤ) (count : ℕ) : Type 0 where
  pub ts : List ℕ
  pub ks : List ℕ
  pub xs : List ℤ
  pub many : count ≡ length ts
  pub many_kinds : length ks ≡ length ts
  pub many_samples : length xs ≡ length ts
  pub threads : thread ≡ sets thread₀ 0 ts
  pub kinds : kind ≡ sets kind₀ 0 ks
  pub samples : sample ≡ sets sample₀ 0 xs

pub record OpsSays (s : List ℕ) (from first : ℕ) (thread₀ kind₀ : List ℕ) (sample₀ : List ℤ) (thread kind : List ℕ) (sample : List ℤ) (count place line : ℕ) : Type 0 where
  pub done : Done thread₀ kind₀ sample₀ thread kind sample count
  pub reading : ops_from first (parts 10 (drop from s)) ≡ under_ops done.ts done.ks done.xs (steps_from line (parts 10 (drop place s)))
  pub inside : place ≤ length s
  pub lines : line ≤ place + 1

-- entries past the end of the lent list are counted, not stored
abbrev pub StepsSay : File → Result ℕ Refusal → List ℕ → List ℕ → Type 0
StepsSay (file a b thread kind sample schedule) (Ok c) out₀ out = (c ≡ length schedule) × (out ≡ sets out₀ 0 schedule)
StepsSay (file a b thread kind sample schedule) (Err r) out₀ out = ⊥
StepsSay (wrong k) (Ok c) out₀ out = ⊥
StepsSay (wrong k) (Err r) out₀ out = r ≡ X.Line k

abbrev pub ParsedSays : File → Result Sizes Refusal → List ℕ → List ℕ → List ℤ → List ℕ → List ℕ → List ℕ → List ℤ → List ℕ → Type 0
ParsedSays (file n m thread kind sample schedule) (Ok z) thread₀ kind₀ sample₀ schedule₀ thread₁ kind₁ sample₁ schedule₁ =
    (z.threads ≡ n) × ((z.slots ≡ m) × ((z.operations ≡ length thread) × ((z.steps ≡ length schedule) × ((length kind ≡ length thread) × ((length sample ≡ length thread)
    × ((thread₁ ≡ sets thread₀ 0 thread) × ((kind₁ ≡ sets kind₀ 0 kind) × ((sample₁ ≡ sets sample₀ 0 sample) × (schedule₁ ≡ sets schedule₀ 0 schedule)))))))))
ParsedSays (file n m thread kind sample schedule) (Err r) thread₀ kind₀ sample₀ schedule₀ thread₁ kind₁ sample₁ schedule₁ = ⊥
ParsedSays (wrong k) (Ok z) thread₀ kind₀ sample₀ schedule₀ thread₁ kind₁ sample₁ schedule₁ = ⊥
ParsedSays (wrong k) (Err r) thread₀ kind₀ sample₀ schedule₀ thread₁ kind₁ sample₁ schedule₁ = r ≡ X.Line k

module _ (f : File) (thread₀ kind₀ : List ℕ) (sample₀ : List ℤ) (schedule₀ : List ℕ) where
  abbrev fit : Fit
  fit = file_fit (length thread₀) (length kind₀) (length sample₀) (length schedule₀) f

  abbrev i : Input
  i = input_in f

  pub record SettleSays (r : Result Sizes Refusal) (thread kind : List ℕ) (sample : List ℤ) (schedule : List ℕ) : Type 0 where
    pub answer : r ≡ by_fit fit (Ok (sizes i.threads i.slots (length i.thread) (length i.schedule))) Err
    pub threads : thread ≡ lent_after fit i.thread thread₀
    pub kinds : kind ≡ lent_after fit i.kind kind₀
    pub samples : sample ≡ lent_after fit i.sample sample₀
    pub steps : schedule ≡ lent_after fit i.schedule schedule₀

-- ---- the same of an input that the code has as a struct, and of lent lists
abbrev pub file_of : Given → File
file_of i = file i.threads i.slots i.table.thread.now i.table.kind.now i.table.sample.now i.schedule.now

abbrev pub fit_in : Lent → File → Fit
fit_in l f = file_fit (length l.thread.now) (length l.kind.now) (length l.sample.now) (length l.schedule.now) f

abbrev pub SameLengths : Lent → Lent → Type 0
SameLengths l m =
    (length m.thread.now ≡ length l.thread.now) × (length m.kind.now ≡ length l.kind.now) × (length m.sample.now ≡ length l.sample.now) × (length m.schedule.now ≡ length l.schedule.now)

pub record HasRoom (l : Lent) (i : Given) : Type 0 where
  pub threads : length i.table.thread.now ≤ length l.thread.now
  pub kinds : length i.table.kind.now ≤ length l.kind.now
  pub samples : length i.table.sample.now ≤ length l.sample.now
  pub steps : length i.schedule.now ≤ length l.schedule.now

pub record Settles (f : File) (l m : Lent) (r : Fit) : Type 0 where
  pub answer : r ≡ fit_in l f
  pub threads : m.thread.now ≡ lent_after (fit_in l f) (input_in f).thread l.thread.now
  pub kinds : m.kind.now ≡ lent_after (fit_in l f) (input_in f).kind l.kind.now
  pub samples : m.sample.now ≡ lent_after (fit_in l f) (input_in f).sample l.sample.now
  pub steps : m.schedule.now ≡ lent_after (fit_in l f) (input_in f).schedule l.schedule.now
