-- Nothing here has to be believed: what a text holds, computed (document 01, 'Run files' and refusal 11). That it is what Wrong says a text holds, and that
-- nothing else is, is proved: `read_holds`, `holds_read` and `read_wrong` in proofs/WrongLaws.antt.
--   parts x s       what stands between the bytes x of s, always one part more than there are such bytes. The parts of a text between its line
--                   feeds are its lines and, last, what stands after the last line feed: nothing may. The parts of a line between its tabs are its fields
--   same            whether two fields are the same bytes
--   number_after w  the number of a line whose fields are the word w and a number
--   sizes, operation  the structs of the code, of their fields
--   operation_of    the operation of a line (thread, kind, sample: 0 for a take), by its fields
--   threads_then, slots_then, ops_from, steps_from
--                   the reading from each place of a file on; the numbers say which line comes next. A missing line is wrong where it should have begun
--   read_of         the reading of a whole text
use Rattle.limits.specs.declared.Kind.{Kind}
use Rattle.limits.specs.declared.Kind.TheVariants.{Put as putting, Take as taking}
use Rattle.limits.specs.Parts.{kind_number}
use Rattle.runfile.specs.declared.Operation.{Operation}
use Rattle.runfile.specs.declared.Sizes.{Sizes}
use Rattle.std.specs.Prelude.{Bool, true, false, cond, List, [], ◌∷◌, ℕ, suc, eqb, ℤ, pos, None, Option, Some}
use Rattle.numerals.specs.Reading.{number_of, sample_of}
use Rattle.runfile.specs.Spelling.{threads_word, slots_word, put_word, take_word, step_word}
pub use Rattle.runfile.specs.Wrong.{File, file, wrong}

-- a byte before the first part
abbrev pub onto : ℕ → List (List ℕ) → List (List ℕ)
onto c [] = (c ∷ []) ∷ []
onto c (p ∷ ps) = (c ∷ p) ∷ ps

abbrev pub parts : ℕ → List ℕ → List (List ℕ)
parts x [] = [] ∷ []
parts x (c ∷ s) = cond (eqb c x) ([] ∷ parts x s) (onto c (parts x s))

abbrev pub same : List ℕ → List ℕ → Bool
same [] [] = true
same [] (d ∷ g) = false
same (c ∷ f) [] = false
same (c ∷ f) (d ∷ g) = cond (eqb c d) (same f g) false

abbrev pub number_after : List ℕ → List (List ℕ) → Option ℕ
number_after word [] = None
number_after word (w ∷ []) = None
number_after word (w ∷ n ∷ []) = cond (same w word) (number_of n) None
number_after word (w ∷ n ∷ f ∷ fs) = None

abbrev pub sizes : ℕ → ℕ → ℕ → ℕ → Sizes
sizes threads slots operations steps = record { threads = threads; slots = slots; operations = operations; steps = steps }

abbrev pub operation : ℕ → Kind → ℤ → Operation
operation t k x = record { thread = t; kind = k; sample = x }

abbrev pub take_of : Option ℕ → Option Operation
take_of (Some t) = Some (operation t taking (pos 0))
take_of None = None

abbrev pub put_of : Option ℕ → Option ℤ → Option Operation
put_of (Some t) (Some x) = Some (operation t putting x)
put_of (Some t) None = None
put_of None x = None

abbrev pub operation_of : List (List ℕ) → Option Operation
operation_of [] = None
operation_of (w ∷ []) = None
operation_of (w ∷ t ∷ []) = cond (same w take_word) (take_of (number_of t)) None
operation_of (w ∷ t ∷ x ∷ []) = cond (same w put_word) (put_of (number_of t) (sample_of x)) None
operation_of (w ∷ t ∷ x ∷ f ∷ fs) = None

-- what the lines after a line give, with that line's record before it
abbrev pub add_threads : ℕ → File → File
add_threads n (file a b thread kind sample schedule) = file n b thread kind sample schedule
add_threads n (wrong k) = wrong k

abbrev pub add_slots : ℕ → File → File
add_slots n (file a b thread kind sample schedule) = file a n thread kind sample schedule
add_slots n (wrong k) = wrong k

abbrev pub add_op : ℕ → ℕ → ℤ → File → File
add_op t k x (file a b thread kind sample schedule) = file a b (t ∷ thread) (k ∷ kind) (x ∷ sample) schedule
add_op t k x (wrong j) = wrong j

abbrev pub add_step : ℕ → File → File
add_step t (file a b thread kind sample schedule) = file a b thread kind sample (t ∷ schedule)
add_step t (wrong k) = wrong k

-- a number's reading taken apart: any other case is wrong at line k
abbrev pub or_wrong : ℕ → Option ℕ → (ℕ → File) → File
or_wrong k (Some n) f = f n
or_wrong k None f = wrong k

-- an operation's reading taken apart: the schedule begins at the first line that holds none
abbrev pub or_steps : Option Operation → File → File → File
or_steps (Some o) next steps = add_op o.thread (kind_number o.kind) o.sample next
or_steps None next steps = steps

-- after the last line feed nothing may stand
abbrev pub at_end : ℕ → List ℕ → File
at_end k [] = file 0 0 [] [] [] []
at_end k (c ∷ l) = wrong k

abbrev pub steps_from : ℕ → List (List ℕ) → File
steps_from k [] = wrong k
steps_from k (l ∷ []) = at_end k l
steps_from k (l ∷ m ∷ ls) = or_wrong k (number_after step_word (parts 9 l)) (λ t. add_step t (steps_from (suc k) (m ∷ ls)))

abbrev pub ops_from : ℕ → List (List ℕ) → File
ops_from k [] = wrong k
ops_from k (l ∷ []) = at_end k l
ops_from k (l ∷ m ∷ ls) = or_steps (operation_of (parts 9 l)) (ops_from (suc k) (m ∷ ls)) (steps_from k (l ∷ m ∷ ls))

abbrev pub slots_then : List (List ℕ) → File
slots_then [] = wrong 2
slots_then (l ∷ []) = wrong 2
slots_then (l ∷ m ∷ ls) = or_wrong 2 (number_after slots_word (parts 9 l)) (λ n. add_slots n (ops_from 3 (m ∷ ls)))

abbrev pub threads_then : List (List ℕ) → File
threads_then [] = wrong 1
threads_then (l ∷ []) = wrong 1
threads_then (l ∷ m ∷ ls) = or_wrong 1 (number_after threads_word (parts 9 l)) (λ n. add_threads n (slots_then (m ∷ ls)))

unfoldable pub read_of : List ℕ → File
read_of text = threads_then (parts 10 text)
