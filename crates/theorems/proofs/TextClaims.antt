-- What holds of every text that is read (document 01, 'Run files' and refusals 3 and 11). Assumes nothing.
--   Even          the three operation lists of a file are of one length
--   read_even     so they are in whatever a text holds: refusal 3 never applies to it
--   empty_text    empty text is 11 with detail 1
use Rattle.std.specs.Prelude.{Err, None, Option, Some}
use Rattle.runfile.specs.declared.Operation.{Operation}
use mathlib.Core.Path.{◌≡◌, refl, ap}
use mathlib.Core.List.{List, [], ◌∷◌}
use Prim.Native.Nat.{ℕ, suc}
use lib.ListN.{length}
use Rattle.limits.specs.declared.Refusal.TheVariants.{Line}
use Rattle.runfile.specs.Spelling.{threads_word, slots_word, step_word}
use Rattle.runfile.specs.Reading.{parts, number_after, operation_of, File, file, wrong, add_threads, add_slots, add_step, or_wrong, or_steps, at_end, steps_from, ops_from, slots_then, threads_then, read_of}
use Rattle.runfile.specs.Answers.{file_fit, read_fit}

abbrev pub Even : File → Type 0
Even (file a b thread kind sample schedule) = (length kind ≡ length thread) × (length sample ≡ length thread)
Even (wrong k) = Unit {0}

-- ---- each line keeps the three lists even

even_threads : (n : ℕ) (f : File) → Even f → Even (add_threads n f)
even_threads n (file a b thread kind sample schedule) e = e
even_threads n (wrong k) e = tt

even_slots : (n : ℕ) (f : File) → Even f → Even (add_slots n f)
even_slots n (file a b thread kind sample schedule) e = e
even_slots n (wrong k) e = tt

even_step : (t : ℕ) (f : File) → Even f → Even (add_step t f)
even_step t (file a b thread kind sample schedule) e = e
even_step t (wrong k) e = tt

even_or : (k : ℕ) (n : Option ℕ) (f : ℕ → File) → ((m : ℕ) → Even (f m)) → Even (or_wrong k n f)
even_or k (Some n) f e = e n
even_or k None f e = tt

even_op : (o : Option Operation) (next steps : File) → Even next → Even steps → Even (or_steps o next steps)
even_op (Some o) (file a b thread kind sample schedule) steps e s = (ap suc e.0, ap suc e.1)
even_op (Some o) (wrong j) steps e s = tt
even_op None next steps e s = s

even_end : (k : ℕ) (l : List ℕ) → Even (at_end k l)
even_end k [] = (refl, refl)
even_end k (c ∷ l) = tt

even_steps : (k : ℕ) (ls : List (List ℕ)) → Even (steps_from k ls)
even_steps k [] = tt
even_steps k (l ∷ []) = even_end k l
even_steps k (l ∷ m ∷ ls) = even_or k (number_after step_word (parts 9 l)) (λ t. add_step t (steps_from (suc k) (m ∷ ls))) (λ t. even_step t (steps_from (suc k) (m ∷ ls)) (even_steps (suc k) (m ∷ ls)))

even_ops : (k : ℕ) (ls : List (List ℕ)) → Even (ops_from k ls)
even_ops k [] = tt
even_ops k (l ∷ []) = even_end k l
even_ops k (l ∷ m ∷ ls) = even_op (operation_of (parts 9 l)) (ops_from (suc k) (m ∷ ls)) (steps_from k (l ∷ m ∷ ls)) (even_ops (suc k) (m ∷ ls)) (even_steps k (l ∷ m ∷ ls))

even_after : (ls : List (List ℕ)) → Even (slots_then ls)
even_after [] = tt
even_after (l ∷ []) = tt
even_after (l ∷ m ∷ ls) = even_or 2 (number_after slots_word (parts 9 l)) (λ n. add_slots n (ops_from 3 (m ∷ ls))) (λ n. even_slots n (ops_from 3 (m ∷ ls)) (even_ops 3 (m ∷ ls)))

even_all : (ls : List (List ℕ)) → Even (threads_then ls)
even_all [] = tt
even_all (l ∷ []) = tt
even_all (l ∷ m ∷ ls) = even_or 1 (number_after threads_word (parts 9 l)) (λ n. add_threads n (slots_then (m ∷ ls))) (λ n. even_threads n (slots_then (m ∷ ls)) (even_after (m ∷ ls)))

pub read_even : (text : List ℕ) → Even (read_of text)
unfolding read_of
read_even text = even_all (parts 10 text)

pub empty_text : (inThread inKind inSample inSchedule : ℕ) → read_fit [] inThread inKind inSample inSchedule ≡ Err (Line 1)
unfolding read_fit file_fit read_of
empty_text inThread inKind inSample inSchedule = refl
