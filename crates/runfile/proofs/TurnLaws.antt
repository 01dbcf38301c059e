-- Laws of the reading line by line: what one line that is not the last adds. Assumes nothing.
use mathlib.Core.Path.{◌≡◌, refl}
use mathlib.Core.List.{List, [], ◌∷◌}
use Prim.Native.Nat.{ℕ, suc}
use Rattle.runfile.specs.Spelling.{threads_word, slots_word, step_word}
use Rattle.runfile.specs.Reading.{parts, number_after, operation_of, add_threads, add_slots, add_step, or_wrong, or_steps, steps_from, ops_from, slots_then, threads_then}
use Rattle.runfile.proofs.PartsLaws.{HasPart}

pub steps_turn : (k : ℕ) (l : List ℕ) (ps : List (List ℕ)) → HasPart ps → steps_from k (l ∷ ps) ≡ or_wrong k (number_after step_word (parts 9 l)) (λ t. add_step t (steps_from (suc k) ps))
steps_turn k l [] h = absurd h
steps_turn k l (p ∷ ps) h = refl

pub ops_turn : (k : ℕ) (l : List ℕ) (ps : List (List ℕ)) → HasPart ps → ops_from k (l ∷ ps) ≡ or_steps (operation_of (parts 9 l)) (ops_from (suc k) ps) (steps_from k (l ∷ ps))
ops_turn k l [] h = absurd h
ops_turn k l (p ∷ ps) h = refl

pub slots_turn : (l : List ℕ) (ps : List (List ℕ)) → HasPart ps → slots_then (l ∷ ps) ≡ or_wrong 2 (number_after slots_word (parts 9 l)) (λ n. add_slots n (ops_from 3 ps))
slots_turn l [] h = absurd h
slots_turn l (p ∷ ps) h = refl

pub threads_turn : (l : List ℕ) (ps : List (List ℕ)) → HasPart ps → threads_then (l ∷ ps) ≡ or_wrong 1 (number_after threads_word (parts 9 l)) (λ n. add_threads n (slots_then ps))
threads_turn l [] h = absurd h
threads_turn l (p ∷ ps) h = refl
