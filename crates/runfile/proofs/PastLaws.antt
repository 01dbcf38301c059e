-- Where a text begins as one with no wrong line does, no line of that beginning is wrong. Assumes nothing.
--   NotBefore m f   no line before m is wrong
--   IsFile f        no line at all is wrong
--   Keeps g         g leaves wrong what is wrong, at the same line, and nothing else
use Rattle.limits.specs.Parts.{kind_number}
use Rattle.std.specs.Prelude.{None, Option, Some}
use Rattle.runfile.specs.declared.Operation.{Operation}
use mathlib.Core.Path.{◌≡◌, refl, sym, ◌∙◌, subst}
use mathlib.Core.List.{List, [], ◌∷◌}
use Prim.Native.Nat.{ℕ, zero, suc, ◌+◌, ◌≤◌}
use native.Mathlib.Omega.{arith}
use lib.IntN.{ℤ}
use Rattle.runfile.specs.Spelling.{threads_word, slots_word, step_word}
use Rattle.runfile.specs.Wrong.{File, file, wrong}
use Rattle.runfile.specs.Reading.{parts, number_after, operation_of, add_threads, add_slots, add_op, add_step, or_wrong, or_steps, at_end, steps_from, ops_from, slots_then, threads_then}
use Rattle.runfile.proofs.TurnLaws.{steps_turn, ops_turn, slots_turn, threads_turn}
use Rattle.runfile.proofs.LinesLaws.{Agree, agree_some}

abbrev pub NotBefore : ℕ → File → Type 0
NotBefore m (file a b ts ks xs ss) = Unit {0}
NotBefore m (wrong k) = m ≤ k

abbrev pub IsFile : File → Type 0
IsFile (file a b ts ks xs ss) = Unit {0}
IsFile (wrong k) = ⊥

not_less : (m n : ℕ) (f : File) → m ≤ n → NotBefore n f → NotBefore m f
not_less m n (file a b ts ks xs ss) l h = tt
not_less m n (wrong k) l h = omega arith

file_not : (m : ℕ) (f : File) → IsFile f → NotBefore m f
file_not m (file a b ts ks xs ss) h = tt
file_not m (wrong k) h = absurd h

-- ---- the record of a line before what the lines after it give
pub record Keeps (g : File → File) : Type 0 where
  pub low : (m : ℕ) (f : File) → NotBefore m f → NotBefore m (g f)
  pub back : (f : File) → IsFile (g f) → IsFile f
  pub at : (f : File) (k : ℕ) → g f ≡ wrong k → f ≡ wrong k

keeps : (g : File → File) → ((k : ℕ) → g (wrong k) ≡ wrong k) → ((a b : ℕ) (ts ks : List ℕ) (xs : List ℤ) (ss : List ℕ) → IsFile (g (file a b ts ks xs ss))) → Keeps g
keeps g e d = record { low = low; back = back; at = at }
  where
    low : (m : ℕ) (f : File) → NotBefore m f → NotBefore m (g f)
    low m (file a b ts ks xs ss) h = file_not m (g (file a b ts ks xs ss)) (d a b ts ks xs ss)
    low m (wrong k) h = subst (NotBefore m) (sym (e k)) h

    back : (f : File) → IsFile (g f) → IsFile f
    back (file a b ts ks xs ss) h = tt
    back (wrong k) h = subst IsFile (e k) h

    at : (f : File) (k : ℕ) → g f ≡ wrong k → f ≡ wrong k
    at (file a b ts ks xs ss) k q = absurd (subst IsFile q (d a b ts ks xs ss))
    at (wrong j) k q = sym (e j) ∙ q

pub keeps_threads : (n : ℕ) → Keeps (add_threads n)
keeps_threads n = keeps (add_threads n) (λ k. refl) (λ a b ts ks xs ss. tt)

pub keeps_slots : (n : ℕ) → Keeps (add_slots n)
keeps_slots n = keeps (add_slots n) (λ k. refl) (λ a b ts ks xs ss. tt)

pub keeps_op : (t k : ℕ) (x : ℤ) → Keeps (add_op t k x)
keeps_op t k x = keeps (add_op t k x) (λ j. refl) (λ a b ts ks xs ss. tt)

pub keeps_step : (t : ℕ) → Keeps (add_step t)
keeps_step t = keeps (add_step t) (λ k. refl) (λ a b ts ks xs ss. tt)

-- ---- the reading from line j on finds no line before j wrong
or_low : (m k : ℕ) (r : Option ℕ) (g : ℕ → File) → m ≤ k → ((n : ℕ) → NotBefore m (g n)) → NotBefore m (or_wrong k r g)
or_low m k (Some n) g l h = h n
or_low m k None g l h = l

end_low : (j : ℕ) (l : List ℕ) → NotBefore j (at_end j l)
end_low j [] = tt
end_low j (c ∷ l) = omega arith

steps_low : (j : ℕ) (ps : List (List ℕ)) → NotBefore j (steps_from j ps)
steps_low j [] = omega arith
steps_low j (l ∷ []) = end_low j l
steps_low j (l ∷ m ∷ ls) =
    let rest = steps_from (suc j) (m ∷ ls) in
    or_low j j (number_after step_word (parts 9 l)) (λ t. add_step t rest) (omega arith) (λ t. (keeps_step t).low j rest (not_less j (suc j) rest (omega arith) (steps_low (suc j) (m ∷ ls))))

ops_low : (j : ℕ) (ps : List (List ℕ)) → NotBefore j (ops_from j ps)
ops_low j [] = omega arith
ops_low j (l ∷ []) = end_low j l
ops_low j (l ∷ m ∷ ls) = go (operation_of (parts 9 l)) (ops_low (suc j) (m ∷ ls))
  where
    go : (o : Option Operation) → NotBefore (suc j) (ops_from (suc j) (m ∷ ls)) → NotBefore j (or_steps o (ops_from (suc j) (m ∷ ls)) (steps_from j (l ∷ m ∷ ls)))
    go (Some o) h = (keeps_op o.thread (kind_number o.kind) o.sample).low j (ops_from (suc j) (m ∷ ls)) (not_less j (suc j) (ops_from (suc j) (m ∷ ls)) (omega arith) h)
    go None h = steps_low j (l ∷ m ∷ ls)

slots_low : (ps : List (List ℕ)) → NotBefore 2 (slots_then ps)
slots_low [] = omega arith
slots_low (l ∷ []) = omega arith
slots_low (l ∷ m ∷ ls) =
    let rest = ops_from 3 (m ∷ ls) in
    or_low 2 2 (number_after slots_word (parts 9 l)) (λ n. add_slots n rest) (omega arith) (λ n. (keeps_slots n).low 2 rest (not_less 2 3 rest (omega arith) (ops_low 3 (m ∷ ls))))

pub threads_low : (ps : List (List ℕ)) → NotBefore 1 (threads_then ps)
threads_low [] = omega arith
threads_low (l ∷ []) = omega arith
threads_low (l ∷ m ∷ ls) =
    let rest = slots_then (m ∷ ls) in
    or_low 1 1 (number_after threads_word (parts 9 l)) (λ n. add_threads n rest) (omega arith) (λ n. (keeps_threads n).low 1 rest (not_less 1 2 rest (omega arith) (slots_low (m ∷ ls))))

-- ---- nor a line among the first i, where these are the first of a text with no wrong line
or_past : (m k : ℕ) (r : Option ℕ) (g : ℕ → File → File) (f f' : File) → ((n : ℕ) → Keeps (g n)) → (IsFile f' → NotBefore m f) → IsFile (or_wrong k r (λ n. g n f')) → NotBefore m (or_wrong k r (λ n. g n f))
or_past m k (Some n) g f f' keep ih h = (keep n).low m f (ih ((keep n).back f' h))
or_past m k None g f f' keep ih h = absurd h

steps_past : (i j m : ℕ) (ps qs : List (List ℕ)) → m ≡ j + i → Agree i ps qs → IsFile (steps_from j qs) → NotBefore m (steps_from j ps)
steps_past zero j m ps qs e a h = not_less m j (steps_from j ps) (omega arith) (steps_low j ps)
steps_past (suc i) j m [] qs e a h = absurd a
steps_past (suc i) j m (l ∷ ps) [] e a h = absurd a
steps_past (suc i) j m (l ∷ ps) (q ∷ qs) e a h =
    let some = agree_some i ps qs a.1 in
    let h₁ : IsFile (steps_from j (l ∷ qs)) = subst (λ (x : List ℕ). IsFile (steps_from j (x ∷ qs))) (sym a.0) h in
    subst (NotBefore m) (sym (steps_turn j l ps some.0))
    (or_past m j (number_after step_word (parts 9 l)) add_step (steps_from (suc j) ps) (steps_from (suc j) qs) keeps_step (steps_past i (suc j) m ps qs (omega arith) a.1)
    (subst IsFile (steps_turn j l qs some.1) h₁))

ops_past : (i j m : ℕ) (ps qs : List (List ℕ)) → m ≡ j + i → Agree i ps qs → IsFile (ops_from j qs) → NotBefore m (ops_from j ps)
ops_past zero j m ps qs e a h = not_less m j (ops_from j ps) (omega arith) (ops_low j ps)
ops_past (suc i) j m [] qs e a h = absurd a
ops_past (suc i) j m (l ∷ ps) [] e a h = absurd a
ops_past (suc i) j m (l ∷ ps) (q ∷ qs) e a h =
    let some = agree_some i ps qs a.1 in
    let h₁ : IsFile (ops_from j (l ∷ qs)) = subst (λ (x : List ℕ). IsFile (ops_from j (x ∷ qs))) (sym a.0) h in
    subst (NotBefore m) (sym (ops_turn j l ps some.0))
    (go (operation_of (parts 9 l)) (ops_past i (suc j) m ps qs (omega arith) a.1) (steps_past (suc i) j m (l ∷ ps) (l ∷ qs) e (refl, a.1)) (subst IsFile (ops_turn j l qs some.1) h₁))
  where
    go : (o : Option Operation) → (IsFile (ops_from (suc j) qs) → NotBefore m (ops_from (suc j) ps)) → (IsFile (steps_from j (l ∷ qs)) → NotBefore m (steps_from j (l ∷ ps)))
        → IsFile (or_steps o (ops_from (suc j) qs) (steps_from j (l ∷ qs))) → NotBefore m (or_steps o (ops_from (suc j) ps) (steps_from j (l ∷ ps)))
    go (Some o) ih steps h = (keeps_op o.thread (kind_number o.kind) o.sample).low m (ops_from (suc j) ps) (ih ((keeps_op o.thread (kind_number o.kind) o.sample).back (ops_from (suc j) qs) h))
    go None ih steps h = steps h

slots_past : (i m : ℕ) (ps qs : List (List ℕ)) → m ≡ 2 + i → Agree i ps qs → IsFile (slots_then qs) → NotBefore m (slots_then ps)
slots_past zero m ps qs e a h = not_less m 2 (slots_then ps) (omega arith) (slots_low ps)
slots_past (suc i) m [] qs e a h = absurd a
slots_past (suc i) m (l ∷ ps) [] e a h = absurd a
slots_past (suc i) m (l ∷ ps) (q ∷ qs) e a h =
    let some = agree_some i ps qs a.1 in
    let h₁ : IsFile (slots_then (l ∷ qs)) = subst (λ (x : List ℕ). IsFile (slots_then (x ∷ qs))) (sym a.0) h in
    subst (NotBefore m) (sym (slots_turn l ps some.0))
    (or_past m 2 (number_after slots_word (parts 9 l)) add_slots (ops_from 3 ps) (ops_from 3 qs) keeps_slots (ops_past i 3 m ps qs (omega arith) a.1) (subst IsFile (slots_turn l qs some.1) h₁))

pub threads_past : (i m : ℕ) (ps qs : List (List ℕ)) → m ≡ 1 + i → Agree i ps qs → IsFile (threads_then qs) → NotBefore m (threads_then ps)
threads_past zero m ps qs e a h = not_less m 1 (threads_then ps) (omega arith) (threads_low ps)
threads_past (suc i) m [] qs e a h = absurd a
threads_past (suc i) m (l ∷ ps) [] e a h = absurd a
threads_past (suc i) m (l ∷ ps) (q ∷ qs) e a h =
    let some = agree_some i ps qs a.1 in
    let h₁ : IsFile (threads_then (l ∷ qs)) = subst (λ (x : List ℕ). IsFile (threads_then (x ∷ qs))) (sym a.0) h in
    subst (NotBefore m) (sym (threads_turn l ps some.0))
    (or_past m 1 (number_after threads_word (parts 9 l)) add_threads (slots_then ps) (slots_then qs) keeps_threads (slots_past i m ps qs (omega arith) a.1) (subst IsFile (threads_turn l qs some.1) h₁))
