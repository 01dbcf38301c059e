-- Writing what was read: the text of what was read, as Spelling.antt spells it, is the text. Assumes nothing.
--   PairIs, OpIs               what is known of a line by its reading: it is the line of what was read
--   StepsAre .. FileIs         what is known of a text by its reading
use Rattle.limits.specs.Parts.{kind_number}
use Rattle.std.specs.Prelude.{None, Option, Some}
use Rattle.runfile.specs.declared.Operation.{Operation}
use mathlib.Core.Path.{◌≡◌, refl, sym, ◌∙◌, subst}
use mathlib.Core.Bool.{false}
use mathlib.Core.List.{List, [], ◌∷◌, ◌++◌, append_assoc}
use Prim.Native.Nat.{ℕ, suc, ◌≤◌}
use native.Mathlib.Omega.{arith}
use lib.IntN.{ℤ}
use mir.Syntax.{w32}
use mir.Val.{SFits}
use borrow.Author.Tests.{lt-leb}
use Rattle.numerals.specs.Reading.{number_of, sample_of}
use Rattle.numerals.proofs.NumeralRound.{NumberIs, number_is, SampleIs, sample_is, cond_elim}
use Rattle.limits.specs.Refusals.{unfit}
use Rattle.runfile.specs.Spelling.{threads_word, slots_word, put_word, take_word, step_word, fields, pair_line, op_line, ended, ops_text, steps_text, spelled}
use Rattle.runfile.specs.Reading.{parts, same, number_after, take_of, put_of, operation_of, File, file, wrong, add_threads, add_slots, add_step, or_wrong, or_steps, steps_from, ops_from, slots_then, threads_then, read_of}
use Rattle.runfile.proofs.PartsLaws.{together, together_parts}
use Rattle.runfile.proofs.FieldLaws.{same_is}
use Rattle.runfile.proofs.InputLaws.{GoodOps, GoodSteps}
use Rattle.runfile.proofs.TextLaws.{AllFit}
use Rattle.runfile.proofs.ReadRound.{Fits}

-- ---- one line
abbrev pub PairIs : List ℕ → Option ℕ → List ℕ → Type 0
PairIs w (Some n) l = (pair_line w n ≡ l) × (n ≤ 255)
PairIs w None l = Unit {0}

abbrev pub OpIs : Option Operation → List ℕ → Type 0
OpIs (Some o) l = (op_line o.thread (kind_number o.kind) o.sample ≡ l) × ((unfit 256 o.thread (kind_number o.kind) o.sample ≡ false) × SFits w32 o.sample)
OpIs None l = Unit {0}

pub pair_is : (w l : List ℕ) → PairIs w (number_after w (parts 9 l)) l
pair_is w l = subst (PairIs w (number_after w (parts 9 l))) (together_parts 9 l) (go (parts 9 l))
  where
    number : (f n : List ℕ) (r : Option ℕ) → f ≡ w → NumberIs r n → PairIs w r (fields f n)
    number f n (Some v) e h = ((λ i. fields (sym e i) (h.0 i)), h.1)
    number f n None e h = tt

    go : (ps : List (List ℕ)) → PairIs w (number_after w ps) (together 9 ps)
    go [] = tt
    go (f ∷ []) = tt
    go (f ∷ n ∷ []) = cond_elim (λ r. PairIs w r (fields f n)) (same f w) (number_of n) None (λ e. number f n (number_of n) (same_is f w e) (number_is n)) (λ _. tt)
    go (f ∷ n ∷ m ∷ ps) = tt

pub op_is : (l : List ℕ) → OpIs (operation_of (parts 9 l)) l
op_is l = subst (OpIs (operation_of (parts 9 l))) (together_parts 9 l) (go (parts 9 l))
  where
    taken : (f n : List ℕ) (r : Option ℕ) → f ≡ take_word → NumberIs r n → OpIs (take_of r) (fields f n)
    taken f n (Some v) e h = ((λ i. fields (sym e i) (h.0 i)), (rw (lt-leb 256 v (omega (arith, h.1))), record { sfits = omega arith }))
    taken f n None e h = tt

    put : (f n x : List ℕ) (r : Option ℕ) (y : Option ℤ) → f ≡ put_word → NumberIs r n → SampleIs y x → OpIs (put_of r y) (fields f (fields n x))
    put f n x (Some v) (Some y) e h k = ((λ i. fields (sym e i) (fields (h.0 i) (k.0 i))), (rw (lt-leb 256 v (omega (arith, h.1))), k.1))
    put f n x (Some v) None e h k = tt
    put f n x None y e h k = tt

    go : (ps : List (List ℕ)) → OpIs (operation_of ps) (together 9 ps)
    go [] = tt
    go (f ∷ []) = tt
    go (f ∷ n ∷ []) = cond_elim (λ r. OpIs r (fields f n)) (same f take_word) (take_of (number_of n)) None (λ e. taken f n (number_of n) (same_is f take_word e) (number_is n)) (λ _. tt)
    go (f ∷ n ∷ x ∷ []) =
        cond_elim (λ r. OpIs r (fields f (fields n x))) (same f put_word) (put_of (number_of n) (sample_of x)) None
        (λ e. put f n x (number_of n) (sample_of x) (same_is f put_word e) (number_is n) (sample_is x)) (λ _. tt)
    go (f ∷ n ∷ x ∷ m ∷ ps) = tt

-- ---- line by line
abbrev StepsAre : File → List ℕ → Type 0
StepsAre (file a b ts ks xs ss) s = (ts ≡ []) × ((ks ≡ []) × ((xs ≡ []) × ((steps_text ss ≡ s) × GoodSteps 256 ss)))
StepsAre (wrong k) s = Unit {0}

abbrev BodyIs : File → List ℕ → Type 0
BodyIs (file a b ts ks xs ss) s = (ops_text ts ks xs ++ steps_text ss ≡ s) × (GoodOps 256 ts ks xs × (AllFit xs × GoodSteps 256 ss))
BodyIs (wrong k) s = Unit {0}

abbrev SlotsIs : File → List ℕ → Type 0
SlotsIs (file a b ts ks xs ss) s = (ended (pair_line slots_word b) (ops_text ts ks xs ++ steps_text ss) ≡ s) × ((b ≤ 255) × (GoodOps 256 ts ks xs × (AllFit xs × GoodSteps 256 ss)))
SlotsIs (wrong k) s = Unit {0}

abbrev FileIs : File → List ℕ → Type 0
FileIs (file a b ts ks xs ss) s = (ended (pair_line threads_word a) (ended (pair_line slots_word b) (ops_text ts ks xs ++ steps_text ss)) ≡ s) × Fits a b ts ks xs ss
FileIs (wrong k) s = Unit {0}

at_step : (k : ℕ) (r : Option ℕ) (f : File) (l s : List ℕ) → PairIs step_word r l → StepsAre f s → StepsAre (or_wrong k r (λ t. add_step t f)) (ended l s)
at_step k (Some t) (file a b ts ks xs ss) l s h g = (g.0, (g.1.0, (g.1.1.0, ((λ i. ended (h.0 i) (g.1.1.1.0 i)), (omega (arith, h.1), g.1.1.1.1)))))
at_step k (Some t) (wrong j) l s h g = tt
at_step k None f l s h g = tt

steps_are : (k : ℕ) (ps : List (List ℕ)) → StepsAre (steps_from k ps) (together 10 ps)
steps_are k [] = tt
steps_are k ([] ∷ []) = (refl, (refl, (refl, (refl, tt))))
steps_are k ((c ∷ l) ∷ []) = tt
steps_are k (l ∷ m ∷ ls) = at_step k (number_after step_word (parts 9 l)) (steps_from (suc k) (m ∷ ls)) l (together 10 (m ∷ ls)) (pair_is step_word l) (steps_are (suc k) (m ∷ ls))

body_steps : (f : File) (s : List ℕ) → StepsAre f s → BodyIs f s
body_steps (file a b [] [] [] ss) s h = (h.1.1.1.0, (tt, (tt, h.1.1.1.1)))
body_steps (file a b [] [] (x ∷ xs) ss) s h = let e = h.1.1.0 in let z : ◌≡◌ {A = ℕ} 0 1 = cc in absurd (omega arith)
body_steps (file a b [] (k ∷ ks) xs ss) s h = let e = h.1.0 in let z : ◌≡◌ {A = ℕ} 0 1 = cc in absurd (omega arith)
body_steps (file a b (t ∷ ts) ks xs ss) s h = let e = h.0 in let z : ◌≡◌ {A = ℕ} 0 1 = cc in absurd (omega arith)
body_steps (wrong k) s h = tt

at_op : (o : Option Operation) (f g : File) (l s : List ℕ) → OpIs o l → BodyIs f s → StepsAre g (ended l s) → BodyIs (or_steps o f g) (ended l s)
at_op (Some o) (file a b ts ks xs ss) g l s h p q =
    (append_assoc (op_line o.thread (kind_number o.kind) o.sample) (10 ∷ ops_text ts ks xs) (steps_text ss) ∙ (λ i. ended (h.0 i) (p.0 i)), ((h.1.0, p.1.0), ((h.1.1, p.1.1.0), p.1.1.1)))
at_op (Some o) (wrong j) g l s h p q = tt
at_op None f g l s h p q = body_steps g (ended l s) q

body_is : (k : ℕ) (ps : List (List ℕ)) → BodyIs (ops_from k ps) (together 10 ps)
body_is k [] = tt
body_is k ([] ∷ []) = (refl, (tt, (tt, tt)))
body_is k ((c ∷ l) ∷ []) = tt
body_is k (l ∷ m ∷ ls) =
    at_op (operation_of (parts 9 l)) (ops_from (suc k) (m ∷ ls)) (steps_from k (l ∷ m ∷ ls)) l (together 10 (m ∷ ls)) (op_is l) (body_is (suc k) (m ∷ ls)) (steps_are k (l ∷ m ∷ ls))

at_slots : (r : Option ℕ) (f : File) (l s : List ℕ) → PairIs slots_word r l → BodyIs f s → SlotsIs (or_wrong 2 r (λ n. add_slots n f)) (ended l s)
at_slots (Some n) (file a b ts ks xs ss) l s h g = ((λ i. ended (h.0 i) (g.0 i)), (h.1, g.1))
at_slots (Some n) (wrong j) l s h g = tt
at_slots None f l s h g = tt

slots_is : (ps : List (List ℕ)) → SlotsIs (slots_then ps) (together 10 ps)
slots_is [] = tt
slots_is (l ∷ []) = tt
slots_is (l ∷ m ∷ ls) = at_slots (number_after slots_word (parts 9 l)) (ops_from 3 (m ∷ ls)) l (together 10 (m ∷ ls)) (pair_is slots_word l) (body_is 3 (m ∷ ls))

at_threads : (r : Option ℕ) (f : File) (l s : List ℕ) → PairIs threads_word r l → SlotsIs f s → FileIs (or_wrong 1 r (λ n. add_threads n f)) (ended l s)
at_threads (Some n) (file a b ts ks xs ss) l s h g =
    ((λ i. ended (h.0 i) (g.0 i)), record { threads_fit = h.1; slots_fit = g.1.0; ops_fit = g.1.1.0; samples_fit = g.1.1.1.0; steps_fit = g.1.1.1.1 })
at_threads (Some n) (wrong j) l s h g = tt
at_threads None f l s h g = tt

file_is : (ps : List (List ℕ)) → FileIs (threads_then ps) (together 10 ps)
file_is [] = tt
file_is (l ∷ []) = tt
file_is (l ∷ m ∷ ls) = at_threads (number_after threads_word (parts 9 l)) (slots_then (m ∷ ls)) l (together 10 (m ∷ ls)) (pair_is threads_word l) (slots_is (m ∷ ls))

module _ (s : List ℕ) (threads slots : ℕ) (thread kind : List ℕ) (sample : List ℤ) (schedule : List ℕ) (e : read_of s ≡ file threads slots thread kind sample schedule) where
  read_is : FileIs (file threads slots thread kind sample schedule) s
  unfolding read_of
  read_is = subst (λ (f : File). FileIs f s) e (subst (FileIs (threads_then (parts 10 s))) (together_parts 10 s) (file_is (parts 10 s)))

  -- the text of what was read is the text
  pub text_read : spelled threads slots thread kind sample schedule ≡ s
  unfolding spelled
  text_read = read_is.0

  -- and its numbers are such as a run file can hold
  pub read_fits : Fits threads slots thread kind sample schedule
  read_fits = read_is.1
