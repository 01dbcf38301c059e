-- Reading what was written: the reading of a run's text, as Spelling.antt spells it, is the run's input. Assumes nothing.
--   Fits                       numbers that a run file can hold
use Rattle.limits.specs.declared.Kind.TheVariants.{Put as putting, Take as taking}
use Rattle.limits.specs.Parts.{kind_number}
use Rattle.limits.specs.Operations.{kind_of}
use Rattle.std.specs.Prelude.{None, Option, Some}
use Rattle.runfile.specs.declared.Operation.{Operation}
use mathlib.Core.Path.{◌≡◌, refl, sym, ◌∙◌, ap}
use mathlib.Core.Bool.{Bool, true, false, not, cond, ◌&&◌, ◌||◌}
use mathlib.Core.List.{List, [], ◌∷◌, ◌++◌, append_assoc}
use Prim.Native.Nat.{ℕ, zero, suc, ◌≤◌}
use native.Mathlib.Omega.{arith}
use lib.Dec.{eqb, leb}
use lib.IntN.{ℤ, pos, negsuc}
use mir.Syntax.{w32}
use mir.Val.{SFits}
use borrow.Author.Tests.{eqb-true, lt-leb}
use Rattle.numerals.specs.Decimal.{decimal}
use Rattle.numerals.specs.Samples.{sample_text}
use Rattle.numerals.proofs.SampleLaws.{sample_round}
use Rattle.numerals.proofs.NumeralRound.{number_round}
use Rattle.limits.specs.Refusals.{is_zero, unfit}
use Rattle.runfile.specs.Spelling.{threads_word, slots_word, put_word, take_word, step_word, fields, pair_line, put_line, op_line, ended, ops_text, steps_text, spelled}
use Rattle.runfile.specs.Reading.{parts, number_after, put_of, operation_of, file, add_threads, add_slots, add_op, add_step, or_wrong, or_steps, steps_from, ops_from, slots_then, threads_then, read_of}
use Rattle.runfile.specs.Twins.{Free}
use Rattle.runfile.proofs.PartsLaws.{free_append, parts_append, parts_free, parts_some}
use Rattle.runfile.proofs.FieldLaws.{free_decimal, free_sample, number_after_word, op_take}
use Rattle.runfile.proofs.TurnLaws.{steps_turn, ops_turn, slots_turn, threads_turn}
use Rattle.limits.specs.Operations.{input_of}
use Rattle.limits.proofs.PassLaws.{Passed}
use Rattle.runfile.proofs.InputLaws.{GoodOps, GoodSteps, passed_ops, passed_steps}
use Rattle.runfile.proofs.TextLaws.{fit_thread, AllFit}
use Rattle.runfile.specs.Reading.{operation}

-- ---- one line
pub pair_line_read : (w : List ℕ) → Free 9 w → (n : ℕ) → n ≤ 255 → number_after w (parts 9 (pair_line w n)) ≡ Some n
pair_line_read w free n h = number_after_word w free (decimal n) ∙ number_round n h

pub free_pair : (w : List ℕ) → Free 10 w → (n : ℕ) → Free 10 (pair_line w n)
free_pair w free n = free_append 10 w (9 ∷ decimal n) free (refl, free_decimal 10 n (omega arith))

step_none : (t : ℕ) → operation_of (parts 9 (pair_line step_word t)) ≡ None
step_none t = ap operation_of (parts_append 9 step_word (decimal t) (refl, (refl, (refl, (refl, tt)))) ∙ ap (λ (ps : List (List ℕ)). step_word ∷ ps) (parts_free 9 (decimal t) (free_decimal 9 t (omega arith))))

-- an operation that refusal 5 does not name is a put, or a take with sample 0
pub kind_told : (threads t k : ℕ) (x : ℤ) → unfit threads t k x ≡ false → eqb k 1 ≡ false → (k ≡ 2) × (x ≡ pos 0)
kind_told threads t k x e d = go (leb threads t) (eqb k 1) (eqb k 2) (is_zero x) refl refl d e
  where
    zero_is : (y : ℤ) → is_zero y ≡ true → y ≡ pos 0
    zero_is (pos zero) q = refl
    zero_is (pos (suc n)) q = let z : ◌≡◌ {A = ℕ} 0 1 = cc in absurd (omega arith)
    zero_is (negsuc n) q = let z : ◌≡◌ {A = ℕ} 0 1 = cc in absurd (omega arith)

    go : (a b c z : Bool) → eqb k 2 ≡ c → is_zero x ≡ z → b ≡ false → (a || (not b && not c) || (c && not z)) ≡ false → (k ≡ 2) × (x ≡ pos 0)
    go true true true true p q r s = let z : ◌≡◌ {A = ℕ} 0 1 = cc in absurd (omega arith)
    go true true true false p q r s = let z : ◌≡◌ {A = ℕ} 0 1 = cc in absurd (omega arith)
    go true true false true p q r s = let z : ◌≡◌ {A = ℕ} 0 1 = cc in absurd (omega arith)
    go true true false false p q r s = let z : ◌≡◌ {A = ℕ} 0 1 = cc in absurd (omega arith)
    go true false true true p q r s = let z : ◌≡◌ {A = ℕ} 0 1 = cc in absurd (omega arith)
    go true false true false p q r s = let z : ◌≡◌ {A = ℕ} 0 1 = cc in absurd (omega arith)
    go true false false true p q r s = let z : ◌≡◌ {A = ℕ} 0 1 = cc in absurd (omega arith)
    go true false false false p q r s = let z : ◌≡◌ {A = ℕ} 0 1 = cc in absurd (omega arith)
    go false true c z p q r s = let z : ◌≡◌ {A = ℕ} 0 1 = cc in absurd (omega arith)
    go false false true true p q r s = (eqb-true k 2 p, zero_is x q)
    go false false true false p q r s = let z : ◌≡◌ {A = ℕ} 0 1 = cc in absurd (omega arith)
    go false false false true p q r s = let z : ◌≡◌ {A = ℕ} 0 1 = cc in absurd (omega arith)
    go false false false false p q r s = let z : ◌≡◌ {A = ℕ} 0 1 = cc in absurd (omega arith)

put_line_read : (t : ℕ) (x : ℤ) → t ≤ 255 → SFits w32 x → operation_of (parts 9 (put_line t x)) ≡ Some (operation t putting x)
put_line_read t x h f =
    ap operation_of (parts_append 9 put_word (fields (decimal t) (sample_text x)) (refl, (refl, (refl, tt)))
    ∙ ap (λ (ps : List (List ℕ)). put_word ∷ ps) (parts_append 9 (decimal t) (sample_text x) (free_decimal 9 t (omega arith)) ∙ ap (λ (ps : List (List ℕ)). decimal t ∷ ps) (parts_free 9 (sample_text x) (free_sample 9 x (omega arith)))))
    ∙ (λ i. put_of (number_round t h i) (sample_round x f i))

op_line_read : (threads t k : ℕ) (x : ℤ) → threads ≤ 256 → unfit threads t k x ≡ false → SFits w32 x → operation_of (parts 9 (op_line t k x)) ≡ Some (operation t (kind_of k) x)
op_line_read threads t k x h g f = go (eqb k 1) refl
  where
    go : (b : Bool) → eqb k 1 ≡ b → operation_of (parts 9 (cond b (put_line t x) (pair_line take_word t))) ≡ Some (operation t (cond b putting taking) x)
    go true e = put_line_read t x (omega (arith, fit_thread threads t k x g)) f
    go false e =
        let w = kind_told threads t k x g e in
        sym (op_take (parts 9 (pair_line take_word t)) t (pair_line_read take_word (refl, (refl, (refl, (refl, tt)))) t (omega (arith, fit_thread threads t k x g))))
        ∙ (λ i. Some (operation t taking (sym w.1 i)))

-- a kind that is not refused is the number of what it stands for
kind_back : (threads t k : ℕ) (x : ℤ) → unfit threads t k x ≡ false → kind_number (kind_of k) ≡ k
kind_back threads t k x g = go (eqb k 1) refl
  where
    go : (b : Bool) → eqb k 1 ≡ b → kind_number (cond b putting taking) ≡ k
    go true e = sym (eqb-true k 1 e)
    go false e = sym (kind_told threads t k x g e).0

pub free_op : (t k : ℕ) (x : ℤ) → Free 10 (op_line t k x)
free_op t k x = go (eqb k 1)
  where
    go : (b : Bool) → Free 10 (cond b (put_line t x) (pair_line take_word t))
    go true = (refl, (refl, (refl, (refl, free_append 10 (decimal t) (9 ∷ sample_text x) (free_decimal 10 t (omega arith)) (refl, free_sample 10 x (omega arith))))))
    go false = free_pair take_word (refl, (refl, (refl, (refl, tt)))) t

-- ---- line by line
pub step_first : (t : ℕ) (rest : List ℕ) → parts 10 (ended (pair_line step_word t) rest) ≡ pair_line step_word t ∷ parts 10 rest
step_first t rest = parts_append 10 (pair_line step_word t) rest (free_pair step_word (refl, (refl, (refl, (refl, tt)))) t)

steps_round : (threads : ℕ) → threads ≤ 256 → (k : ℕ) (ss : List ℕ) → GoodSteps threads ss → steps_from k (parts 10 (steps_text ss)) ≡ file 0 0 [] [] [] ss
steps_round threads h k [] g = refl
steps_round threads h k (t ∷ ss) g =
    let rest = parts 10 (steps_text ss) in
    ap (steps_from k) (step_first t (steps_text ss)) ∙ steps_turn k (pair_line step_word t) rest (parts_some 10 (steps_text ss))
    ∙ ap (λ (r : Option ℕ). or_wrong k r (λ t. add_step t (steps_from (suc k) rest))) (pair_line_read step_word (refl, (refl, (refl, (refl, tt)))) t (omega (arith, g.0)))
    ∙ ap (add_step t) (steps_round threads h (suc k) ss g.1)

-- where only steps are left, the operations have ended
ops_ended : (k : ℕ) (ss : List ℕ) → ops_from k (parts 10 (steps_text ss)) ≡ steps_from k (parts 10 (steps_text ss))
ops_ended k [] = refl
ops_ended k (t ∷ ss) =
    let rest = parts 10 (steps_text ss) in
    ap (ops_from k) (step_first t (steps_text ss)) ∙ ops_turn k (pair_line step_word t) rest (parts_some 10 (steps_text ss))
    ∙ ap (λ (o : Option Operation). or_steps o (ops_from (suc k) rest) (steps_from k (pair_line step_word t ∷ rest))) (step_none t)
    ∙ sym (ap (steps_from k) (step_first t (steps_text ss)))

ops_round : (threads : ℕ) → threads ≤ 256 → (k : ℕ) (ts ks : List ℕ) (xs : List ℤ) (ss : List ℕ) → GoodOps threads ts ks xs → AllFit xs → GoodSteps threads ss
    → ops_from k (parts 10 (ops_text ts ks xs ++ steps_text ss)) ≡ file 0 0 ts ks xs ss
ops_round threads h k [] [] [] ss g f s = ops_ended k ss ∙ steps_round threads h k ss s
ops_round threads h k [] [] (x ∷ xs) ss g f s = absurd g
ops_round threads h k [] (c ∷ ks) xs ss g f s = absurd g
ops_round threads h k (t ∷ ts) [] xs ss g f s = absurd g
ops_round threads h k (t ∷ ts) (c ∷ ks) [] ss g f s = absurd g
ops_round threads h k (t ∷ ts) (c ∷ ks) (x ∷ xs) ss g f s =
    let more = ops_text ts ks xs ++ steps_text ss in
    let rest = parts 10 more in
    let line = op_line t c x in
    ap (λ (l : List ℕ). ops_from k (parts 10 l)) (append_assoc line (10 ∷ ops_text ts ks xs) (steps_text ss))
    ∙ ap (ops_from k) (parts_append 10 line more (free_op t c x)) ∙ ops_turn k line rest (parts_some 10 more)
    ∙ ap (λ (o : Option Operation). or_steps o (ops_from (suc k) rest) (steps_from k (line ∷ rest))) (op_line_read threads t c x h g.0 f.0)
    ∙ ap (λ (j : ℕ). add_op t j x (ops_from (suc k) rest)) (kind_back threads t c x g.0)
    ∙ ap (add_op t c x) (ops_round threads h (suc k) ts ks xs ss g.1 f.1 s)

-- numbers that a run file can hold: 0 to 255, samples of 32 signed bits, kinds 1 and 2, no sample but 0 at a take
pub record Fits (threads slots : ℕ) (thread kind : List ℕ) (sample : List ℤ) (schedule : List ℕ) : Type 0 where
  pub threads_fit : threads ≤ 255
  pub slots_fit : slots ≤ 255
  pub ops_fit : GoodOps 256 thread kind sample
  pub samples_fit : AllFit sample
  pub steps_fit : GoodSteps 256 schedule

-- the reading of the text of such numbers is these numbers
pub read_text : {threads slots : ℕ} {thread kind : List ℕ} {sample : List ℤ} {schedule : List ℕ} → Fits threads slots thread kind sample schedule
    → read_of (spelled threads slots thread kind sample schedule) ≡ file threads slots thread kind sample schedule
unfolding read_of spelled
read_text {threads} {slots} {thread} {kind} {sample} {schedule} p =
    let body = ops_text thread kind sample ++ steps_text schedule in
    let second = ended (pair_line slots_word slots) body in
    ap threads_then (parts_append 10 (pair_line threads_word threads) second (free_pair threads_word (refl, (refl, (refl, (refl, (refl, (refl, (refl, tt))))))) threads))
    ∙ threads_turn (pair_line threads_word threads) (parts 10 second) (parts_some 10 second)
    ∙ ap (λ (r : Option ℕ). or_wrong 1 r (λ n. add_threads n (slots_then (parts 10 second)))) (pair_line_read threads_word (refl, (refl, (refl, (refl, (refl, (refl, (refl, tt))))))) threads p.threads_fit)
    ∙ ap (add_threads threads)
    (ap slots_then (parts_append 10 (pair_line slots_word slots) body (free_pair slots_word (refl, (refl, (refl, (refl, (refl, tt))))) slots))
    ∙ slots_turn (pair_line slots_word slots) (parts 10 body) (parts_some 10 body)
    ∙ ap (λ (r : Option ℕ). or_wrong 2 r (λ n. add_slots n (ops_from 3 (parts 10 body)))) (pair_line_read slots_word (refl, (refl, (refl, (refl, (refl, tt))))) slots p.slots_fit)
    ∙ ap (add_slots slots) (ops_round 256 (omega arith) 3 thread kind sample schedule p.ops_fit p.samples_fit p.steps_fit))

-- an input that passes is made of such numbers
wider : (threads t k : ℕ) (x : ℤ) → threads ≤ 16 → unfit threads t k x ≡ false → unfit 256 t k x ≡ false
wider threads t k x h e = rw (lt-leb 256 t (omega (arith, fit_thread threads t k x e))) (rw (lt-leb threads t (fit_thread threads t k x e)) at e)

wider_ops : (threads : ℕ) (thread kind : List ℕ) (sample : List ℤ) → threads ≤ 16 → GoodOps threads thread kind sample → GoodOps 256 thread kind sample
wider_ops threads [] [] [] h g = tt
wider_ops threads [] [] (x ∷ sample) h g = absurd g
wider_ops threads [] (k ∷ kind) sample h g = absurd g
wider_ops threads (t ∷ thread) [] sample h g = absurd g
wider_ops threads (t ∷ thread) (k ∷ kind) [] h g = absurd g
wider_ops threads (t ∷ thread) (k ∷ kind) (x ∷ sample) h g = (wider threads t k x h g.0, wider_ops threads thread kind sample h g.1)

wider_steps : (threads : ℕ) (schedule : List ℕ) → threads ≤ 16 → GoodSteps threads schedule → GoodSteps 256 schedule
wider_steps threads [] h g = tt
wider_steps threads (t ∷ schedule) h g = (omega (arith, g.0), wider_steps threads schedule h g.1)

pub passed_fits : {threads slots : ℕ} {thread kind : List ℕ} {sample : List ℤ} {schedule : List ℕ} → Passed (input_of threads slots thread kind sample schedule) → AllFit sample → Fits threads slots thread kind sample schedule
passed_fits {threads} {slots} {thread} {kind} {sample} {schedule} p f =
    let a = p.threads_most in
    let b = p.slots_most in
    record {
      threads_fit = omega arith;
      slots_fit = omega arith;
      ops_fit = wider_ops threads thread kind sample a (passed_ops p);
      samples_fit = f;
      steps_fit = wider_steps threads schedule a (passed_steps p);
    }
