-- Laws of the text of a run: how long it is. Assumes nothing.
--   AllFit   each sample of a list fits 32 signed bits
use mathlib.Core.Path.{◌≡◌, refl}
use mathlib.Core.Bool.{Bool, true, false, not, cond, ◌&&◌, ◌||◌}
use mathlib.Core.List.{List, [], ◌∷◌}
use Prim.Native.Nat.{ℕ, suc, ◌*◌, ◌≤◌, ◌<◌}
use native.Mathlib.Omega.{arith}
use lib.Dec.{eqb, leb}
use borrow.Author.Tests.{leb-false}
use mir.Syntax.{w32}
use mir.Val.{SFits}
use lib.IntN.{ℤ}
use lib.ListN.{length, length-append}
use Rattle.numerals.specs.Decimal.{decimal}
use Rattle.numerals.specs.Samples.{sample_text}
use Rattle.numerals.proofs.PrintLaws.{decimal_short}
use Rattle.numerals.proofs.SampleLaws.{sample_short}
use Rattle.limits.specs.Refusals.{is_zero, unfit}
use Rattle.runfile.specs.Spelling.{take_word, pair_line, put_line, op_line, ops_text, steps_text, spelled}
use Rattle.runfile.specs.RunText.{Fitting}
use Rattle.limits.specs.Operations.{input_of}
use Rattle.limits.proofs.PassLaws.{Passed}
use Rattle.runfile.proofs.InputLaws.{GoodOps, GoodSteps, passed_ops, passed_steps}

abbrev pub AllFit : List ℤ → Type 0
AllFit [] = Unit {0}
AllFit (x ∷ sample) = SFits w32 x × AllFit sample

pub all_fit : (sample : List ℤ) → Fitting sample → AllFit sample
all_fit [] h = tt
all_fit (x ∷ sample) h = (h 0 (omega arith), all_fit sample (λ i l. h (suc i) (omega arith)))

-- ---- how long a text is: a line of a step has at most 8 bytes, one of an operation 19
short_number : (n : ℕ) → n < 100 → length (decimal n) ≤ 2
short_number n h = decimal_short 1 n (omega arith)

steps_short : (threads : ℕ) (schedule : List ℕ) → threads ≤ 16 → GoodSteps threads schedule → length (steps_text schedule) ≤ 8 * length schedule
steps_short threads [] h g = omega arith
steps_short threads (t ∷ schedule) h g =
    let r = steps_short threads schedule h g.1 in
    let d = short_number t (omega (arith, g.0)) in
    simp length-append (omega arith)

pub fit_thread : (threads t k : ℕ) (x : ℤ) → unfit threads t k x ≡ false → t < threads
fit_thread threads t k x e = go (leb threads t) refl e
  where
    go : (b : Bool) → leb threads t ≡ b → (b || (not (eqb k 1) && not (eqb k 2)) || (eqb k 2 && not (is_zero x))) ≡ false → t < threads
    go true q d = absurd (low (not (eqb k 1) && not (eqb k 2)) (eqb k 2 && not (is_zero x)) d)
      where
        low : (p q : Bool) → (true || p || q) ≡ false → ⊥
        low true true d = let z : ◌≡◌ {A = ℕ} 0 1 = cc in omega arith
        low true false d = let z : ◌≡◌ {A = ℕ} 0 1 = cc in omega arith
        low false true d = let z : ◌≡◌ {A = ℕ} 0 1 = cc in omega arith
        low false false d = let z : ◌≡◌ {A = ℕ} 0 1 = cc in omega arith
    go false q d = leb-false threads t q

op_short : (threads t k : ℕ) (x : ℤ) → threads ≤ 16 → unfit threads t k x ≡ false → SFits w32 x → length (op_line t k x) ≤ 18
op_short threads t k x h g f =
    let d = short_number t (omega (arith, fit_thread threads t k x g)) in
    let e = sample_short x f in
    go (eqb k 1) d e
  where
    go : (b : Bool) → length (decimal t) ≤ 2 → length (sample_text x) ≤ 11 → length (cond b (put_line t x) (pair_line take_word t)) ≤ 18
    go true d e = simp length-append (omega arith)
    go false d e = simp length-append (omega arith)

ops_short : (threads : ℕ) (thread kind : List ℕ) (sample : List ℤ) → threads ≤ 16 → GoodOps threads thread kind sample → AllFit sample → length (ops_text thread kind sample) ≤ 19 * length thread
ops_short threads [] kind sample h g f = omega arith
ops_short threads (t ∷ thread) [] sample h g f = omega arith
ops_short threads (t ∷ thread) (k ∷ kind) [] h g f = omega arith
ops_short threads (t ∷ thread) (k ∷ kind) (x ∷ sample) h g f =
    let r = ops_short threads thread kind sample h g.1 f.1 in
    let o = op_short threads t k x h g.0 f.0 in
    rw (length-append (op_line t k x) (10 ∷ ops_text thread kind sample)) (omega arith)

-- the text of an input that passes is one that the reader takes
pub text_short : {threads slots : ℕ} {thread kind : List ℕ} {sample : List ℤ} {schedule : List ℕ} → Passed (input_of threads slots thread kind sample schedule) → AllFit sample → length (spelled threads slots thread kind sample schedule) ≤ 65536
unfolding spelled
text_short {threads} {slots} {thread} {kind} {sample} {schedule} p f =
    let a = p.threads_most in
    let b = p.slots_most in
    let c = p.few in
    let d = p.short in
    let e = short_number threads (omega arith) in
    let g = short_number slots (omega arith) in
    let h = ops_short threads thread kind sample a (passed_ops p) f in
    let i = steps_short threads schedule a (passed_steps p) in
    simp length-append (omega arith)
