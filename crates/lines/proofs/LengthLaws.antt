-- How long the lines of a listing can be. Assumes nothing.
--   PhaseFits   a phase's number fits its type: a slot 8 bits, a sample 32 signed bits
use mathlib.Core.Path.{◌≡◌, ap}
use mathlib.Core.Bool.{Bool, true, false, cond}
use mathlib.Core.List.{List, [], ◌∷◌, ◌++◌}
use Prim.Native.Nat.{ℕ, ◌+◌, ◌/◌, ◌≤◌, ◌<◌}
use native.Mathlib.Omega.{arith}
use lib.Dec.{eqb}
use lib.IntN.{ℤ}
use lib.ListN.{length, length-append}
use mir.Syntax.{w32}
use mir.Val.{SFits}
use Rattle.numerals.specs.Decimal.{decimal}
use Rattle.numerals.specs.Samples.{sample_text}
use Rattle.numerals.proofs.PrintLaws.{decimal_short}
use Rattle.numerals.proofs.SampleLaws.{sample_short}
use Rattle.limits.specs.declared.Refusal.{Refusal}
use Rattle.limits.specs.Refusals.{refusal_told}
use Rattle.limits.specs.declared.Kind.{Kind}
use Rattle.limits.specs.declared.Kind.TheVariants.{Put as putting, Take as taking}
use Rattle.limits.specs.Operations.{table_of}
use Rattle.history.specs.History.{ret, answer}
use Rattle.history.proofs.CodeLaws.{by_parity}
use Rattle.machine.specs.declared.Phase.{Phase}
use Rattle.machine.specs.declared.Phase.TheVariants.{Rest, CalledPut, Reserved, Stored, CalledTake, Scanning, Holding}
use Rattle.machine.specs.Bench.{Empty, Filled}
use Rattle.run.specs.declared.Summary.{Summary}
use Rattle.lines.specs.Lines.{event_line, order_line, slot_line, thread_line, count_line, count_lines, refused_line}
use Rattle.numerals.specs.Words.{bytes, line}
use Rattle.lines.specs.Twins.{event_by, slot_by, phase_text}
use Rattle.lines.proofs.LineLaws.{thread_parts}

-- a number and the end of its line, a sample and the end of its line
number_end : (n : ℕ) → length (decimal n ++ (10 ∷ [])) ≡ length (decimal n) + 1
number_end n = length-append (decimal n) (10 ∷ [])

sample_end : (x : ℤ) → length (sample_text x ++ (10 ∷ [])) ≡ length (sample_text x) + 1
sample_end x = length-append (sample_text x) (10 ∷ [])

number_sample : (n : ℕ) (x : ℤ) → length (decimal n ++ (9 ∷ (sample_text x ++ (10 ∷ [])))) ≡ length (decimal n) + (length (sample_text x) + 2)
number_sample n x = omega (arith, length-append (decimal n) (9 ∷ (sample_text x ++ (10 ∷ []))), sample_end x)

pub event_low : (kind : List ℕ) (c : ℕ) (x : ℤ) → c < 65536 → SFits w32 x → length (event_by kind c x) ≤ 31
event_low kind c x few fits =
    by_parity (table_of [] kind []) c x (λ e. length (event_line e) ≤ 31)
    (λ e. omega (arith, number_end (c / 2), decimal_short 4 (c / 2) (omega arith)))
    (λ n. go ((table_of [] kind []).kind (c / 2)))
  where
    go : (k : Kind) → length (event_line (ret (c / 2) (answer k x))) ≤ 31
    go putting = omega (arith, number_end (c / 2), decimal_short 4 (c / 2) (omega arith))
    go taking = omega (arith, number_sample (c / 2) x, decimal_short 4 (c / 2) (omega arith), sample_short x fits)

pub order_low : (o : ℕ) → o < 256 → length (order_line o) ≤ 10
order_low o few = omega (arith, number_end o, decimal_short 2 o (omega arith))

pub slot_low : (i m : ℕ) (x : ℤ) → i < 64 → SFits w32 x → length (slot_by i m x) ≤ 20
slot_low i m x few fits = go (eqb m 0)
  where
    go : (b : Bool) → length (slot_line i (cond b Empty (Filled x))) ≤ 20
    go true = omega (arith, length-append (decimal i) (9 ∷ 101 ∷ 109 ∷ 112 ∷ 116 ∷ 121 ∷ 10 ∷ []), decimal_short 1 i (omega arith))
    go false = omega (arith, number_sample i x, decimal_short 1 i (omega arith), sample_short x fits)

abbrev pub PhaseFits : Phase → Type 0
PhaseFits Rest = Unit {0}
PhaseFits CalledPut = Unit {0}
PhaseFits (Reserved i) = i < 256
PhaseFits Stored = Unit {0}
PhaseFits CalledTake = Unit {0}
PhaseFits (Scanning j b) = j < 256
PhaseFits (Holding x) = SFits w32 x

pub phase_low : (p : Phase) → PhaseFits p → length (phase_text p) ≤ 20
phase_low Rest f = omega arith
phase_low CalledPut f = omega arith
phase_low (Reserved i) f = omega (arith, number_end i, decimal_short 2 i (omega arith))
phase_low Stored f = omega arith
phase_low CalledTake f = omega arith
phase_low (Scanning j b) f = omega (arith, number_end j, decimal_short 2 j (omega arith))
phase_low (Holding x) f = omega (arith, sample_end x, sample_short x f)

pub phase_is_low : {p q : Phase} → p ≡ q → PhaseFits q → length (phase_text p) ≤ 20
phase_is_low {p} {q} e f = rw e (phase_low q f)

pub thread_low : (t : ℕ) (p : Phase) → t ≤ 18446744073709551615 → length (phase_text p) ≤ 20 → length (thread_line t p) ≤ 48
thread_low t p fits low = omega (arith, ap length (thread_parts t p), length-append (decimal t) (9 ∷ phase_text p), decimal_short 19 t (omega arith))

-- the longest word is `fruitless`
pub count_low : (w : List ℕ) (n : ℕ) → n ≤ 18446744073709551615 → length w ≤ 9 → length (count_line w n) ≤ 37
count_low w n fits low = omega (arith, length-append w (9 ∷ (decimal n ++ (10 ∷ []))), number_end n, decimal_short 19 n (omega arith))

-- the numbers of a summary each fit a word
pub record SummaryFits (s : Summary) : Type 0 where
  pub back : s.back ≤ 18446744073709551615
  pub steps : s.steps ≤ 18446744073709551615
  pub idle : s.idle ≤ 18446744073709551615
  pub stores : s.stores ≤ 18446744073709551615
  pub swaps : s.swaps ≤ 18446744073709551615
  pub finds : s.finds ≤ 18446744073709551615
  pub fruitless : s.fruitless ≤ 18446744073709551615

-- a count's line before others
before_low : (w : List ℕ) (n : ℕ) (rest : List ℕ) (k : ℕ) → n ≤ 18446744073709551615 → length w ≤ 9 → length rest ≤ k → length (count_line w n ++ rest) ≤ 37 + k
before_low w n rest k fits low p = omega (arith, length-append (count_line w n) rest, count_low w n fits low)

pub counts_low : (s : Summary) → SummaryFits s → length (count_lines s) ≤ 222
counts_low s f =
    let last = count_line (bytes "fruitless") s.fruitless in
    let finds = count_line (bytes "finds") s.finds ++ last in
    let swaps = count_line (bytes "swaps") s.swaps ++ finds in
    let stores = count_line (bytes "stores") s.stores ++ swaps in
    let idle = count_line (bytes "idle") s.idle ++ stores in
    before_low (bytes "steps") s.steps idle 185 f.steps (omega arith)
    (before_low (bytes "idle") s.idle stores 148 f.idle (omega arith)
    (before_low (bytes "stores") s.stores swaps 111 f.stores (omega arith)
    (before_low (bytes "swaps") s.swaps finds 74 f.swaps (omega arith)
    (before_low (bytes "finds") s.finds last 37 f.finds (omega arith) (count_low (bytes "fruitless") s.fruitless f.fruitless (omega arith))))))

-- the line before all others
pub back_low : (n : ℕ) → n ≤ 18446744073709551615 → length (line (bytes "back" ∷ decimal n ∷ [])) ≤ 26
back_low n fits = omega (arith, number_end n, decimal_short 19 n (omega arith))

-- the line of a refusal whose detail fits 64 bits is a short one
pub refused_short : (r : Refusal) → (refusal_told r).0 ≤ 255 → (refusal_told r).1 ≤ 18446744073709551615 → length (refused_line r) ≤ 64
unfolding refused_line
refused_short r small fits =
    let n = decimal (refusal_told r).0 in
    let d = decimal (refusal_told r).1 in
    omega (arith, length-append n (9 ∷ (d ++ (10 ∷ []))), length-append d (10 ∷ []), decimal_short 2 (refusal_told r).0 (omega arith), decimal_short 19 (refusal_told r).1 (omega arith))
