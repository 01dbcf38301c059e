-- Laws of the short way to read a step: its bytes, one by one, are the line of its number. Assumes nothing.
use Rattle.std.specs.Prelude.{Some}
use mathlib.Core.Path.{◌≡◌, refl, sym, ◌∙◌, ap}
use mathlib.Core.List.{List, [], ◌∷◌, ◌++◌}
use Prim.Native.Nat.{ℕ, suc, ◌+◌, ◌-◌, ◌*◌, ◌/◌, ◌%◌, ◌≤◌, ◌<◌}
use native.Mathlib.Omega.{arith}
use lib.ListN.{length, get_or, take, drop, take-append-drop}
use lib.Seq.{drop-cons, drop-drop}
use Rattle.numerals.specs.Decimal.{decimal}
use Rattle.numerals.proofs.PrintLaws.{decimal_one, decimal_more}
use Rattle.runfile.specs.Spelling.{step_word, pair_line, ended}
use Rattle.runfile.specs.Reading.{parts}
use Rattle.runfile.proofs.ReadRound.{pair_line_read, step_first}
use Rattle.reader.specs.Twins.{LineSays}

-- a text that goes on with the line of a step
step_line : (s : List ℕ) (a n next : ℕ) → n ≤ 255 → a < next → next ≤ length s → drop a s ≡ ended (pair_line step_word n) (drop next s) → LineSays step_word s a (Some (n, next))
step_line s a n next h l m e = (pair_line step_word n, (ap (parts 10) e ∙ step_first n (drop next s), (pair_line_read step_word (refl, (refl, (refl, (refl, tt)))) n h, (l, m))))

module _ (s : List ℕ) (a f : ℕ) (at : f ≡ a + 5) (room : 8 ≤ length s - a) (word : take (f - a) (drop a s) ≡ step_word ++ (9 ∷ [])) where
  front : drop a s ≡ step_word ++ (9 ∷ drop f s)
  front =
      let e : a + (f - a) ≡ f = omega arith in
      sym (take-append-drop (f - a) (drop a s)) ∙ (λ i. word i ++ (drop-drop (f - a) a s ∙ ap (λ (k : ℕ). drop k s) e) i)

  -- the byte at a place, and the text after it
  next_byte : (k j c : ℕ) → suc k ≡ j → k < length s → get_or s k 0 ≡ c → drop k s ≡ c ∷ drop j s
  next_byte k j c q l e = drop-cons s k 0 l ∙ (λ i. e i ∷ drop (q i) s)

  abbrev c : ℕ
  c = get_or s f 0

  abbrev d : ℕ
  d = get_or s (f + 1) 0

  module _ (low : 48 ≤ c) (high : c ≤ 57) where
    pub short_one : d ≡ 10 → LineSays step_word s a (Some (c - 48, f + 2))
    short_one e =
        let digit : c ∷ [] ≡ decimal (c - 48) = let q : c ≡ 48 + (c - 48) = omega arith in ap (λ (k : ℕ). k ∷ []) q ∙ sym (decimal_one (c - 48) (omega arith)) in
        step_line s a (c - 48) (f + 2) (omega arith) (omega arith) (omega arith)
        (front ∙ ap (λ (t : List ℕ). step_word ++ (9 ∷ t)) (next_byte f (f + 1) c (omega arith) (omega arith) refl ∙ ap (λ (t : List ℕ). c ∷ t) (next_byte (f + 1) (f + 2) 10 (omega arith) (omega arith) e)
        ∙ ap (λ (t : List ℕ). t ++ (10 ∷ drop (f + 2) s)) digit))

    pub short_two : (c ≡ 48 → ⊥) → 48 ≤ d → d ≤ 57 → get_or s (f + 2) 0 ≡ 10 → LineSays step_word s a (Some ((c - 48) * 10 + (d - 48), f + 3))
    short_two ne lo hi e =
        let n = (c - 48) * 10 + (d - 48) in
        let p : 10 ≤ n = omega (arith, ne) in
        let q : n / 10 ≡ c - 48 = omega arith in
        let r : 48 + n % 10 ≡ d = omega arith in
        let u : 48 + (c - 48) ≡ c = omega arith in
        let digits : decimal n ≡ c ∷ d ∷ [] =
        decimal_more n p ∙ (λ i. decimal (q i) ++ (r i ∷ [])) ∙ ap (λ (t : List ℕ). t ++ (d ∷ [])) (decimal_one (c - 48) (omega arith) ∙ ap (λ (k : ℕ). k ∷ []) u) in
        step_line s a n (f + 3) (omega arith) (omega arith) (omega arith)
        (front ∙ ap (λ (t : List ℕ). step_word ++ (9 ∷ t)) (next_byte f (f + 1) c (omega arith) (omega arith) refl
        ∙ ap (λ (t : List ℕ). c ∷ t) (next_byte (f + 1) (f + 2) d (omega arith) (omega arith) refl ∙ ap (λ (t : List ℕ). d ∷ t) (next_byte (f + 2) (f + 3) 10 (omega arith) (omega arith) e))
        ∙ ap (λ (t : List ℕ). t ++ (10 ∷ drop (f + 3) s)) (sym digits)))
