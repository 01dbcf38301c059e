-- Reading a printed number gives the number, and printing a number that was read gives its text. Assumes nothing.
use Rattle.std.specs.Prelude.{Some}
use mathlib.Core.Path.{◌≡◌, refl, sym, ◌∙◌, ap}
use mathlib.Core.Bool.{Bool, true, false, cond}
use mathlib.Core.List.{List, [], ◌∷◌, ◌++◌, append_assoc, append-nil}
use Prim.Native.Nat.{ℕ, zero, suc, ◌+◌, ◌-◌, ◌*◌, ◌/◌, ◌%◌, ◌≤◌, ◌<◌}
use native.Mathlib.Omega.{arith}
use lib.ListN.{length, get_or, length-append, get_or-append}
use lib.Dec.{leb, ltb, eqb}
use borrow.Author.Tests.{ltb-true, ltb-false, leb-true, le-leb, eqb-false}
use Rattle.numerals.specs.Decimal.{dec, decimal}
use Rattle.numerals.specs.Reading.{is_digit, all_digits, value, plain, digits_of}
use Rattle.numerals.proofs.DigitLaws.{is_digit_between, plain_more}
use Rattle.numerals.proofs.PrintLaws.{decimal_one, decimal_more}

pub cond_both : (b x : Bool) → cond b x false ≡ true → (b ≡ true) × (x ≡ true)
cond_both true x e = (refl, e)
cond_both false x e = let z : ◌≡◌ {A = ℕ} 0 1 = cc in absurd (omega arith)

pub digit_of : (c : ℕ) → is_digit c ≡ true → (48 ≤ c) × (c ≤ 57)
digit_of c e = let p = cond_both (leb 48 c) (leb c 57) e in (leb-true 48 c p.0, leb-true c 57 p.1)

pub value_snoc : (acc : ℕ) (s : List ℕ) (c : ℕ) → value acc (s ++ (c ∷ [])) ≡ value acc s * 10 + (c - 48)
value_snoc acc [] c = refl
value_snoc acc (d ∷ s) c = value_snoc (acc * 10 + (d - 48)) s c

pub all_snoc : (s : List ℕ) (c : ℕ) → all_digits s ≡ true → is_digit c ≡ true → all_digits (s ++ (c ∷ [])) ≡ true
all_snoc [] c a d = rw d
all_snoc (x ∷ s) c a d = let p = cond_both (is_digit x) (all_digits s) a in rw p.0 (all_snoc s c p.1 d)

pub value_dec : (k n : ℕ) → n ≤ k → value 0 (dec k n) ≡ n
value_dec zero n h = omega arith
value_dec (suc k) n h = go (ltb n 10) refl (value_dec k (n / 10) (omega arith))
  where
    go : (b : Bool) → ltb n 10 ≡ b → value 0 (dec k (n / 10)) ≡ n / 10 → value 0 (dec (suc k) n) ≡ n
    go true e ih = rw e (omega arith)
    go false e ih = rw (e, value_snoc 0 (dec k (n / 10)) (48 + n % 10), ih) (omega arith)

pub all_dec : (k n : ℕ) → n ≤ k → all_digits (dec k n) ≡ true
all_dec zero n h = rw (is_digit_between (48 + n) (omega arith) (omega arith))
all_dec (suc k) n h = go (ltb n 10) refl (all_dec k (n / 10) (omega arith))
  where
    go : (b : Bool) → ltb n 10 ≡ b → all_digits (dec k (n / 10)) ≡ true → all_digits (dec (suc k) n) ≡ true
    go true e ih = rw (e, is_digit_between (48 + n) (omega arith) (omega (arith, ltb-true n 10 e)))
    go false e ih = rw e (all_snoc (dec k (n / 10)) (48 + n % 10) ih (is_digit_between (48 + n % 10) (omega arith) (omega arith)))

pub long_dec : (k n : ℕ) → 0 < length (dec k n)
long_dec zero n = omega arith
long_dec (suc k) n = go (ltb n 10) refl
  where
    go : (b : Bool) → ltb n 10 ≡ b → 0 < length (dec (suc k) n)
    go true e = rw e (omega arith)
    go false e = rw (e, length-append) (omega arith)

pub head_dec : (k n : ℕ) → n ≤ k → 0 < n → get_or (dec k n) 0 0 ≡ 48 → ⊥
head_dec zero n h p = λ e. omega arith
head_dec (suc k) n h p = go (ltb n 10) refl (head_dec k (n / 10) (omega arith))
  where
    go : (b : Bool) → ltb n 10 ≡ b → (0 < n / 10 → get_or (dec k (n / 10)) 0 0 ≡ 48 → ⊥) → get_or (dec (suc k) n) 0 0 ≡ 48 → ⊥
    go true e ih = rw e (λ z. omega arith)
    go false e ih = rw (e, get_or-append (dec k (n / 10)) ((48 + n % 10) ∷ []) 0 0 (long_dec k (n / 10))) (ih (omega (arith, ltb-false n 10 e)))

pub plain_decimal : (n : ℕ) → plain (decimal n) ≡ true
unfolding decimal
plain_decimal n = go (ltb n 10) refl
  where
    long : 10 ≤ n → 1 < length (dec n n)
    long l = rw (decimal_more n l, length-append) (omega (arith, long_dec (n / 10) (n / 10)))

    go : (b : Bool) → ltb n 10 ≡ b → plain (decimal n) ≡ true
    go true e = rw (decimal_one n (ltb-true n 10 e), is_digit_between (48 + n) (omega arith) (omega (arith, ltb-true n 10 e)))
    go false e = plain_more (dec n n) (long (ltb-false n 10 e)) (head_dec n n (omega arith) (omega (arith, ltb-false n 10 e))) ∙ all_dec n n (omega arith)

-- reading what was printed gives the number
pub read_printed : (n limit : ℕ) → n ≤ limit → digits_of (decimal n) limit ≡ Some n
unfolding decimal
read_printed n limit h = rw (plain_decimal n, value_dec n n (omega arith), le-leb n limit h)

pub more_read : (s p : List ℕ) (acc : ℕ) → 0 < acc → decimal acc ≡ p → all_digits s ≡ true → decimal (value acc s) ≡ p ++ s
more_read [] p acc h e a = e ∙ sym (append-nil p)
more_read (c ∷ s) p acc h e a =
    let q = cond_both (is_digit c) (all_digits s) a in
    let d = digit_of c q.0 in
    more_read s (p ++ (c ∷ [])) (acc * 10 + (c - 48)) (omega arith) (next d.0 d.1) q.1 ∙ append_assoc p (c ∷ []) s
  where
    next : 48 ≤ c → c ≤ 57 → decimal (acc * 10 + (c - 48)) ≡ p ++ (c ∷ [])
    next lo hi =
        let n = acc * 10 + (c - 48) in
        let e₁ : n / 10 ≡ acc = omega arith in
        let e₂ : 48 + n % 10 ≡ c = omega arith in
        decimal_more n (omega arith) ∙ (λ i. decimal (e₁ i) ++ (e₂ i ∷ [])) ∙ ap (λ (l : List ℕ). l ++ (c ∷ [])) e

-- printing what was read gives the text
pub printed_read : (s : List ℕ) → plain s ≡ true → decimal (value 0 s) ≡ s
printed_read [] e = let z : ◌≡◌ {A = ℕ} 0 1 = cc in absurd (omega arith)
printed_read (c ∷ []) e = let d = digit_of c e in decimal_one (0 * 10 + (c - 48)) (omega arith) ∙ ap (λ (x : ℕ). x ∷ []) (omega arith)
printed_read (c ∷ d ∷ s) e =
    let q = unzero (eqb c 48) (all_digits (c ∷ d ∷ s)) e in
    let r = cond_both (is_digit c) (all_digits (d ∷ s)) q.1 in
    let w = digit_of c r.0 in
    more_read (d ∷ s) (c ∷ []) (0 * 10 + (c - 48)) (pos w.0 (eqb-false c 48 q.0)) (decimal_one (0 * 10 + (c - 48)) (omega arith) ∙ ap (λ (x : ℕ). x ∷ []) (omega arith)) r.1
  where
    unzero : (b x : Bool) → cond b false x ≡ true → (b ≡ false) × (x ≡ true)
    unzero true x e = let z : ◌≡◌ {A = ℕ} 0 1 = cc in absurd (omega arith)
    unzero false x e = (refl, e)

    pos : 48 ≤ c → (c ≡ 48 → ⊥) → 0 < 0 * 10 + (c - 48)
    pos lo ne = omega (arith, ne)

pub all_decimal : (n : ℕ) → all_digits (decimal n) ≡ true
unfolding decimal
all_decimal n = all_dec n n (omega arith)
