-- Laws of printing: the digits of a number, and texts put one after another. Assumes nothing.
use mathlib.Core.Path.{◌≡◌, refl, sym, ◌∙◌, ap, subst}
use mathlib.Core.Bool.{Bool, true, false}
use mathlib.Core.List.{List, [], ◌∷◌, ◌++◌, append_assoc, append-nil}
use Prim.Native.Nat.{ℕ, zero, suc, ◌+◌, ◌-◌, ◌*◌, ◌/◌, ◌%◌, ◌≤◌, ◌<◌}
use native.Mathlib.Omega.{arith}
use native.Mathlib.Nat.{add-zero, add-suc, suc-add}
use borrow.Rule.Slice.PartMut.{put_mid}
use lib.ListN.{length, set, take, drop, length-append}
use Rattle.std.proofs.lemmas.List.{drop_all, take_all, length-drop}
use Rattle.std.proofs.lemmas.List.Edits.{sets-eq, paste_all}
use Rattle.std.proofs.lemmas.Slice.{put_mid-paste}
use lib.Seq.{sets, set_comm, set_out, length-sets}
use lib.Dec.{ltb, leb}
use borrow.Author.Tests.{lt-ltb, le-ltb, ltb-true, ltb-false, leb-true, leb-false}
use Rattle.numerals.specs.Decimal.{dec, decimal}
use Rattle.numerals.specs.declared.Page.{Page}
use Rattle.numerals.specs.Places.{after, Put, Wrote}

-- any bound from n on gives the same digits
pub dec_enough : (k j n : ℕ) → n ≤ k → n ≤ j → dec k n ≡ dec j n
dec_enough zero zero n a b = refl
dec_enough zero (suc j) n a b = rw (lt-ltb n 10 (omega arith))
dec_enough (suc k) zero n a b = rw (lt-ltb n 10 (omega arith))
dec_enough (suc k) (suc j) n a b = rw (dec_enough k j (n / 10) (omega arith) (omega arith))

-- the digits of a number are those of its tenth and the last one; the two laws of `decimal` that all others rest on
pub decimal_one : (n : ℕ) → n < 10 → decimal n ≡ (48 + n) ∷ []
unfolding decimal
decimal_one n l = dec_enough n (suc n) n (omega arith) (omega arith) ∙ rw (lt-ltb n 10 l)

pub decimal_more : (n : ℕ) → 10 ≤ n → decimal n ≡ decimal (n / 10) ++ ((48 + n % 10) ∷ [])
unfolding decimal
decimal_more n l = dec_enough n (suc n) n (omega arith) (omega arith) ∙ rw (le-ltb n 10 l, dec_enough n (n / 10) (n / 10) (omega arith) (omega arith))

pub length_one : (n : ℕ) → n < 10 → length (decimal n) ≡ 1
length_one n l = rw (decimal_one n l)

pub length_more : (n : ℕ) → 10 ≤ n → length (decimal n) ≡ length (decimal (n / 10)) + 1
length_more n l = rw (decimal_more n l, length-append)

pub long_decimal : (n : ℕ) → 0 < length (decimal n)
long_decimal n = go (ltb n 10) refl
  where
    go : (b : Bool) → ltb n 10 ≡ b → 0 < length (decimal n)
    go true q = omega (arith, length_one n (ltb-true n 10 q))
    go false q = omega (arith, length_more n (ltb-false n 10 q))

-- the k lowest digits of n
abbrev pub lows : ℕ → ℕ → List ℕ
lows zero n = []
lows (suc k) n = lows k (n / 10) ++ ((48 + n % 10) ∷ [])

-- a number's digits are its lowest digits, as many as it has
pub decimal_lows : (k n : ℕ) → length (decimal n) ≡ k → decimal n ≡ lows k n
decimal_lows zero n e = absurd (omega (arith, long_decimal n))
decimal_lows (suc k) n e = go (ltb n 10) refl k e (decimal_lows k (n / 10))
  where
    go : (b : Bool) → ltb n 10 ≡ b → (k : ℕ) → length (decimal n) ≡ suc k → (length (decimal (n / 10)) ≡ k → decimal (n / 10) ≡ lows k (n / 10)) → decimal n ≡ lows (suc k) n
    go true q zero e ih = decimal_one n (ltb-true n 10 q) ∙ ap (λ (d : ℕ). (48 + d) ∷ []) (omega (arith, ltb-true n 10 q))
    go true q (suc k) e ih = absurd (omega (arith, length_one n (ltb-true n 10 q)))
    go false q k e ih = decimal_more n (ltb-false n 10 q) ∙ ap (λ (s : List ℕ). s ++ ((48 + n % 10) ∷ [])) (ih (omega (arith, length_more n (ltb-false n 10 q))))

-- a store before a text that was put is a store under it
pub set_sets : {A : Type 0} (l : List A) (i j : ℕ) (v : A) (vs : List A) → i < j → set (sets l j vs) i v ≡ sets (set l i v) j vs
set_sets l i j v [] h = refl
set_sets {A = A} l i j v (w ∷ vs) h = set_sets (set l j w) i (suc j) v vs (omega arith) ∙ ap (λ (x : List A). sets x (suc j) vs) (set_comm l j i w v (λ e. omega arith))

-- one digit more, before those that stand already
pub digit_next :
    (l : List ℕ) (i n rest : ℕ) (out s : List ℕ)
    → 0 < i
    → decimal n ≡ lows i rest ++ s
    → out ≡ sets l i s
    → (decimal n ≡ lows (i - 1) (rest / 10) ++ ((48 + rest % 10) ∷ s)) × (set out (i - 1) (48 + rest % 10) ≡ sets l (i - 1) ((48 + rest % 10) ∷ s))
digit_next l zero n rest out s h d e = absurd (omega arith)
digit_next l (suc k) n rest out s h d e =
    let v = 48 + rest % 10 in
    let q : k ≡ suc k - 1 = omega arith in (
      d ∙ append_assoc (lows k (rest / 10)) (v ∷ []) s ∙ ap (λ (j : ℕ). lows j (rest / 10) ++ (v ∷ s)) q,
      subst (λ (j : ℕ). set out j v ≡ sets l j (v ∷ s)) q (ap (λ (x : List ℕ). set x k v) e ∙ set_sets l k (suc k) v s (omega arith)),
    )

-- one entry more, at the place after those that are stored
pub sets_snoc : {A : Type 0} (l : List A) (i : ℕ) (vs : List A) (v : A) → set (sets l i vs) (i + length vs) v ≡ sets l i (vs ++ (v ∷ []))
sets_snoc l i [] v = rw (add-zero i)
sets_snoc l i (w ∷ vs) v = rw (add-suc i (length vs), ← suc-add i (length vs)) (sets_snoc (set l i w) (suc i) vs v)

-- one text after another
pub sets_append : {A : Type 0} (l : List A) (i : ℕ) (vs ws : List A) → sets (sets l i vs) (i + length vs) ws ≡ sets l i (vs ++ ws)
sets_append l i [] ws = rw (add-zero i)
sets_append l i (v ∷ vs) ws = rw (add-suc i (length vs), ← suc-add i (length vs)) (sets_append (set l i v) (suc i) vs ws)

-- past the end nothing is stored
pub sets_out : {A : Type 0} (l : List A) (i : ℕ) (vs : List A) → length l ≤ i → sets l i vs ≡ l
sets_out l i [] h = refl
sets_out {A = A} l i (v ∷ vs) h = ap (λ (x : List A). sets x (suc i) vs) (set_out l i v h) ∙ sets_out l (suc i) vs (omega arith)

-- a text that fits, copied over a part of the list, is stored byte by byte
pub sets_over : {A : Type 0} (l w : List A) (at k : ℕ) (part : List A) → at + length w ≤ length l → length w ≡ k → part ≡ w → put_mid at k l part ≡ sets l at w
sets_over l w at k part fits e same =
    put_mid-paste at k l part w (length w) same e refl
    ∙ paste_all l at w (length w) refl
    ∙ sym (append_assoc (take at l) w (drop (at + length w) l))
    ∙ sym (sets-eq w l at fits)

-- what is stored in the rest of a list
pub sets_cons : {A : Type 0} (x : A) (l : List A) (i : ℕ) (vs : List A) → sets (x ∷ l) (suc i) vs ≡ x ∷ sets l i vs
sets_cons x l i [] = refl
sets_cons x l i (v ∷ vs) = sets_cons x (set l i v) (suc i) vs

pub sets_drop : {A : Type 0} (l : List A) (at : ℕ) (vs : List A) → at ≤ length l → take at l ++ sets (drop at l) 0 vs ≡ sets l at vs
sets_drop l zero vs h = refl
sets_drop [] (suc at) vs h = absurd (omega arith)
sets_drop {A = A} (x ∷ l) (suc at) vs h = ap (λ (y : List A). x ∷ y) (sets_drop l at vs (omega arith)) ∙ sym (sets_cons x l at vs)

pub sets_rest : {A : Type 0} (l w : List A) (at : ℕ) (part : List A) → at ≤ length l → part ≡ sets (take (length l - at) (drop at l)) 0 w → put_mid at (length l - at) l part ≡ sets l at w
sets_rest {A = A} l w at part h e =
    let all : length (drop at l) ≤ length l - at = omega (arith, length-drop at l) in
    ap (λ (x : List A). take at l ++ (part ++ x)) (drop_all (length l - at) (drop at l) all)
    ∙ ap (λ (x : List A). take at l ++ x) (append-nil part ∙ e ∙ ap (λ (x : List A). sets x 0 w) (take_all (length l - at) (drop at l) all))
    ∙ sets_drop l at w h

-- a place that stands for a sum that no list reaches
pub sets_after : {A : Type 0} (l : List A) (at n : ℕ) (vs : List A) → length l ≤ 18446744073709551615 → sets l (after at n) vs ≡ sets l (at + n) vs
sets_after l at n vs h = go (leb (at + n) 18446744073709551615) refl
  where
    go : (b : Bool) → leb (at + n) 18446744073709551615 ≡ b → sets l (after at n) vs ≡ sets l (at + n) vs
    go true e = let q : after at n ≡ at + n = omega (arith, leb-true (at + n) 18446744073709551615 e) in ap (λ (k : ℕ). sets l k vs) q
    go false e = let q = leb-false (at + n) 18446744073709551615 e in sets_out l (after at n) vs (omega arith) ∙ sym (sets_out l (at + n) vs (omega arith))

-- two texts put one after the other are their two put as one: the law by which everything that prints is proved
pub put_then : {out out₁ out₂ v w : List ℕ} {at r₁ r₂ : ℕ} → length out ≤ 18446744073709551615 → Put out at v r₁ out₁ → Put out₁ r₁ w r₂ out₂ → Put out at (v ++ w) r₂ out₂
put_then {out} {out₁} {out₂} {v} {w} {at} {r₁} {r₂} h p q =
    record {
      place =
          let a : r₁ ≡ after at (length v) = p.place in
          let b : r₂ ≡ after r₁ (length w) = q.place in
          rw length-append (omega arith);
      text =
          q.text ∙ (λ i. sets (p.text i) (p.place i) w)
          ∙ sets_after (sets out at v) at (length v) w (rw (length-sets out at v) h)
          ∙ sets_append out at v w;
    }

-- nothing put leaves the list and the place as they are
pub put_none : (out : List ℕ) (at : ℕ) → at ≤ 18446744073709551615 → Put out at [] at out
put_none out at h = record { place = omega arith; text = refl }

-- the same of pages
pub wrote_then : {p q r : Page} {v w : List ℕ} → Wrote p v q → Wrote q w r → Wrote p (v ++ w) r
wrote_then {p} x y = record { same = y.same ∙ x.same; put = put_then p.reach x.put y.put }

pub wrote_none : (p : Page) → Wrote p [] p
wrote_none p = record { same = refl; put = put_none p.text.now p.at p.reached }

pub wrote_as : {p q : Page} {v w : List ℕ} → v ≡ w → Wrote p v q → Wrote p w q
wrote_as {p} {q} e x = subst (λ (u : List ℕ). Wrote p u q) e x

-- a number's digits: those of its tenth, if that is not 0, and the last one
pub number_one : {p q : Page} (n : ℕ) → n < 10 → Wrote p ((48 + n % 10) ∷ []) q → Wrote p (decimal n) q
number_one n h x =
    let e : n % 10 ≡ n = omega arith in
    wrote_as (rw (decimal_one n h, e)) x

pub number_more : {p q r : Page} (n : ℕ) → 10 ≤ n → Wrote p (decimal (n / 10)) q → Wrote q ((48 + n % 10) ∷ []) r → Wrote p (decimal n) r
number_more n h x y = wrote_as (sym (decimal_more n h)) (wrote_then x y)

pub number_two : {p q r : Page} (n : ℕ) → 10 ≤ n → n < 100 → Wrote p ((48 + n / 10) ∷ []) q → Wrote q ((48 + n % 10) ∷ []) r → Wrote p (decimal n) r
number_two n h l x y = number_more n h (wrote_as (sym (decimal_one (n / 10) (omega arith))) x) y

-- ---- how long texts are
-- ten to the power of k + 1
abbrev pub tens : ℕ → ℕ
tens zero = 10
tens (suc k) = tens k * 10

pub decimal_short : (k n : ℕ) → n < tens k → length (decimal n) ≤ suc k
decimal_short zero n h = omega (arith, length_one n h)
decimal_short (suc k) n h = go (ltb n 10) refl (decimal_short k (n / 10))
  where
    go : (b : Bool) → ltb n 10 ≡ b → (n / 10 < tens k → length (decimal (n / 10)) ≤ suc k) → length (decimal n) ≤ suc (suc k)
    go true q ih = omega (arith, length_one n (ltb-true n 10 q))
    go false q ih = omega (arith, length_more n (ltb-false n 10 q), ih (omega arith))
