-- Laws of a text in parts, and of the first byte found in it. Assumes nothing.
--   together x ps   the parts ps with the byte x between them
--   HasPart ps      there is a part
use mathlib.Core.Path.{◌≡◌, refl, sym, ◌∙◌, ap}
use mathlib.Core.Bool.{Bool, true, false, cond}
use mathlib.Core.List.{List, [], ◌∷◌, ◌++◌}
use Prim.Native.Nat.{ℕ, suc, ◌+◌, ◌-◌, ◌≤◌, ◌<◌}
use native.Mathlib.Omega.{arith}
use lib.ListN.{length, get_or, take, drop, length-drop, drop_of_length-le}
use lib.Seq.{drop-cons, drop-drop}
use lib.Dec.{eqb}
use native.Mathlib.Numerals.{add-one}
use borrow.Author.Tests.{eq-eqb, ne_eqb, eqb-true}
use Rattle.runfile.specs.Reading.{onto, parts}
use Rattle.runfile.specs.Twins.{until, Free}

-- the search for x stops at the first one, goes on past any other byte, and ends with the text
pub until_hit : (s : List ℕ) (i x : ℕ) → i < length s → get_or s i 0 ≡ x → until x (drop i s) ≡ 0
until_hit s i x l e = rw (drop-cons s i 0 l, eq-eqb (get_or s i 0) x e)

pub until_miss : (s : List ℕ) (i x : ℕ) → i < length s → (get_or s i 0 ≡ x → ⊥) → until x (drop i s) ≡ 1 + until x (drop (i + 1) s)
until_miss s i x l e = rw (add-one, drop-cons s i 0 l, ne_eqb (get_or s i 0) x e) (omega arith)

pub until_end : (s : List ℕ) (i x : ℕ) → length s ≤ i → until x (drop i s) ≡ 0
until_end s i x l = rw (drop_of_length-le s l)

pub until_le : (x : ℕ) (s : List ℕ) → until x s ≤ length s
until_le x [] = omega arith
until_le x (c ∷ s) = go (eqb c x) (until_le x s)
  where
    go : (b : Bool) → until x s ≤ length s → cond b 0 (suc (until x s)) ≤ suc (length s)
    go true h = omega arith
    go false h = omega arith

-- the first part ends where the first x stands
pub parts_at : (x : ℕ) (s : List ℕ) → until x s < length s → parts x s ≡ take (until x s) s ∷ parts x (drop (suc (until x s)) s)
parts_at x [] l = absurd (omega arith)
parts_at x (c ∷ s) l = go (eqb c x) l (parts_at x s)
  where
    go : (b : Bool) → cond b 0 (suc (until x s)) < suc (length s) → (until x s < length s → parts x s ≡ take (until x s) s ∷ parts x (drop (suc (until x s)) s))
        → cond b ([] ∷ parts x s) (onto c (parts x s)) ≡ take (cond b 0 (suc (until x s))) (c ∷ s) ∷ parts x (drop (suc (cond b 0 (suc (until x s)))) (c ∷ s))
    go true l ih = refl
    go false l ih = ap (onto c) (ih (omega arith))

-- with no x there is one part
pub parts_none : (x : ℕ) (s : List ℕ) → length s ≤ until x s → parts x s ≡ s ∷ []
parts_none x [] l = refl
parts_none x (c ∷ s) l = go (eqb c x) l (parts_none x s)
  where
    go : (b : Bool) → suc (length s) ≤ cond b 0 (suc (until x s)) → (length s ≤ until x s → parts x s ≡ s ∷ []) → cond b ([] ∷ parts x s) (onto c (parts x s)) ≡ (c ∷ s) ∷ []
    go true l ih = absurd (omega arith)
    go false l ih = ap (onto c) (ih (omega arith))

-- two texts with no x in them
pub free_append : (x : ℕ) (s t : List ℕ) → Free x s → Free x t → Free x (s ++ t)
free_append x [] t f g = g
free_append x (c ∷ s) t f g = (f.0, free_append x s t f.1 g)

-- a part ends where an x follows it
pub parts_append : (x : ℕ) (s t : List ℕ) → Free x s → parts x (s ++ (x ∷ t)) ≡ s ∷ parts x t
parts_append x [] t f = rw (eq-eqb x x refl)
parts_append x (c ∷ s) t f = rw (f.0, parts_append x s t f.1)

-- a text with no x is one part
pub parts_free : (x : ℕ) (s : List ℕ) → Free x s → parts x s ≡ s ∷ []
parts_free x [] f = refl
parts_free x (c ∷ s) f = rw (f.0, parts_free x s f.1)

-- parts with x between them
abbrev pub together : ℕ → List (List ℕ) → List ℕ
together x [] = []
together x (p ∷ []) = p
together x (p ∷ q ∷ ps) = p ++ (x ∷ together x (q ∷ ps))

-- there is always a part
abbrev pub HasPart : List (List ℕ) → Type 0
HasPart [] = ⊥
HasPart (p ∷ ps) = Unit {0}

pub parts_some : (x : ℕ) (s : List ℕ) → HasPart (parts x s)
parts_some x [] = tt
parts_some x (c ∷ s) = go (eqb c x) (parts x s)
  where
    go : (b : Bool) (ps : List (List ℕ)) → HasPart (cond b ([] ∷ ps) (onto c ps))
    go true ps = tt
    go false [] = tt
    go false (p ∷ ps) = tt

together_onto : (x c : ℕ) (ps : List (List ℕ)) → together x (onto c ps) ≡ c ∷ together x ps
together_onto x c [] = refl
together_onto x c (p ∷ []) = refl
together_onto x c (p ∷ q ∷ ps) = refl

together_new : (x : ℕ) (ps : List (List ℕ)) → HasPart ps → together x ([] ∷ ps) ≡ x ∷ together x ps
together_new x [] h = absurd h
together_new x (p ∷ ps) h = refl

-- the parts of a text, put together again, are the text
pub together_parts : (x : ℕ) (s : List ℕ) → together x (parts x s) ≡ s
together_parts x [] = refl
together_parts x (c ∷ s) = go (eqb c x) refl (together_parts x s)
  where
    go : (b : Bool) → eqb c x ≡ b → together x (parts x s) ≡ s → together x (cond b ([] ∷ parts x s) (onto c (parts x s))) ≡ c ∷ s
    go true e ih = together_new x (parts x s) (parts_some x s) ∙ (λ i. sym (eqb-true c x e) i ∷ ih i)
    go false e ih = together_onto x c (parts x s) ∙ ap (λ (t : List ℕ). c ∷ t) ih

-- the parts of a text from a on, where the first x from a on stands at r
module _ (x : ℕ) (s : List ℕ) (a r : ℕ) (e : r ≡ a + until x (drop a s)) where
  pub parts_cut : a ≤ r → r < length s → parts x (drop a s) ≡ take (r - a) (drop a s) ∷ parts x (drop (r + 1) s)
  parts_cut h l =
      let d : until x (drop a s) ≡ r - a = omega (arith, e) in
      let q : until x (drop a s) < length (drop a s) = rw (length-drop a s) (omega (arith, e)) in
      let k : a + suc (until x (drop a s)) ≡ r + 1 = omega (arith, e) in
      let rest : drop (suc (until x (drop a s))) (drop a s) ≡ drop (r + 1) s = drop-drop (suc (until x (drop a s))) a s ∙ ap (λ (j : ℕ). drop j s) k in
      parts_at x (drop a s) q ∙ (λ i. take (d i) (drop a s) ∷ parts x (rest i))

  pub parts_last : a ≤ length s → length s ≤ r → parts x (drop a s) ≡ drop a s ∷ []
  parts_last h l = parts_none x (drop a s) (rw (length-drop a s) (omega (arith, e)))

  pub cut_low : a ≤ r
  cut_low = omega (arith, e)

  pub cut_high : a ≤ length s → r ≤ length s
  cut_high h =
      let q : until x (drop a s) ≤ length s - a = rw (length-drop a s) at (until_le x (drop a s)) in
      omega (arith, e, q)
