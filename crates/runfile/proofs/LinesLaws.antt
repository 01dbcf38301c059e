-- The first lines of two texts are the same where the first parts of both are. Assumes nothing.
--   Agree k ps qs   the first k parts of ps and qs are the same, and in both a part follows them
use mathlib.Core.Path.{◌≡◌, refl, sym, ◌∙◌, subst}
use mathlib.Core.Bool.{Bool, true, false, cond}
use mathlib.Core.List.{List, [], ◌∷◌}
use Prim.Native.Nat.{ℕ, zero, suc}
use native.Mathlib.Omega.{arith}
use lib.Dec.{eqb}
use borrow.Author.Tests.{eqb-true}
use Rattle.runfile.specs.Wrong.{SameLines}
use Rattle.runfile.specs.Reading.{onto, parts}
use Rattle.runfile.proofs.PartsLaws.{HasPart, parts_some}

abbrev pub Agree : ℕ → List (List ℕ) → List (List ℕ) → Type 0
Agree zero ps qs = HasPart ps × HasPart qs
Agree (suc k) [] qs = ⊥
Agree (suc k) (p ∷ ps) [] = ⊥
Agree (suc k) (p ∷ ps) (q ∷ qs) = (p ≡ q) × Agree k ps qs

pub agree_some : (k : ℕ) (ps qs : List (List ℕ)) → Agree k ps qs → HasPart ps × HasPart qs
agree_some zero ps qs h = h
agree_some (suc k) [] qs h = absurd h
agree_some (suc k) (p ∷ ps) [] h = absurd h
agree_some (suc k) (p ∷ ps) (q ∷ qs) h = (tt, tt)

-- fewer lines are the same where more are
pub same_less : (k : ℕ) (s t : List ℕ) → SameLines (suc k) s t → SameLines k s t
same_less zero s t h = tt
same_less (suc k) [] t h = absurd h
same_less (suc k) (c ∷ s) [] h = absurd h
same_less (suc k) (c ∷ s) (d ∷ t) h = (h.0, go (eqb c 10) (same_less k s t) (same_less (suc k) s t) h.1)
  where
    go : (b : Bool) → (SameLines (suc k) s t → SameLines k s t) → (SameLines (suc (suc k)) s t → SameLines (suc k) s t)
        → cond b (SameLines (suc k) s t) (SameLines (suc (suc k)) s t) → cond b (SameLines k s t) (SameLines (suc k) s t)
    go true f g x = f x
    go false f g x = g x

-- ---- from lines to parts
agree_onto : (c k : ℕ) (ps qs : List (List ℕ)) → Agree (suc k) ps qs → Agree (suc k) (onto c ps) (onto c qs)
agree_onto c k [] qs h = absurd h
agree_onto c k (p ∷ ps) [] h = absurd h
agree_onto c k (p ∷ ps) (q ∷ qs) h = ((λ i. c ∷ h.0 i), h.1)

pub same_agree : (k : ℕ) (s t : List ℕ) → SameLines k s t → Agree k (parts 10 s) (parts 10 t)
same_agree zero s t h = (parts_some 10 s, parts_some 10 t)
same_agree (suc k) [] t h = absurd h
same_agree (suc k) (c ∷ s) [] h = absurd h
same_agree (suc k) (c ∷ s) (d ∷ t) h =
    subst (λ (x : ℕ). Agree (suc k) (parts 10 (c ∷ s)) (parts 10 (x ∷ t))) h.0 (go (eqb c 10) (same_agree k s t) (same_agree (suc k) s t) h.1)
  where
    go : (b : Bool) → (SameLines k s t → Agree k (parts 10 s) (parts 10 t)) → (SameLines (suc k) s t → Agree (suc k) (parts 10 s) (parts 10 t))
        → cond b (SameLines k s t) (SameLines (suc k) s t) → Agree (suc k) (cond b ([] ∷ parts 10 s) (onto c (parts 10 s))) (cond b ([] ∷ parts 10 t) (onto c (parts 10 t)))
    go true f g x = (refl, f x)
    go false f g x = agree_onto c k (parts 10 s) (parts 10 t) (g x)

-- ---- from parts to lines
-- after a part that is the last there is none
agree_last : (k : ℕ) (ps : List (List ℕ)) → Agree k [] ps → ⊥
agree_last zero ps h = h.0
agree_last (suc k) ps h = h

last_agree : (k : ℕ) (p : List ℕ) (ps : List (List ℕ)) → Agree (suc k) ps (p ∷ []) → ⊥
last_agree k p [] h = h
last_agree zero p (q ∷ ps) h = h.1.1
last_agree (suc k) p (q ∷ []) h = h.1
last_agree (suc k) p (q ∷ r ∷ ps) h = h.1

agree_first : (k : ℕ) (ps : List (List ℕ)) → Agree (suc k) ([] ∷ []) ps → ⊥
agree_first k [] h = h
agree_first k (p ∷ ps) h = agree_last k ps h.1

-- an empty part is not one that begins with a byte
empty_onto : (d k : ℕ) (ps qs : List (List ℕ)) → Agree (suc k) ([] ∷ ps) (onto d qs) → ⊥
empty_onto d k ps [] h = let e = h.0 in let z : ◌≡◌ {A = ℕ} 0 1 = cc in omega arith
empty_onto d k ps (q ∷ qs) h = let e = h.0 in let z : ◌≡◌ {A = ℕ} 0 1 = cc in omega arith

onto_empty : (c k : ℕ) (ps qs : List (List ℕ)) → Agree (suc k) (onto c ps) ([] ∷ qs) → ⊥
onto_empty c k [] qs h = let e = h.0 in let z : ◌≡◌ {A = ℕ} 0 1 = cc in omega arith
onto_empty c k (p ∷ ps) qs h = let e = h.0 in let z : ◌≡◌ {A = ℕ} 0 1 = cc in omega arith

onto_agree : (c d k : ℕ) (ps qs : List (List ℕ)) → HasPart ps → HasPart qs → Agree (suc k) (onto c ps) (onto d qs) → (c ≡ d) × Agree (suc k) ps qs
onto_agree c d k [] qs a b h = absurd a
onto_agree c d k (p ∷ ps) [] a b h = absurd b
onto_agree c d k (p ∷ ps) (q ∷ qs) a b h =
    let e : ◌≡◌ {A = List ℕ} (c ∷ p) (d ∷ q) = h.0 in
    let x : c ≡ d = cc in
    let y : p ≡ q = cc in
    (x, (y, h.1))

pub agree_same : (k : ℕ) (s t : List ℕ) → Agree k (parts 10 s) (parts 10 t) → SameLines k s t
agree_same zero s t h = tt
agree_same (suc k) [] t h = absurd (agree_first k (parts 10 t) h)
agree_same (suc k) (c ∷ s) [] h = absurd (last_agree k [] (parts 10 (c ∷ s)) h)
agree_same (suc k) (c ∷ s) (d ∷ t) h = go (eqb c 10) (eqb d 10) refl refl (agree_same k s t) (agree_same (suc k) s t) h
  where
    go : (a b : Bool) → eqb c 10 ≡ a → eqb d 10 ≡ b → (Agree k (parts 10 s) (parts 10 t) → SameLines k s t) → (Agree (suc k) (parts 10 s) (parts 10 t) → SameLines (suc k) s t)
        → Agree (suc k) (cond a ([] ∷ parts 10 s) (onto c (parts 10 s))) (cond b ([] ∷ parts 10 t) (onto d (parts 10 t))) → (c ≡ d) × cond a (SameLines k s t) (SameLines (suc k) s t)
    go true true u v f g x = (eqb-true c 10 u ∙ sym (eqb-true d 10 v), f x.1)
    go true false u v f g x = absurd (empty_onto d k (parts 10 s) (parts 10 t) x)
    go false true u v f g x = absurd (onto_empty c k (parts 10 s) (parts 10 t) x)
    go false false u v f g x = let w = onto_agree c d k (parts 10 s) (parts 10 t) (parts_some 10 s) (parts_some 10 t) x in (w.0, g w.1)
