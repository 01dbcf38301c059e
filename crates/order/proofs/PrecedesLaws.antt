-- 'Precedes' by places of codes: a return's code stands before a call's. Assumes nothing.
use mathlib.Core.Path.{◌≡◌, refl, sym, ◌∙◌}
use mathlib.Core.Bool.{Bool, true, false, cond}
use mathlib.Core.Option.{none}
use mathlib.Core.List.{List, [], ◌∷◌, map}
use Prim.Native.Nat.{ℕ, zero, suc, ◌+◌, ◌*◌, ◌/◌, ◌%◌, ◌<◌}
use native.Mathlib.Omega.{arith}
use lib.Dec.{eqb}
use borrow.Author.Tests.{eqb-true, eqb-false}
use lib.ListN.{length, length-map}
use Rattle.history.specs.History.{call, ret, Precedes, code_of}
use Rattle.history.proofs.CodeLaws.{code_at, precedes_at as places, at_precedes}
use Rattle.order.specs.Listing.{bare}
use Rattle.order.specs.Weaving.{at}

-- the events that codes give have these codes
pub code_bare : (c : ℕ) → code_of (bare c) ≡ c
code_bare c = go (eqb (c % 2) 0) refl
  where
    go : (even : Bool) → eqb (c % 2) 0 ≡ even → code_of (cond even (call (c / 2)) (ret (c / 2) none)) ≡ c
    go true e = omega (arith, eqb-true (c % 2) 0 e)
    go false e = omega (arith, eqb-false (c % 2) 0 e)

at_bare : (cs : List ℕ) (j : ℕ) → code_at (map bare cs) j ≡ at cs j
at_bare [] j = refl
at_bare (c ∷ cs) zero = code_bare c
at_bare (c ∷ cs) (suc j) = at_bare cs j

-- a precedes b if a code of a's return stands before one of b's call
pub precedes_at : (cs : List ℕ) (a b i j : ℕ) → i < j → j < length cs → at cs i ≡ 2 * a + 1 → at cs j ≡ 2 * b → Precedes (map bare cs) a b
precedes_at cs a b i j lt within ei ej = at_precedes (map bare cs) a b i j lt (omega (arith, length-map cs bare)) (at_bare cs i ∙ ei) (at_bare cs j ∙ ej)

-- and only if
pub precedes_places : (cs : List ℕ) (a b : ℕ) → Precedes (map bare cs) a b
    → (i : ℕ) × (j : ℕ) × (i < j) × (j < length cs) × (at cs i ≡ 2 * a + 1) × (at cs j ≡ 2 * b)
precedes_places cs a b h =
    let w = places (map bare cs) a b h in
    (w.early, w.late, w.in_turn, omega (arith, length-map cs bare, w.inside), sym (at_bare cs w.early) ∙ w.returns, sym (at_bare cs w.late) ∙ w.calls)
