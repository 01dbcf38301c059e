-- Schedules: what every step keeps, and one entry more. Assumes nothing.
use mathlib.Core.Path.{◌≡◌, refl, ap, ◌∙◌}
use mathlib.Core.List.{List, [], ◌∷◌, ◌++◌}
use Prim.Native.Nat.{ℕ, suc, ◌+◌, ◌<◌}
use native.Mathlib.Omega.{arith}
use lib.ListN.{length, get_or, take}
use lib.Seq.{take-suc}
use Rattle.limits.specs.Lists.{All}
use Rattle.limits.specs.Operations.{Table}
use Rattle.machine.specs.Bench.{Bench, step, played}
use Rattle.machine.specs.StepCounts.{over}

-- what every step of a thread keeps, every schedule keeps
pub played_keeps : (T : Table) (n : ℕ) (I : Bench → Type 0) → ((B : Bench) (t : ℕ) → t < n → I B → I (step T B t))
    → (B : Bench) → I B → (schedule : List ℕ) → All (λ t. t < n) schedule → I (played T B schedule)
unfolding played
played_keeps T n I keeps B i [] s = i
played_keeps T n I keeps B i (t ∷ schedule) s = played_keeps T n I keeps (step T B t) (keeps B t s.0 i) schedule s.1

module _ (T : Table) where
  -- the last entry is the last step
  pub played_snoc : (B : Bench) (s : List ℕ) (t : ℕ) → played T B (s ++ (t ∷ [])) ≡ step T (played T B s) t
  unfolding played
  played_snoc B [] t = refl
  played_snoc B (u ∷ s) t = played_snoc (step T B u) s t

  -- and counts last
  pub over_snoc : (f : Bench → ℕ → ℕ) (B : Bench) (s : List ℕ) (t : ℕ) → over f T B (s ++ (t ∷ [])) ≡ over f T B s + f (played T B s) t
  unfolding over played
  over_snoc f B [] t = omega arith
  over_snoc f B (u ∷ s) t = omega (arith, over_snoc f (step T B u) s t)

  -- the same for the first i entries of a schedule and one more
  pub played_take : (B : Bench) (s : List ℕ) (i : ℕ) → i < length s → played T B (take (suc i) s) ≡ step T (played T B (take i s)) (get_or s i 0)
  played_take B s i lt = ap (played T B) (take-suc s i 0 lt) ∙ played_snoc B (take i s) (get_or s i 0)

  pub over_take : (f : Bench → ℕ → ℕ) (B : Bench) (s : List ℕ) (i : ℕ) → i < length s
      → over f T B (take (suc i) s) ≡ over f T B (take i s) + f (played T B (take i s)) (get_or s i 0)
  over_take f B s i lt = ap (over f T B) (take-suc s i 0 lt) ∙ over_snoc f B (take i s) (get_or s i 0)
