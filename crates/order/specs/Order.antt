-- The listed order (document 01, 'History, order, and what a run writes'). Assumes nothing.
--   finds          the takes that found a sample, each with the put it found, in the order of their finding swaps
--   Before h t p q the put q has to stand before the take t, which found p: it is p, or it precedes t
--   cut            a row of puts up to the last that has to stand before a take, and the puts after that one
--   merge          before each take the puts of the row up to its cut; puts that stand already are not listed again; puts left over come last
--   listed_order   found puts in the order in which they were found, then the others; merged with the takes
use Rattle.std.specs.Prelude.{◌≡◌, ◌⊎◌, List, [], ◌∷◌, ◌++◌, ℕ}
use Rattle.std.proofs.Math.Decide.{ℕ_discrete}
use Rattle.history.specs.History.{Event, Precedes}
use Rattle.history.specs.Decide.{precedes?, either?}

-- x stands before the parts that the rest of its row was cut in; alone it is kept only if the test says so
abbrev pub glue : {P : Type 0} → ℕ → List ℕ → Dec P → List ℕ → List ℕ → List ℕ × List ℕ
glue x row (yes p) [] b = (x ∷ [], row)
glue x row (no p) [] b = ([], x ∷ row)
glue x row d (z ∷ a) b = (x ∷ z ∷ a, b)

module _ (h : List Event) where
  abbrev pub Before : ℕ → ℕ → ℕ → Type 0
  Before t p q = (q ≡ p) ⊎ Precedes h q t

  abbrev pub before? : (t p q : ℕ) → Dec (Before t p q)
  before? t p q = either? (ℕ_discrete q p) (precedes? h q t)

  abbrev pub cut : ℕ → ℕ → List ℕ → List ℕ × List ℕ
  cut t p [] = ([], [])
  cut t p (q ∷ row) = let c = cut t p row in glue q row (before? t p q) c.0 c.1

  unfoldable pub merge : List ℕ → List (ℕ × ℕ) → List ℕ
  merge row [] = row
  merge row (f ∷ finds) = let c = cut f.0 f.1 row in c.0 ++ (f.0 ∷ merge c.1 finds)

abbrev pub found_puts : List (ℕ × ℕ) → List ℕ
found_puts [] = []
found_puts (f ∷ finds) = f.1 ∷ found_puts finds

abbrev pub listed_order : List Event → List (ℕ × ℕ) → List ℕ → List ℕ
listed_order h finds others = merge h (found_puts finds ++ others) finds
