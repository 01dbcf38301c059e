-- Texts that a loop puts one after the other, each of at most k bytes. Assumes nothing.
use mathlib.Core.List.{List}
use Prim.Native.Nat.{ℕ, ◌+◌, ◌*◌, ◌≤◌}
use native.Mathlib.Nat.{mul-suc}
use native.Mathlib.Numerals.{add-one}
use native.Mathlib.Omega.{arith}
use lib.ListN.{length, length-append}
use Rattle.numerals.specs.declared.Page.{Page}
use Rattle.numerals.specs.Places.{Wrote}
use Rattle.numerals.proofs.PrintLaws.{wrote_none, wrote_then}
use Rattle.listing.specs.Twins.{upto}

-- after i turns: the first i texts are put
pub record Printed (p : Page) (g : ℕ → List ℕ) (k : ℕ) (q : Page) (i : ℕ) : Type 0 where
  pub put : Wrote p (upto g i) q
  pub low : length (upto g i) ≤ k * i

-- before the first turn nothing is
pub printed_first : (p : Page) (g : ℕ → List ℕ) (k : ℕ) → Printed p g k p 0
unfolding upto
printed_first p g k = record { put = wrote_none p; low = omega arith }

-- one more text, after those that are put already
pub printed_next : {p q r : Page} {k i : ℕ} (g : ℕ → List ℕ) → Printed p g k q i → Wrote q (g i) r → length (g i) ≤ k → Printed p g k r (i + 1)
unfolding upto
printed_next {k = k} {i = i} g x y low = record {
  put = rw (add-one i) (wrote_then x.put y);
  low = rw (add-one i, mul-suc k i) (omega (arith, length-append (upto g i) (g i), x.low));
}
