-- Which numbers with a minus are samples. Assumes nothing.
use Prim.Native.Nat.{ℕ, zero, suc, ◌≤◌}
use native.Mathlib.Omega.{arith}
use lib.IntN.{pos, neg_ℤ}
use mir.Syntax.{w32}
use mir.Val.{SFits}

pub minus_fits : (v : ℕ) → v ≤ 2147483648 → SFits w32 (neg_ℤ (pos v))
minus_fits zero l = record { sfits = omega arith }
minus_fits (suc k) l = record { sfits = omega arith }
