-- `judge::marks::Marks::new` meets its contract: an array of nothing has nothing anywhere. Assumes nothing.
use Rattle.std.proofs.Common.{◌≡◌, ℕ, zero, suc, get_or, replicate, Option, None, refl}
use Rattle.history.specs.declared.Event.TheVariants.{Call, Return}
use Rattle.judge.proofs.marks.Marks.new.Goals as goal

nothing : (n o : ℕ) → get_or (replicate {A = Option ℕ} n None) o None ≡ None
nothing zero o = refl
nothing (suc n) zero = refl
nothing (suc n) (suc o) = nothing n o

pub returns : goal.returns
returns c (Call o) = nothing 128 o
returns c (Return o) = nothing 128 o
