-- The samples that a queue holds in a ring of 128 slots. Nothing here has to be believed: the public contract names none of it.
--   window  the n samples that stand from a place on, around the end
use Rattle.std.specs.Prelude.{List, [], ◌∷◌, ℕ, zero, suc, ◌%◌, ℤ, pos, get_or}

unfoldable pub window : List ℤ → ℕ → ℕ → List ℤ
window slots front zero = []
window slots front (suc n) = get_or slots (front % 128) (pos 0) ∷ window slots (suc front) n
