-- Nothing here has to be believed: notions that the contracts of private functions need.
--   until x s   how many bytes stand before the first x, or in all
--   Free x s    no byte of s is x
use Rattle.std.specs.Prelude.{◌≡◌, false, cond, List, [], ◌∷◌, ℕ, suc, eqb}

abbrev pub until : ℕ → List ℕ → ℕ
until x [] = 0
until x (c ∷ s) = cond (eqb c x) 0 (suc (until x s))

abbrev pub Free : ℕ → List ℕ → Type 0
Free x [] = Unit {0}
Free x (c ∷ s) = (eqb c x ≡ false) × Free x s
