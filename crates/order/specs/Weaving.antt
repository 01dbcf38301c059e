-- What the private functions of this crate promise each other. Nothing in this file has to be believed.
--   at             the entry at a place, 0 past the end
--   Ends           for each operation, the place after its last entry among the first s of the row; 0 if it has none
--   PrecederEnd    p is the end of an operation that precedes b among the codes below i
--   Needs          for each operation, the latest such end; 0 if there is none
use Rattle.std.specs.Prelude.{◌≡◌, List, ℕ, ◌+◌, ◌*◌, ◌-◌, ◌≤◌, ◌<◌, length, get_or}

abbrev pub at : List ℕ → ℕ → ℕ
at l i = get_or l i 0

pub record Ends (row ends : List ℕ) (s : ℕ) : Type 0 where
  pub size : length ends ≡ 256
  pub beyond : (q : ℕ) → q < s → q < at ends (at row q)
  pub most : (o : ℕ) → at ends o ≤ s
  pub place : (o : ℕ) → 0 < at ends o → at row (at ends o - 1) ≡ o

pub record PrecederEnd (codes ends : List ℕ) (p b i : ℕ) : Type 0 where
  pub op : ℕ
  pub back : ℕ
  pub forth : ℕ
  pub small : op < 256
  pub before : back < forth
  pub below : forth < i
  pub returns : at codes back ≡ 2 * op + 1
  pub calls : at codes forth ≡ 2 * b
  pub end : p ≡ at ends op

pub record Needs (codes ends needs : List ℕ) (i : ℕ) : Type 0 where
  pub size : length needs ≡ 256
  pub most : (a b j l : ℕ) → a < 256 → b < 256 → j < l → l < i → at codes j ≡ 2 * a + 1 → at codes l ≡ 2 * b → at ends a ≤ at needs b
  pub from : (b : ℕ) → 0 < at needs b → PrecederEnd codes ends (at needs b) b i
