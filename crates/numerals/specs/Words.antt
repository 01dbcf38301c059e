-- Words and lines as bytes, for run files and listings alike (document 01, 'Run files'). Assumes nothing.
--   bytes w   the codes of the characters of w, in turn
--   line fs   the fields fs, parted by one tab (byte 9) and ended by a line feed (byte 10)
use Rattle.std.specs.Prelude.{List, [], ◌∷◌, ◌++◌, ℕ}
use Prim.Native.Char.{code}
use Prim.Native.String.{String}
use Prim.Native.String as S

abbrev pub bytes : String → List ℕ
bytes S.[] = []
bytes (S.◌∷◌ c w) = code c ∷ bytes w

abbrev pub line : List (List ℕ) → List ℕ
line [] = 10 ∷ []
line (f ∷ []) = f ++ (10 ∷ [])
line (f ∷ g ∷ fs) = f ++ (9 ∷ line (g ∷ fs))
