-- Samples as text (document 01, 'Run files': minus only before a sample other than 0), for run files and listings alike. Assumes nothing.
--   sample_text x   the text of a sample: its digits, a minus (byte 45) before them where it is below 0
use Rattle.std.specs.Prelude.{List, ◌∷◌, ℕ, suc, ℤ, pos, negsuc}
use Rattle.numerals.specs.Decimal.{decimal}

unfoldable pub sample_text : ℤ → List ℕ
sample_text (pos n) = decimal n
sample_text (negsuc n) = 45 ∷ decimal (suc n)
