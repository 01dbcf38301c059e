-- Decimal numbers as text (document 01, 'Run files': decimal without plus or leading zeros). Assumes nothing.
--   decimal n   the text of n; 0 is `0`, byte 48
use Rattle.std.specs.Prelude.{cond, List, [], ◌∷◌, ◌++◌, ℕ, zero, suc, ◌+◌, ◌/◌, ◌%◌, ltb}

-- the digits of n; any k from n on will do, it only bounds the recursion
abbrev pub dec : ℕ → ℕ → List ℕ
dec zero n = (48 + n) ∷ []
dec (suc k) n = cond (ltb n 10) ((48 + n) ∷ []) (dec k (n / 10) ++ ((48 + n % 10) ∷ []))

unfoldable pub decimal : ℕ → List ℕ
decimal n = dec n n
