-- The digits of n are the i lowest digits of the rest and those that stand from the i-th place on; each turn moves one digit over.
use Rattle.std.proofs.Common.{List, ℕ, ◌≡◌, ◌++◌}
use Rattle.std.proofs.lemmas.List.Edits.{sets}
use Rattle.numerals.specs.Decimal.{decimal}
use Rattle.numerals.proofs.PrintLaws.{lows}
use Rattle.numerals.proofs.store_digits.Given as goal

abbrev pub invariant-loop-i : goal.invariant-loop-i
invariant-loop-i l = (s : List ℕ) × ((decimal l.n ≡ lows l.i l.rest ++ s) × (l.text ≡ sets l.fn.text l.i s))
