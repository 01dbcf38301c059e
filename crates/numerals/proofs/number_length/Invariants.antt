-- The digits counted and those of the rest are all digits and one; the count is small, since each turn takes more from the rest than it adds to it.
use Rattle.std.proofs.Common.{◌+◌, ◌≡◌, ◌≤◌, length}
use Rattle.numerals.specs.Decimal.{decimal}
use Rattle.numerals.proofs.number_length.Given as goal

abbrev pub invariant-loop-rest : goal.invariant-loop-rest
invariant-loop-rest l = record { small : l.count + l.rest ≤ l.n + 1; counted : length (decimal l.n) + 1 ≡ l.count + length (decimal l.rest) }

abbrev pub decreases-loop-rest : goal.decreases-loop-rest
decreases-loop-rest l = l.rest
