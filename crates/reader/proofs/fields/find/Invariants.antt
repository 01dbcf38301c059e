-- Counting from a and counting from i give the same place.
use Rattle.std.proofs.Common.{◌≡◌, ◌+◌, drop}
use Rattle.runfile.specs.Twins.{until}
use Rattle.reader.proofs.fields.find.Given as goal

abbrev pub invariant-loop-i : goal.invariant-loop-i
invariant-loop-i l = l.a + until l.x (drop l.a l.s) ≡ l.i + until l.x (drop l.i l.s)
