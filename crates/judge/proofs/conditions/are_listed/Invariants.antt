-- `judge::conditions::are_listed` meets its contract. The invariant: each operation passed is listed, if it has returned. Assumes nothing.
use Rattle.std.proofs.Common.{◌≢◌, ℕ, ◌<◌, length, None}
use Rattle.judge.specs.Marks.{returned, Among}
use Rattle.judge.proofs.conditions.are_listed.Given as goal

abbrev pub invariant-loop-o : goal.invariant-loop-o
invariant-loop-o l = (p : ℕ) → p < l.o-counter → returned l.marks p ≢ None → Among l.order (length l.order) p
