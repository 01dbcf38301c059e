-- `judge::conditions::are_numbers` meets its contract. The invariant: each entry passed is an operation number, and stands at no earlier place. Assumes nothing.
use Rattle.std.proofs.Common.{ℕ, ◌<◌, get_or}
use Rattle.judge.specs.Marks.{Among}
use Rattle.judge.proofs.conditions.are_numbers.Given as goal

abbrev pub invariant-loop-j : goal.invariant-loop-j
invariant-loop-j l = (k : ℕ) → k < l.j → (get_or l.order k 0 < l.size) × (¬ Among l.order k (get_or l.order k 0))
