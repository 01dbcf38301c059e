-- `judge::conditions::are_in_turn` meets its contract. The invariant: each entry passed precedes none before it. Assumes nothing.
use Rattle.std.proofs.Common.{ℕ, ◌<◌, get_or}
use Rattle.judge.specs.Marks.{Earlier}
use Rattle.judge.proofs.conditions.are_in_turn.Given as goal

abbrev pub invariant-loop-j : goal.invariant-loop-j
invariant-loop-j l = (i : ℕ) → i < l.j → (k : ℕ) → k < i → ¬ Earlier l.marks (get_or l.order i 0) (get_or l.order k 0)
