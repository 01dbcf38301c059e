-- `judge::standing::are_back` meets its contract. The invariant: each operation passed has returned, if it is of the thread. Assumes nothing.
use Rattle.std.proofs.Common.{◌≡◌, ◌≢◌, ℕ, ◌<◌, None, get_or}
use Rattle.judge.specs.Marks.{returned}
use Rattle.judge.proofs.standing.are_back.Given as goal

abbrev pub invariant-loop-p : goal.invariant-loop-p
invariant-loop-p l = (k : ℕ) → k < l.p → get_or l.table.thread.now k 0 ≡ get_or l.table.thread.now l.o 0 → returned l.marks k ≢ None
