-- `judge::standing::read_history` meets its contract. The invariant: the events passed were read, each of which can stand. Assumes nothing.
use Rattle.judge.specs.Marks.{ReadTo}
use Rattle.judge.proofs.standing.read_history.Given as goal

abbrev pub invariant-loop-i : goal.invariant-loop-i
invariant-loop-i l = ReadTo l.table l.history l.i l.marks
