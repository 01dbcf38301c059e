-- The invariant: the entries passed are what the slots hold.
use Rattle.std.proofs.Common.{◌≡◌, ◌++◌, drop}
use Rattle.run.specs.FinalTwin.{tab, held_at}
use Rattle.run.proofs.finish.show_held.Given as goal

abbrev pub invariant-loop-i : goal.invariant-loop-i
invariant-loop-i l = l.out ≡ tab l.i (held_at l.sample l.state.marks l.state.owners) ++ drop l.i l.initial.out
