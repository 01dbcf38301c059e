-- `order::note_ends` meets its contract. The invariant: the row's entries before s are noted. Assumes nothing.
use Rattle.order.specs.Weaving.{Ends}
use Rattle.order.proofs.note_ends.Given as goal

abbrev pub invariant-loop-s : goal.invariant-loop-s
invariant-loop-s l = Ends l.row l.ends l.s
