-- `order::note_needs` meets its contract. The invariant: the codes before this one are noted. Assumes nothing.
use Rattle.order.proofs.NotingLaws.{Noted}
use Rattle.order.proofs.note_needs.Given as goal

abbrev pub invariant-loop-code : goal.invariant-loop-code
invariant-loop-code l = Noted l.codes l.ends l.needs l.reach l.code-index
