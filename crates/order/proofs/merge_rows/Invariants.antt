-- The takes so far stand merged, and the row's rest where it stood. Assumes nothing.
use mathlib.Core.List.{map}
use lib.ListN.{length, drop}
use Rattle.order.specs.Listing.{bare}
use Rattle.order.proofs.WeavingLaws.{Woven}
use Rattle.order.proofs.merge_rows.Given as goal

abbrev pub invariant-loop-t : goal.invariant-loop-t
invariant-loop-t l = Woven (map bare l.codes) l.rows.takes.now l.rows.puts.now (drop (length l.rows.takes.now) l.initial.order) l.order l.k (length l.yielded) l.out
