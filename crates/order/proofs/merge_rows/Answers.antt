-- `order::merge_rows` meets its contract: each take goes where the row is cut for it. Assumes nothing.
use mathlib.Core.List.{[], ◌∷◌, map}
use Prim.Native.Nat.{ℕ, ◌+◌, ◌<◌}
use native.Mathlib.Omega.{arith}
use lib.ListN.{length, drop, length-append}
use lib.Seq.{get_or-drop}
use borrow.Author.Rules.{rules}
use Rattle.std.proofs.lemmas.Slice.{between_to_end}
use Rattle.std.proofs.lemmas.Slice.Zip.{zip_turn, zip_end}
use Rattle.order.specs.Listing.{bare}
use Rattle.order.specs.Weaving.{at, Ends}
use Rattle.order.proofs.ReachingLaws.{reaching}
use Rattle.order.proofs.WeavingLaws.{woven_next, woven_end}
use Rattle.order.proofs.merge_rows.Goals as goal

pub loop-t-preserved : goal.loop-t-preserved
loop-t-preserved c =
    let a = c.args in
    let r = a.rows.now in
    let h = c.loop-t in
    let turn = zip_turn r.takes.now r.puts.now h.yielded c.into_iter-t-iterator.result h.t-iterator c.next.new.self c.next.result
    (search rules) (search rules) h.yielded_by (c.in-Some.t, c.in-Some.p) c.in-Some.is c.next.ensures.steps in
    let row = drop (length r.takes.now) a.order.now in
    let fits : (q : ℕ) → at a.order.now q < 256 = λ q. search rules in
    let small : (q : ℕ) → at row q < 256 = λ q. rw (get_or-drop (length r.takes.now) a.order.now q 0) (fits (length r.takes.now + q)) in
    let ends : Ends row c.note_ends-ends.result (length row) = rw (between_to_end a.order.now (length r.takes.now) (length a.order.now) (omega arith)) at c.note_ends-ends.ensures in
    let g = reaching a.codes.now row c.note_ends-ends.result c.note_needs-needs.result ends c.note_needs-needs.ensures
    small c.in-Some.t.now c.in-Some.p.now (search rules) h.k h.invariant.within c.max-r.result (omega (arith, c.max.ensures, c.max-r.ensures)) in
    rw (length-append h.yielded ((c.in-Some.t, c.in-Some.p) ∷ []))
    (woven_next (map bare a.codes.now) r.takes.now r.puts.now row h.order h.k (length h.yielded) h.out h.invariant
    c.max-r.result c.in-Some.t.now c.in-Some.p.now c.copy_within.new.self turn.0 turn.1 (turn.2 0) (turn.3 0) g c.copy_within.ensures.after)

pub returns : goal.returns
returns c =
    let a = c.args in
    let r = a.rows.now in
    let h = c.loop-t in
    let end = zip_end r.takes.now r.puts.now h.yielded c.into_iter-t-iterator.result h.t-iterator c.next.new.self c.next.result
    (search rules) (search rules) h.yielded_by c.in-None.is c.next.ensures.steps in
    woven_end (map bare a.codes.now) r.takes.now r.puts.now (drop (length r.takes.now) a.order.now) h.order h.k (length h.yielded) h.out h.invariant (omega (arith, end, c.requires.together))
