-- `order::note_needs` meets its contract: each code is noted by its case. Assumes nothing.
use mathlib.Core.Path.{sym}
use mathlib.Core.Logic.{inl, inr}
use Rattle.order.proofs.NotingLaws.{noted_start, note_none, note_call, note_return}
use Rattle.order.proofs.note_needs.Goals as goal
use Rattle.order.proofs.note_needs.Goals.{in-Call+then-o-lt256, in-Call+else-o-lt256, in-Return+then-o-lt256-2, in-Return+else-o-lt256-2}

pub loop-code-init : goal.loop-code-init
loop-code-init c = noted_start c.args.codes.now c.args.ends.now

pub loop-code-preserved : goal.loop-code-preserved
loop-code-preserved c =
    let a = c.args in
    let h = c.loop-code in
    elim c.match-event_of.branch [
      | in-Call+then-o-lt256 w ↦ rw (w.needs-is, w.reach-is) (note_call a.codes.now a.ends.now h.needs h.reach h.code-index h.invariant w.in-Call.o (sym w.in-Call.ensures) w.if-o-lt256.true)
      | in-Call+else-o-lt256 w ↦ rw (w.needs-is, w.reach-is) (note_none a.codes.now a.ends.now h.needs h.reach h.code-index h.invariant w.in-Call.o (inl (sym w.in-Call.ensures)) w.if-o-lt256.false)
      | in-Return+then-o-lt256-2 w ↦ rw (w.needs-is, w.reach-is, w.max-reach.ensures) (note_return a.codes.now a.ends.now h.needs h.reach h.code-index h.invariant w.in-Return.o (sym w.in-Return.ensures) w.if-o-lt256-2.true)
      | in-Return+else-o-lt256-2 w ↦ rw (w.needs-is, w.reach-is) (note_none a.codes.now a.ends.now h.needs h.reach h.code-index h.invariant w.in-Return.o (inr (sym w.in-Return.ensures)) w.if-o-lt256-2.false)
    ]
