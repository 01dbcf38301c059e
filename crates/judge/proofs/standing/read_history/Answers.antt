-- `judge::standing::read_history` meets its contract: it stops at the lowest event that cannot stand, or else reads on. Assumes nothing.
use Rattle.std.proofs.Common.{get_or, pos, sym, ◌∙◌, arith, rules}
use Rattle.std.proofs.lemmas.Bool.{false≢true}
use Rattle.limits.proofs.LimitsLaws.{back32}
use Rattle.judge.proofs.StandLaws.{read_few, read_more, read_stops}
use Rattle.judge.proofs.standing.read_history.Goals as goal

pub returns-then-not-can_stand : goal.returns-then-not-can_stand
returns-then-not-can_stand c =
    let l = c.loop-i in
    let x = get_or c.args.history.now.samples.now l.i (pos 0) in
    read_stops c.args.table.now c.args.history.now l.i l.marks l.invariant c.event_of-event.result c.event_of-event.ensures c.loop-i-test.true c.requires.1
    (λ s. false≢true (sym c.if-not-can_stand.true ∙ c.can_stand.ensures.1 (rw (back32 x (search rules)) s)))

pub overflow_cast-i : goal.overflow_cast-i
overflow_cast-i c =
    let l = c.loop-i in
    let x = get_or c.args.history.now.samples.now l.i (pos 0) in
    let few = read_few c.args.table.now c.args.history.now l.i l.marks l.invariant c.event_of-event.result c.event_of-event.ensures c.loop-i-test.true c.requires.1 c.requires.0
    (rw (back32 x (search rules)) at (c.can_stand.ensures.0 c.if-not-can_stand.false)) in
    omega arith

pub loop-i-preserved : goal.loop-i-preserved
loop-i-preserved c =
    let l = c.loop-i in
    let x = get_or c.args.history.now.samples.now l.i (pos 0) in
    read_more c.args.table.now c.args.history.now l.i l.marks l.invariant c.event_of-event.result c.event_of-event.ensures c.loop-i-test.true c.requires.1
    c.note.new.self (rw (back32 x (search rules)) at (c.can_stand.ensures.0 c.if-not-can_stand.false)) c.note.ensures
