-- The first two lines, the operations and the schedule, each read where the one before ended.
use Rattle.std.proofs.Common.{sym}
use Rattle.std.proofs.lemmas.Result.{err_from_is_err_and}
use Rattle.reader.proofs.ParseLaws.{parse_head, parse_steps, parse_done, held_long}
use Rattle.reader.proofs.whole.parse.Goals as goal

pub returns-in_err-head-clause-says : goal.returns-in_err-head-clause-says
returns-in_err-head-clause-says c =
    let l = c.args.lent.now in
    let p = err_from_is_err_and c.from_residual.result c.from_residual.ensures.1 in
    rw (p.1, p.2) (parse_head c.args.text.now l.thread.now l.kind.now l.sample.now l.schedule.now l.thread.now l.kind.now l.sample.now l.schedule.now _ c.in_err-head.ensures)

pub returns-in_err-steps-clause-says : goal.returns-in_err-steps-clause-says
returns-in_err-steps-clause-says c =
    let l = c.args.lent.now in
    let h = c.in_ok-head in
    let o = c.read_ops-ops in
    let n = o.new.lent in
    let p = err_from_is_err_and c.from_residual-in_err-steps.result c.from_residual-in_err-steps.ensures.1 in
    rw (p.1, p.2, sym o.ensures.schedule) (parse_steps c.args.text.now l.thread.now l.kind.now l.sample.now n.schedule.now n.thread.now n.kind.now n.sample.now c.read_steps.new.out
    h.head.threads h.head.slots h.head.place h.ensures o.result.count o.result.place o.result.line o.ensures.read _ c.in_err-steps.ensures)

pub returns-clause-says : goal.returns-clause-says
returns-clause-says c =
    let l = c.args.lent.now in
    let h = c.in_ok-head in
    let o = c.read_ops-ops in
    let n = o.new.lent in
    rw (sym o.ensures.schedule) (parse_done c.args.text.now l.thread.now l.kind.now l.sample.now n.schedule.now n.thread.now n.kind.now n.sample.now c.read_steps.new.out
    h.head.threads h.head.slots h.head.place h.ensures o.result.count o.result.place o.result.line o.ensures.read c.in_ok-steps.steps c.in_ok-steps.ensures)

pub returns-clause-lengths : goal.returns-clause-lengths
returns-clause-lengths c =
    let l = c.args.lent.now in
    let n = c.read_ops-ops.new.lent in
    held_long c.args.text.now c.in_ok-head.head.threads c.in_ok-head.head.slots c.read_ops-ops.result.count c.in_ok-steps.steps l.thread.now l.kind.now l.sample.now l.schedule.now n.thread.now n.kind.now n.sample.now c.read_steps.new.out
    (returns-clause-says c)
