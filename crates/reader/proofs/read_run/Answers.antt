-- A text that is not too long is answered by its reading. What is stored in the arrays is the reading's lists as far as they
-- reach, which is all that the answer depends on.
use Rattle.std.proofs.Common.{rules, arith, ℕ, pos}
use Rattle.std.proofs.lemmas.Result.{err_from_is_err_and}
use lib.ListN.{replicate, length-replicate}
use Rattle.reader.proofs.AnswerLaws.{read_wrong, read_accepts, read_refuses}
use Rattle.reader.proofs.read_run.Goals as goal

pub returns-in_err-sizes-clause-says : goal.returns-in_err-sizes-clause-says
returns-in_err-sizes-clause-says c =
    let l = c.args.lent.now in
    let p = err_from_is_err_and c.from_residual.result c.from_residual.ensures.1 in
    rw (p.1, p.2) (read_wrong c.args.text.now l.thread.now l.kind.now l.sample.now l.schedule.now c.if-text-gt65536.false _ (replicate 129 0) (replicate 129 0) (replicate 129 (pos 0)) (replicate 4097 0) _ _ _ _
    c.in_err-sizes.ensures.says)

pub returns-in_err-settle-clause-says : goal.returns-in_err-settle-clause-says
returns-in_err-settle-clause-says c =
    let f = c.in_ok-sizes.sizes in
    let n = c.parse.new.lent in
    let p = err_from_is_err_and c.from_residual-in_err-settle.result c.from_residual-in_err-settle.ensures.1 in
    rw (p.1, p.2) (read_refuses c.args.text.now c.args.lent.now c.settle.new.self c.if-text-gt65536.false f.threads f.slots f.operations f.steps c.min-operations.result c.min-steps.result
    (replicate 129 0) (replicate 129 0) (replicate 129 (pos 0)) (replicate 4097 0) n.thread.now n.kind.now n.sample.now n.schedule.now
    (length-replicate {A = ℕ} 129 0) (length-replicate {A = ℕ} 129 0) (length-replicate 129 (pos 0)) (length-replicate {A = ℕ} 4097 0)
    c.in_ok-sizes.ensures.lengths.0 c.in_ok-sizes.ensures.lengths.3 c.in_ok-sizes.ensures.says (omega (arith, c.min-operations.ensures)) (omega (arith, c.min-steps.ensures)) _ c.in_err-settle.ensures.says)

pub returns-clause-says : goal.returns-clause-says
returns-clause-says c =
    let f = c.in_ok-sizes.sizes in
    let n = c.parse.new.lent in
    read_accepts c.args.text.now c.args.lent.now c.settle.new.self c.if-text-gt65536.false f.threads f.slots f.operations f.steps c.min-operations.result c.min-steps.result
    (replicate 129 0) (replicate 129 0) (replicate 129 (pos 0)) (replicate 4097 0) n.thread.now n.kind.now n.sample.now n.schedule.now
    (length-replicate {A = ℕ} 129 0) (length-replicate {A = ℕ} 129 0) (length-replicate 129 (pos 0)) (length-replicate {A = ℕ} 4097 0)
    c.in_ok-sizes.ensures.lengths.0 c.in_ok-sizes.ensures.lengths.3 c.in_ok-sizes.ensures.says (omega (arith, c.min-operations.ensures)) (omega (arith, c.min-steps.ensures)) c.in_ok-settle.ensures.says
