-- An unfit operation, where none before it is. Assumes nothing.
use Rattle.std.proofs.Common.{rules, sym, length, arith, ◌≡◌, true}
use Rattle.limits.specs.Refusals.{unfit_at}
use Rattle.limits.proofs.SearchLaws.{lowest_first}
use Rattle.limits.proofs.Table.first_unfit.Goals as goal

pub returns-then-is_unfit : goal.returns-then-is_unfit
returns-then-is_unfit c =
    let t = c.args.self.now in
    let here : unfit_at c.args.threads t.thread.now t.kind.now t.sample.now c.loop-o.o ≡ true = search rules in
    sym (lowest_first (unfit_at c.args.threads t.thread.now t.kind.now t.sample.now) (length t.thread.now) c.loop-o.o (omega arith) here c.loop-o.invariant)
