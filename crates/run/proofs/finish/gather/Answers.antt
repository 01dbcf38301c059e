-- The owner of the next slot stands after those before it, if the slot is marked.
use Rattle.std.proofs.Common.{sym, ap, ◌∙◌, arith, ◌++◌, append-nil, ℕ, List, take}
use Rattle.run.proofs.FinalLaws.{gather_none, gather_one, gather_end}
use Rattle.run.proofs.finish.gather.Goals as goal
use Rattle.run.proofs.finish.gather.Goals.{then-state-i-ne0, else-state-i-ne0}

pub loop-i-preserved : goal.loop-i-preserved
loop-i-preserved c =
    let s = c.args.state.now in
    let l = c.loop-i in
    elim c.if-state-i-ne0.branch [
      | then-state-i-ne0 w ↦ record {
        few = omega arith;
        whole = rw (w.row-is, w.len-is) (gather_one s.marks s.owners l.i c.args.n c.loop-i-test.true l.row l.len (omega arith) w.if-state-i-ne0.true ∙ l.invariant.whole);
      }
      | else-state-i-ne0 w ↦ record {
        few = omega arith;
        whole = rw (w.row-is, w.len-is) (gather_none s.marks s.owners l.i c.args.n c.loop-i-test.true l.row l.len w.if-state-i-ne0.false ∙ l.invariant.whole);
      }
    ]

pub returns : goal.returns
returns c =
    let s = c.args.state.now in
    let l = c.loop-i in
    let e = gather_end s.marks s.owners l.i c.args.n c.loop-i-test.false in
    sym (ap (λ (r : List ℕ). take l.len l.row ++ r) e ∙ append-nil (take l.len l.row)) ∙ l.invariant.whole
