-- One step more of the schedule raises each count by one at most.
use Rattle.std.proofs.Common.{sym, rules, ap, ◌∙◌, subst, ◌+◌, get_or, drop}
use Rattle.stepping.specs.Twins.{Within, World, world_with, run_world}
use Rattle.stepping.proofs.TwinLaws.{run_step, run_end, step_within}
use Rattle.stepping.proofs.Moving.run_all.Goals as goal

pub loop-t-preserved : goal.loop-t-preserved
loop-t-preserved c =
    let script = c.args.script.now in
    let schedule = c.args.schedule.now in
    let l = c.loop-t in
    let w = world_with l.moving l.finds l.events in
    let e = c.step-moving.ensures.world_after in
    record {
      rest = ap (λ (x : World). run_world script.table.kind.now script.table.sample.now script.next x (drop (l.t-index + 1) schedule)) e
          ∙ run_step script.table.kind.now script.table.sample.now script.next w schedule l.t-index c.loop-t-test.true
          ∙ l.invariant.rest;
      same = search rules;
      counts = subst (λ (x : World). Within (l.t-index + 1) x.state.counts) (sym e)
          (step_within l.t-index w l.invariant.counts script.table.kind.now script.table.sample.now script.next (get_or schedule l.t-index 0));
    }

pub returns-clause-world_after : goal.returns-clause-world_after
returns-clause-world_after c =
    let script = c.args.script.now in
    let l = c.loop-t in
    sym (run_end script.table.kind.now script.table.sample.now script.next (world_with l.moving l.finds l.events) c.args.schedule.now l.t-index c.loop-t-test.false) ∙ l.invariant.rest
