use Rattle.std.proofs.Common.{arith, ◌+◌, sym, add_assoc}
use Rattle.reader.proofs.LineLaws.{left_bad, left_next}
use Rattle.reader.proofs.whole.read_steps.Goals as goal

pub returns-in_default : goal.returns-in_default
returns-in_default c =
    let h = c.loop-a in
    let a = c.args in
    left_bad a.text.now a.from a.first a.out.now h.out h.a (a.first + h.count) h.count h.invariant.left (omega arith) c.in_default.ensures

pub loop-a-preserved : goal.loop-a-preserved
loop-a-preserved c =
    let h = c.loop-a in
    let a = c.args in
    let w = c.in-Some.ensures in
    record {
      in_range = w.1.1.1.1;
      lines = omega (arith, w.1.1.1.0);
      left =
          rw (sym (add_assoc a.first h.count 1))
          (left_next a.text.now a.from a.first a.out.now h.out h.a (a.first + h.count) h.count h.invariant.left c.in-Some.thread c.in-Some.next _ w c.store.ensures);
    }
