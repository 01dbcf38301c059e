use Rattle.std.proofs.Common.{arith, rules, sym}
use Rattle.reader.proofs.LineLaws.{ops_start, ops_unended, ops_end, ops_next}
use Rattle.reader.proofs.whole.read_ops.Goals as goal

pub loop-read-init : goal.loop-read-init
loop-read-init c =
    let a = c.args in
    record {
      in_range = omega arith;
      lines = omega arith;
      few = omega arith;
      same = search rules;
      schedule = search rules;
      left = ops_start a.text.now a.from a.first a.lent.now.thread.now a.lent.now.kind.now a.lent.now.sample.now;
    }

pub returns-then-text-e-clause-read : goal.returns-then-text-e-clause-read
returns-then-text-e-clause-read c =
    let h = c.loop-read in
    let v = h.invariant in
    let a = c.args in
    ops_unended a.text.now a.from a.first a.lent.now.thread.now a.lent.now.kind.now a.lent.now.sample.now h.lent.thread.now h.lent.kind.now h.lent.sample.now h.read.place h.read.line h.read.count v.left v.in_range v.lines c.find-e.result c.find-e.ensures c.if-text-e.true

pub returns-in_default-clause-read : goal.returns-in_default-clause-read
returns-in_default-clause-read c =
    let h = c.loop-read in
    let v = h.invariant in
    let a = c.args in
    ops_end a.text.now a.from a.first a.lent.now.thread.now a.lent.now.kind.now a.lent.now.sample.now h.lent.thread.now h.lent.kind.now h.lent.sample.now h.read.place h.read.line h.read.count v.left v.in_range v.lines c.find-e.result c.find-e.ensures c.if-text-e.false
    (sym c.in_default.ensures)

pub loop-read-preserved : goal.loop-read-preserved
loop-read-preserved c =
    let h = c.loop-read in
    let v = h.invariant in
    let a = c.args in
    let o = c.in-Some.operation in
    record {
      in_range = omega arith;
      lines = omega (arith, c.find-e.ensures);
      few = omega (arith, c.find-e.ensures);
      same = search rules;
      schedule = search rules;
      left =
          ops_next a.text.now a.from a.first a.lent.now.thread.now a.lent.now.kind.now a.lent.now.sample.now h.lent.thread.now h.lent.kind.now h.lent.sample.now h.read.place h.read.line h.read.count v.left v.in_range v.lines c.find-e.result c.find-e.ensures c.if-text-e.false
          o.thread o.kind o.sample _ _ _ (sym c.in-Some.ensures) c.store.ensures (cc) c.store-in-loop-read-2.ensures;
    }
