use Rattle.std.proofs.Common.{arith, rules, ◌+◌, ap, [], ℤ, pos, get_or, drop, w32, FitsSigned}
use mir.ValLaws.{to_z-of_z}
use Rattle.numerals.proofs.PrintLaws.{wrote_as}
use Rattle.runfile.specs.Spelling.{op_line, ended, ops_text}
use Rattle.writer.proofs.WriteLaws.{fit_next, lines_start, lines_next, lines_end, ops_left, no_ops_left}
use Rattle.writer.proofs.write_ops.Goals as goal

pub loop-o-init : goal.loop-o-init
loop-o-init c =
    let t = c.args.table.now in
    record { lines = lines_start (ops_text t.thread.now t.kind.now t.sample.now) c.args.page.now; fitting = λ j h. absurd (omega arith) }

pub loop-o-preserved : goal.loop-o-preserved
loop-o-preserved c =
    let h = c.loop-o in
    let t = c.args.table.now in
    let x = get_or t.sample.now h.o (pos 0) in
    let f : FitsSigned w32 x = search rules in
    let line = op_line (get_or t.thread.now h.o 0) (get_or t.kind.now h.o 0) in
    record {
      lines =
          lines_next (line x) (ops_text (drop (h.o + 1) t.thread.now) (drop (h.o + 1) t.kind.now) (drop (h.o + 1) t.sample.now))
          h.invariant.lines (ops_left t.thread.now t.kind.now t.sample.now h.o c.requires.0 c.requires.1 (omega arith))
          (wrote_as (ap (λ (y : ℤ). ended (line y) []) (to_z-of_z w32 x f)) c.write_op.ensures);
      fitting = fit_next t.sample.now h.o h.invariant.fitting f;
    }

pub returns-clause-put : goal.returns-clause-put
returns-clause-put c =
    let t = c.args.table.now in
    lines_end (no_ops_left t.thread.now t.kind.now t.sample.now c.loop-o.o (omega arith)) c.loop-o.invariant.lines

pub returns-clause-fitting : goal.returns-clause-fitting
returns-clause-fitting c = λ j l. c.loop-o.invariant.fitting j (omega (arith, c.requires.1))
