-- The lines put so far, and those of the operations left, are all lines.
use Rattle.std.proofs.Common.{ℕ, ◌<◌, get_or, drop, pos, w32, FitsSigned}
use Rattle.runfile.specs.Spelling.{ops_text}
use Rattle.writer.proofs.WriteLaws.{Lines}
use Rattle.writer.proofs.write_ops.Given as goal

abbrev pub invariant-loop-o : goal.invariant-loop-o
invariant-loop-o l =
    let t = l.table in
    record {
      lines : Lines (ops_text t.thread.now t.kind.now t.sample.now) (ops_text (drop l.o t.thread.now) (drop l.o t.kind.now) (drop l.o t.sample.now)) l.fn.page l.page;
      fitting : (j : ℕ) → j < l.o → FitsSigned w32 (get_or t.sample.now j (pos 0));
    }
