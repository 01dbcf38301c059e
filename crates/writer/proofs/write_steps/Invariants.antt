-- The lines put so far, and those of the entries left, are all lines.
use Rattle.std.proofs.Common.{drop}
use Rattle.runfile.specs.Spelling.{steps_text}
use Rattle.writer.proofs.WriteLaws.{Lines}
use Rattle.writer.proofs.write_steps.Given as goal

abbrev pub invariant-loop-thread : goal.invariant-loop-thread
invariant-loop-thread l = Lines (steps_text l.schedule) (steps_text (drop l.thread-index l.schedule)) l.fn.page l.page
