use Rattle.std.proofs.Common.{arith, ◌+◌, get_or, drop}
use Rattle.runfile.specs.Spelling.{step_word, pair_line, steps_text}
use Rattle.writer.proofs.WriteLaws.{lines_start, lines_next, lines_end, steps_left, no_steps_left}
use Rattle.writer.proofs.write_steps.Goals as goal

pub loop-thread-init : goal.loop-thread-init
loop-thread-init c = lines_start (steps_text c.args.schedule.now) c.args.page.now

pub loop-thread-preserved : goal.loop-thread-preserved
loop-thread-preserved c =
    let s = c.args.schedule.now in
    let i = c.loop-thread.thread-index in
    lines_next (pair_line step_word (get_or s i 0)) (steps_text (drop (i + 1) s)) c.loop-thread.invariant (steps_left s i (omega arith)) c.write_pair.ensures

pub returns : goal.returns
returns c = lines_end (no_steps_left c.args.schedule.now c.loop-thread.thread-index (omega arith)) c.loop-thread.invariant
