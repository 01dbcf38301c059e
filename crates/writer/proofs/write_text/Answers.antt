-- The two first lines, the operations and the schedule, put one after another.
use Rattle.numerals.proofs.PrintLaws.{wrote_then, wrote_as}
use Rattle.writer.proofs.WriteLaws.{run_text_spelled}
use Rattle.writer.proofs.write_text.Goals as goal

pub returns-clause-put : goal.returns-clause-put
returns-clause-put c =
    let i = c.args.input.now in
    let t = i.table in
    wrote_as (run_text_spelled i.threads i.slots t.thread.now t.kind.now t.sample.now i.schedule.now)
    (wrote_then c.write_pair.ensures (wrote_then c.write_pair-2.ensures (wrote_then c.write_ops.ensures.put c.write_steps.ensures)))
