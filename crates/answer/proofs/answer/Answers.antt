-- `answer::answer` meets its contract: the reader's lists have room for every run, so what it fills is what the text holds, and what it accepts
-- the listing accepts too. Assumes nothing.
use Rattle.std.proofs.Common.{rules}
use Rattle.answer.proofs.AnswerLaws.{refused_says, filled_says}
use Rattle.answer.proofs.answer.Goals as goal

pub returns-in-Err : goal.returns-in-Err
returns-in-Err c = refused_says c.in-Err.ensures.says c.list_refusal.ensures

pub returns-in-Ok : goal.returns-in-Ok
returns-in-Ok c = filled_says c.in-Ok.ensures.says c.list_run.ensures (search rules) (search rules) (search rules) (search rules)
