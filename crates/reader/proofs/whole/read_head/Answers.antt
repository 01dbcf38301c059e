-- The first line is the threads, the second the slots.
use Rattle.reader.proofs.LineLaws.{head_second, head_at}
use Rattle.reader.proofs.whole.read_head.Goals as goal

pub returns-in_default-read_line : goal.returns-in_default-read_line
returns-in_default-read_line c = head_second c.args.text.now c.in-Some.threads c.in-Some.second c.in-Some.ensures c.in_default-read_line.ensures

pub returns : goal.returns
returns c = head_at c.args.text.now c.in-Some.threads c.in-Some.second c.in-Some.ensures c.in-Some-read_line.slots c.in-Some-read_line.place c.in-Some-read_line.ensures
