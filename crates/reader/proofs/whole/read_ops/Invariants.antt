-- The operations read are stored, and the reading from the place reached on, under them, is the whole reading.
use Rattle.std.proofs.Common.{◌≡◌, ◌≤◌, ◌+◌, ◌-◌, length}
use Rattle.reader.specs.Lent.{SameLists}
use Rattle.reader.proofs.LineLaws.{LeftOps}
use Rattle.reader.proofs.whole.read_ops.Given as goal

abbrev pub invariant-loop-read : goal.invariant-loop-read
invariant-loop-read l =
    record {
      in_range : l.read.place ≤ length l.text;
      lines : l.read.line ≤ l.read.place + 1;
      few : l.read.count ≤ l.read.place;
      left : LeftOps l.text l.from l.first l.fn.lent.thread.now l.fn.lent.kind.now l.fn.lent.sample.now l.lent.thread.now l.lent.kind.now l.lent.sample.now l.read.place l.read.line l.read.count;
      same : SameLists l.fn.lent l.lent;
      schedule : l.lent.schedule.now ≡ l.fn.lent.schedule.now;
    }

abbrev pub decreases-loop-read : goal.decreases-loop-read
decreases-loop-read l = length l.text - l.read.place
