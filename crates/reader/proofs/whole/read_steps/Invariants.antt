-- What was read is stored, and the reading from a on, under it, is the whole reading.
use Rattle.std.proofs.Common.{◌≤◌, ◌+◌, ◌-◌, length}
use Rattle.reader.proofs.LineLaws.{Left}
use Rattle.reader.proofs.whole.read_steps.Given as goal

abbrev pub invariant-loop-a : goal.invariant-loop-a
invariant-loop-a l =
    record {
      in_range : l.a ≤ length l.text;
      lines : l.first + l.count ≤ l.a + 1;
      left : Left l.text l.from l.first l.fn.out l.out l.a (l.first + l.count) l.count;
    }

abbrev pub decreases-loop-a : goal.decreases-loop-a
decreases-loop-a l = length l.text - l.a
