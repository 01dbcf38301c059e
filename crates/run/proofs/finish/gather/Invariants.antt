-- The invariant: what is gathered and what is left make the whole row.
use Rattle.std.proofs.Common.{◌≡◌, ◌-◌, ◌≤◌, ◌++◌, take}
use Rattle.run.specs.FinalTwin.{gathered}
use Rattle.run.proofs.finish.gather.Given as goal

abbrev pub invariant-loop-i : goal.invariant-loop-i
invariant-loop-i l =
    record {
      few : l.len ≤ l.i;
      whole : take l.len l.row ++ gathered l.state.marks l.state.owners l.i (l.n - l.i) ≡ gathered l.state.marks l.state.owners 0 l.n;
    }
