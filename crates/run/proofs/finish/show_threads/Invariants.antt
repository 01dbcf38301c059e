-- The invariant: the records passed are the threads'.
use Rattle.std.proofs.Common.{◌≡◌, ◌++◌, drop}
use Rattle.run.specs.FinalTwin.{tab, record_at}
use Rattle.run.proofs.finish.show_threads.Given as goal

abbrev pub invariant-loop-t : goal.invariant-loop-t
invariant-loop-t l = l.records ≡ tab l.t (record_at l.threads) ++ drop l.t l.initial.records
