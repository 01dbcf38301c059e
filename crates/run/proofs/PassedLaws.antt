-- Every law of runs holds of the bench that an input which passes 1 to 8 comes to. Assumes nothing.
--   passed_run       the bench after the schedule is one that a run comes to
--   passed_ordered   and its finds are in order
use Prim.Native.Nat.{◌<◌}
use Rattle.limits.specs.Lists.{All}
use Rattle.limits.specs.Operations.{Input, table}
use Rattle.limits.proofs.PassLaws.{Passed}
use Rattle.history.proofs.PrecedenceLists.{all_of_get_or}
use Rattle.machine.proofs.CountLaws.{PutsAtMost}
use Rattle.machine.proofs.RunLaws.{Run, run_played, puts_fit}
use Rattle.machine.proofs.ChainLaws.{OrderedAt, ordered_played}
use Rattle.run.specs.Run.{bench_after}

module _ (i : Input) (p : Passed i) where
  pub passed_most : PutsAtMost (table i) i.slots
  passed_most = puts_fit i.thread i.kind i.sample p.kinds i.slots p.puts

  pub passed_named : All (λ t. t < i.threads) i.schedule
  passed_named = all_of_get_or (λ t. t < i.threads) i.schedule 0 p.named

  pub passed_run : Run (table i) i.threads i.slots (bench_after i)
  passed_run = run_played (table i) i.threads i.slots passed_most i.schedule passed_named

  pub passed_ordered : OrderedAt (table i) i.threads (bench_after i)
  passed_ordered = ordered_played (table i) i.threads i.slots passed_most i.schedule passed_named
