-- The invariant: no operation before o is unfit. Assumes nothing.
use Rattle.std.proofs.Common.{◌≡◌, ℕ, ◌<◌, false}
use Rattle.limits.specs.Refusals.{unfit_at}
use Rattle.limits.proofs.Table.first_unfit.Given as goal

abbrev pub invariant-loop-o : goal.invariant-loop-o
invariant-loop-o l = (k : ℕ) → k < l.o → unfit_at l.threads l.self.thread.now l.self.kind.now l.self.sample.now k ≡ false
