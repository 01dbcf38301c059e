-- What is set at t is the next thread's record.
use Rattle.std.proofs.Common.{◌≡◌, refl, ap, ◌∙◌, arith, ◌++◌, ℕ, drop, replicate}
use Rattle.run.specs.FinalTwin.{tab, record_at, shown_threads}
use Rattle.run.specs.Core.{rest_record}
use Rattle.run.proofs.FinalLaws.{tab_next}
use Rattle.run.proofs.finish.show_threads.Goals as goal

pub loop-t-init : goal.loop-t-init
unfolding tab
loop-t-init c = refl

pub loop-t-preserved : goal.loop-t-preserved
loop-t-preserved c =
    let f = record_at c.args.threads.now in
    rw (c.phase_of.ensures, c.loop-t.invariant) (tab_next f (replicate 16 rest_record) rest_record c.loop-t.t (omega arith))

pub returns : goal.returns
unfolding shown_threads
returns c =
    let z : c.loop-t.t ≡ c.args.n = omega arith in
    c.loop-t.invariant ∙ ap (λ (k : ℕ). tab k (record_at c.args.threads.now) ++ drop k (replicate 16 rest_record)) z
