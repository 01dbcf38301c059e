-- A step of the code shows the step of the bench, and adds to the counts what that step counts for. Assumes nothing.
use mathlib.Core.Path.{refl, sym, subst}
use Prim.Native.Nat.{ℕ}
use lib.ListN.{get_or}
use Rattle.machine.specs.declared.Phase.{Phase}
use Rattle.machine.specs.Bench.{Empty, Bench, back, worker_at, step_from, step}
use Rattle.machine.proofs.RunLaws.{run_step}
use Rattle.stepping.specs.declared.Doing.{Doing}
use Rattle.stepping.specs.declared.Doing.TheVariants.{Rest, CalledPut, Reserved, Stored, CalledTake, Scanning, Holding}
use Rattle.stepping.specs.Twins.{World, step_world, resting}
use Rattle.faithful.specs.Views.{phase_of}
use Rattle.faithful.proofs.StageLaws.{Setting, table_in, RunIn, DoesIn, Stage, turn_from, Goes}
use Rattle.faithful.proofs.PhaseLaws.{from_rest, from_called_put, from_reserved, from_stored, from_holding}
use Rattle.faithful.proofs.ScanLaws.{from_called_take, from_scanning}

module _ (I : Setting) (B : Bench) (w : World) (t : ℕ) (g : Stage I B w t) where
  -- by what the thread does
  goes_from : (d : Doing) → DoesIn I d (worker_at B t) → RunIn I (step_from (table_in I) B t (worker_at B t) (phase_of d))
      → Goes I B w t (phase_of d) (step_from (table_in I) B t (worker_at B t) (phase_of d)) (turn_from I w t d)
  goes_from (Rest o) d after = from_rest I B w t g o (worker_at B t).todo refl d.heads d after
  goes_from (CalledPut o) d after = from_called_put I B w t g o d after
  goes_from (Reserved i o) d after = from_reserved I B w t g i o d
  goes_from (Stored o) d after = from_stored I B w t g o d after
  goes_from (CalledTake o) d after = from_called_take I B w t g o (back B) g.shows.owned.count d
  goes_from (Scanning j b o) d after = from_scanning I B w t g j b o d (get_or B.slots j Empty) refl after
  goes_from (Holding o x) d after = from_holding I B w t g o x d after

  -- and the thread does what its worker does
  pub goes_step : Goes I B w t (worker_at B t).phase (step (table_in I) B t) (step_world I.kind I.sample I.next w t)
  unfolding step step_world
  goes_step =
      let d : Doing = (get_or w.state.threads t resting) in
      let h = g.shows.busy.does t g.named in
      let after = run_step (table_in I) I.threads I.slots g.room.puts B t g.named g.run in
      subst (λ (p : Phase). Goes I B w t p (step_from (table_in I) B t (worker_at B t) p) (turn_from I w t d)) (sym h.phase)
      (goes_from d h (subst (λ (p : Phase). RunIn I (step_from (table_in I) B t (worker_at B t) p)) h.phase after))
