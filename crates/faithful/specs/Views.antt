-- Nothing in this file has to be believed: how the code's state shows the document's bench.
--   phase_of   the phase of what a thread is doing
--   Faithful   a world of the code shows the bench after the schedule: events, phases, slots, finds and counts
use Rattle.std.specs.Prelude.{◌≡◌, List, ◌++◌, map, ℕ, ◌<◌, ℤ, length, get_or, take, drop}
use Rattle.limits.specs.Operations.{Table}
use Rattle.machine.specs.declared.Phase.{Phase}
use Rattle.machine.specs.declared.Phase.TheVariants as P
use Rattle.machine.specs.Bench.{Bench, Empty, back, worker_at}
use Rattle.machine.specs.StepCounts.{over, idle_step, store_step, swap_step, find_step, fruitless_step}
use Rattle.machine.specs.Shown.{mark, codes, samples}
use Rattle.stepping.specs.declared.Doing.{Doing}
use Rattle.stepping.specs.declared.Doing.TheVariants as D
use Rattle.stepping.specs.Twins.{World, resting}

abbrev pub phase_of : Doing → Phase
phase_of (D.Rest o) = P.Rest
phase_of (D.CalledPut o) = P.CalledPut
phase_of (D.Reserved slot o) = P.Reserved slot
phase_of (D.Stored o) = P.Stored
phase_of (D.CalledTake o) = P.CalledTake
phase_of (D.Scanning slot end o) = P.Scanning slot end
phase_of (D.Holding o x) = P.Holding x

-- of a table T, the bench B after a schedule from the bench S, the lists lent for events, and the world at the end
pub record Faithful (T : Table) (threads slots : ℕ) (schedule : List ℕ) (S B : Bench) (cs : List ℕ) (vs : List ℤ) (w : World) : Type 0 where
  pub codes : w.codes ≡ codes B ++ drop (length (codes B)) cs
  pub values : w.values ≡ samples B ++ drop (length (samples B)) vs
  pub phases : (t : ℕ) → t < threads → phase_of (get_or w.state.threads t resting) ≡ (worker_at B t).phase
  pub marks : (i : ℕ) → i < slots → get_or w.state.marks i 0 ≡ mark (get_or B.slots i Empty)
  pub owners : (i : ℕ) → i < back B → get_or w.state.owners i 0 ≡ get_or B.reservations i 0
  pub takes : take (length B.finds) w.state.takes ≡ map (λ f. f.0) B.finds
  pub puts : take (length B.finds) w.state.puts ≡ map (λ f. f.1) B.finds
  pub back : w.state.counts.back ≡ back B
  pub events : w.state.counts.events ≡ length B.history
  pub idle : w.state.counts.idle ≡ over idle_step T S schedule
  pub stores : w.state.counts.stores ≡ over store_step T S schedule
  pub swaps : w.state.counts.swaps ≡ over swap_step T S schedule
  pub finds : w.state.counts.finds ≡ over find_step T S schedule
  pub fruitless : w.state.counts.fruitless ≡ over fruitless_step T S schedule
