-- A step in the middle of a run: what is known before it, what is to be shown of it, and the changes that several phases share. Assumes nothing.
--   Setting   a run's input, the next operation of each operation, and the lists lent for events
--   Roomy     the bounds that the steps rest on
--   Stage     before a step: a run's bench B, a world w that shows it, and the thread t that steps
--   Goes      after a step from phase p: the world w' shows the bench B', and the counts have grown by what the step counts for
use mathlib.Core.Path.{◌≡◌, refl}
use mathlib.Core.List.{List, [], ◌∷◌, ◌++◌}
use Rattle.std.specs.Prelude.{Option as Maybe, None}
use mathlib.Core.Option.{Option}
use Prim.Native.Nat.{ℕ, ◌+◌, ◌*◌, ◌≤◌, ◌<◌}
use native.Mathlib.Omega.{arith}
use lib.IntN.{ℤ}
use lib.ListN.{length, get_or, set}
use Rattle.limits.specs.Operations.{Table, table_of}
use Rattle.history.specs.History.{Event, ret, code_of, beside}
use Rattle.history.proofs.PrecedenceLists.{length_snoc}
use Rattle.machine.specs.declared.Phase.{Phase}
use Rattle.machine.specs.declared.Phase.TheVariants as P
use Rattle.machine.specs.Bench.{Worker, Bench, worker_at, moved, returns}
use Rattle.machine.proofs.CountLaws.{PutsAtMost}
use Rattle.machine.proofs.RunLaws.{Run, workers_length, history_length}
use Rattle.stepping.specs.declared.Doing.{Doing}
use Rattle.stepping.specs.declared.Doing.TheVariants.{Rest}
use Rattle.stepping.specs.Twins.{World, turn_of, turned, acted, given}
use Rattle.faithful.proofs.ShowLaws.{Heads, Does, Shows, Counted, Written, Busy, written_grow, busy_set}

-- `next` has each operation's next one of its thread; cs and vs are as they were lent
pub record Setting : Type 0 where
  pub thread : List ℕ
  pub kind : List ℕ
  pub sample : List ℤ
  pub threads : ℕ
  pub slots : ℕ
  pub next : List (Maybe ℕ)
  pub cs : List ℕ
  pub vs : List ℤ

-- the table of the input
abbrev pub table_in : Setting → Table
table_in I = table_of I.thread I.kind I.sample

-- the code's arrays have room for the threads and slots, the slots for the puts, and the lent lists for two events an operation
pub record Roomy (I : Setting) : Type 0 where
  pub kinds : length I.kind ≡ length I.thread
  pub few : I.threads ≤ 16
  pub small : I.slots ≤ 64
  pub puts : PutsAtMost (table_in I) I.slots
  pub codes : 2 * length I.thread ≤ length I.cs
  pub values : 2 * length I.thread ≤ length I.vs

-- the notions of runs, worlds and threads, for a setting
abbrev pub RunIn : Setting → Bench → Type 0
RunIn I B = Run (table_in I) I.threads I.slots B

abbrev pub ShowsIn : Setting → Bench → World → Type 0
ShowsIn I B w = Shows I.next I.threads I.cs I.vs B w

abbrev pub DoesIn : Setting → Doing → Worker → Type 0
DoesIn I d v = Does I.next d v

-- all that is known before a step
pub record Stage (I : Setting) (B : Bench) (w : World) (t : ℕ) : Type 0 where
  pub room : Roomy I
  pub run : RunIn I B
  pub shows : ShowsIn I B w
  pub named : t < I.threads

-- the thread steps from what it is doing
abbrev pub turn_from : Setting → World → ℕ → Doing → World
turn_from I w t d = turned t (acted I.kind I.sample I.next w d)

-- all that is shown of a step
pub record Goes (I : Setting) (B : Bench) (w : World) (t : ℕ) (p : Phase) (B' : Bench) (w' : World) : Type 0 where
  pub shows : ShowsIn I B' w'
  pub counted : Counted (worker_at B t).todo B.slots p w.state.counts w'.state.counts

module _ (I : Setting) (B : Bench) (w : World) (t : ℕ) (g : Stage I B w t) where
  -- thread t and its worker are set together
  pub go_on : (d : Doing) (v : Worker) → DoesIn I d v → Busy I.next I.threads (set B.workers t v) (set w.state.threads t d)
  go_on d v h =
      busy_set I.next I.threads B.workers w.state.threads g.room.few g.shows.busy t g.named
      (workers_length (table_in I) I.threads I.slots B g.run) d v h

  -- an event is written: the history is no longer than two events an operation, so there is room
  pub note : (e : Event) → length (B.history ++ (e ∷ [])) ≤ 2 * length I.thread
      → Written I.cs I.vs (B.history ++ (e ∷ [])) (w.state.counts.events + 1) (set w.codes w.state.counts.events (code_of e)) (set w.values w.state.counts.events (beside e))
  note e le =
      let l = length_snoc B.history e in
      written_grow I.cs I.vs B.history w.state.counts.events w.codes w.values e (omega (arith, g.room.codes)) (omega (arith, g.room.values)) g.shows.written

  -- only the thread goes on, and whatever it counts is counted
  pub move : (i st sw fr : ℕ) (d : Doing) (v : Worker) → DoesIn I d v
      → ShowsIn I (moved B t v)
      (turned t (turn_of (record w { state = record w.state { counts = record w.state.counts { idle = i; stores = st; swaps = sw; fruitless = fr } } }) d))
  move i st sw fr d v h = record { written = g.shows.written; marked = g.shows.marked; owned = g.shows.owned; found = g.shows.found; busy = go_on d v h }

  -- operation o returns with the answer a, and the thread rests before the next of its operations
  pub give_back : (o : ℕ) (a : Option ℤ) → (worker_at B t).current ≡ o → Heads I.next (get_or I.next o None) (worker_at B t).todo
      → RunIn I (returns B t (worker_at B t) a)
      → ShowsIn I (returns B t (worker_at B t) a)
      (turned t (given I.next w o (beside (ret o a))))
  give_back o a e h after =
      rw e (record {
        written = note (ret o a) (rw e at (history_length (table_in I) I.threads I.slots (returns B t (worker_at B t) a) after));
        marked = g.shows.marked;
        owned = g.shows.owned;
        found = g.shows.found;
        busy = go_on (Rest (get_or I.next o None)) (record { phase = P.Rest; current = o; todo = (worker_at B t).todo }) (record { phase = refl; current = tt; heads = h });
      })
