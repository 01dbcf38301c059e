-- Nothing in this file has to be believed: twins of this crate's private functions, on its own structs and lists.
--   Within n c      no count of c is above n, and the reservation count is at most 64
--   called, reserved, stored, given, begun, passed, swapped   what a phase's step makes of the state, and what the thread does next
--   acted           the step of a thread, by what it is doing
--   state_in, state_with   the state of parts that were taken apart, and of the part that moves and its finds
--   World           a state, with the lists of events
--   step_world, run_world  one step, and a schedule's steps
--   play_twin       the whole of `play`
use Rattle.std.specs.Prelude.{◌≡◌, Bool, cond, ◌&&◌, List, [], ◌∷◌, map, ℕ, ◌+◌, ◌*◌, ◌≤◌, ◌<◌, ltb, leb, eqb, ℤ, pos, Option, Some, None, Result, Ok, Err, length, get_or, set, replicate}
use Rattle.limits.specs.declared.Refusal.{Refusal}
use Rattle.limits.specs.declared.Refusal.TheVariants.{Room}
use Rattle.limits.specs.Operations.{Input}
use Rattle.limits.specs.Refusals.{Fit, input_refusal, and_then, unless, by_fit}
use Rattle.stepping.specs.declared.Doing.{Doing}
use Rattle.stepping.specs.declared.Doing.TheVariants.{Rest, CalledPut, Reserved, Stored, CalledTake, Scanning, Holding}
use Rattle.stepping.specs.declared.Counts.{Counts}
use Rattle.stepping.specs.declared.Events.{Events}
use Rattle.stepping.specs.declared.State.{State}
use Rattle.stepping.specs.declared.Moving.{Moving}
use Rattle.stepping.specs.declared.Finds.{Finds}
use Rattle.stepping.specs.declared.Parts.{Parts}
use Rattle.stepping.specs.PlanTwin.{plan_from}

-- the lists lent for events are the same ones still
pub record SameLists (e e' : Events) : Type 0 where
  pub codes : e'.codes.ghost_name ≡ e.codes.ghost_name
  pub values : e'.values.ghost_name ≡ e.values.ghost_name

-- the parts of a state are the same ones still
pub record SameParts (p p' : Parts) : Type 0 where
  pub threads : p'.threads.ghost_name ≡ p.threads.ghost_name
  pub counts : p'.counts.ghost_name ≡ p.counts.ghost_name
  pub marks : p'.marks.ghost_name ≡ p.marks.ghost_name
  pub owners : p'.owners.ghost_name ≡ p.owners.ghost_name
  pub takes : p'.takes.ghost_name ≡ p.takes.ghost_name
  pub puts : p'.puts.ghost_name ≡ p.puts.ghost_name

pub record Within (n : ℕ) (c : Counts) : Type 0 where
  pub back : c.back ≤ 64
  pub events : c.events ≤ n
  pub idle : c.idle ≤ n
  pub stores : c.stores ≤ n
  pub swaps : c.swaps ≤ n
  pub finds : c.finds ≤ n
  pub fruitless : c.fruitless ≤ n

-- ---- a state, and what a thread of it does next

pub record Moved : Type 0 where
  pub state : State
  pub doing : Doing

-- the state that was taken apart
abbrev pub state_in : Parts → State
state_in p = record { threads = p.threads.now; counts = p.counts.now; marks = p.marks.now; owners = p.owners.now; takes = p.takes.now; puts = p.puts.now }

-- the state of its two parts
abbrev pub state_with : Moving → Finds → State
state_with m f = record { threads = m.threads; counts = m.counts; marks = m.marks; owners = m.owners; takes = f.takes; puts = f.puts }

abbrev pub moved_of : State → Doing → Moved
moved_of s d = record { state = s; doing = d }

-- ---- the same, with the lists of events

pub record World : Type 0 where
  pub state : State
  pub codes : List ℕ
  pub values : List ℤ

abbrev pub world_in : Parts → Events → World
world_in p e = record { state = state_in p; codes = e.codes.now; values = e.values.now }

abbrev pub world_with : Moving → Finds → Events → World
world_with m f e = record { state = state_with m f; codes = e.codes.now; values = e.values.now }

pub record Turn : Type 0 where
  pub world : World
  pub doing : Doing

abbrev pub turn_of : World → Doing → Turn
turn_of w d = record { world = w; doing = d }

-- ---- a state, one count raised

abbrev pub event_more : State → State
event_more s = record s { counts = record s.counts { events = s.counts.events + 1 } }

abbrev pub idle_more : State → State
idle_more s = record s { counts = record s.counts { idle = s.counts.idle + 1 } }

abbrev pub swap_more : State → State
swap_more s = record s { counts = record s.counts { swaps = s.counts.swaps + 1 } }

abbrev pub fruitless_more : State → State
fruitless_more s = record s { counts = record s.counts { fruitless = s.counts.fruitless + 1 } }

-- ---- the phases

abbrev pub first_doing : ℕ → ℕ → Doing
first_doing k o = cond (eqb k 1) (CalledPut o) (CalledTake o)

-- an event is written, x beside it
abbrev pub noted : World → ℕ → ℤ → World
noted w code x = record { state = event_more w.state; codes = set w.codes w.state.counts.events code; values = set w.values w.state.counts.events x }

unfoldable pub called : List ℕ → World → Option ℕ → Turn
called kind w None = turn_of (record w { state = idle_more w.state }) (Rest None)
called kind w (Some o) = turn_of (noted w (2 * o) (pos 0)) (first_doing (get_or kind o 0) o)

abbrev pub given : List (Option ℕ) → World → ℕ → ℤ → Turn
given next w o x = turn_of (noted w (2 * o + 1) x) (Rest (get_or next o None))

-- slot back gets the owner o
abbrev pub owned_by : State → ℕ → State
owned_by s o = record s { counts = record s.counts { back = s.counts.back + 1 }; owners = set s.owners s.counts.back o }

unfoldable pub reserved : State → ℕ → Moved
reserved s o = cond (ltb s.counts.back 64) (moved_of (owned_by s o) (Reserved s.counts.back o)) (moved_of s (CalledPut o))

abbrev pub stored : State → ℕ → ℕ → Moved
stored s slot o = moved_of (record s { counts = record s.counts { stores = s.counts.stores + 1 }; marks = set s.marks slot 1 }) (Stored o)

unfoldable pub begun : State → ℕ → Doing
begun s o = cond (eqb s.counts.back 0) (CalledTake o) (Scanning 0 s.counts.back o)

unfoldable pub passed : State → ℕ → ℕ → ℕ → Moved
passed s slot end o = cond (ltb (slot + 1) end) (moved_of s (Scanning (slot + 1) end o)) (moved_of (fruitless_more s) (CalledTake o))

-- take o found what the put that owns the slot stored
abbrev pub found_at : State → ℕ → ℕ → State
found_at s slot o =
    record s {
      counts = record s.counts { swaps = s.counts.swaps + 1; finds = s.counts.finds + 1 };
      marks = set s.marks slot 0;
      takes = set s.takes s.counts.finds o;
      puts = set s.puts s.counts.finds (get_or s.owners slot 0);
    }

unfoldable pub swapped : List ℤ → State → ℕ → ℕ → ℕ → Moved
swapped sample s slot end o =
    cond (eqb (get_or s.marks slot 0) 0) (passed (swap_more s) slot end o) (moved_of (found_at s slot o) (Holding o (get_or sample (get_or s.owners slot 0) (pos 0))))

-- ---- a step of one thread

-- no event is written
abbrev pub silent : World → Moved → Turn
silent w m = turn_of (record w { state = m.state }) m.doing

unfoldable pub acted : List ℕ → List ℤ → List (Option ℕ) → World → Doing → Turn
acted kind sample next w (Rest o) = called kind w o
acted kind sample next w (CalledPut o) = silent w (reserved w.state o)
acted kind sample next w (Reserved slot o) = silent w (stored w.state slot o)
acted kind sample next w (Stored o) = given next w o (pos 0)
acted kind sample next w (CalledTake o) = turn_of w (begun w.state o)
acted kind sample next w (Scanning slot end o) = silent w (swapped sample w.state slot end o)
acted kind sample next w (Holding o x) = given next w o x

-- ---- a step, and a schedule's steps

abbrev pub resting : Doing
resting = Rest None

abbrev pub turned : ℕ → Turn → World
turned t u = record u.world { state = record u.world.state { threads = set u.world.state.threads t u.doing } }

unfoldable pub step_world : List ℕ → List ℤ → List (Option ℕ) → World → ℕ → World
step_world kind sample next w t = turned t (acted kind sample next w (get_or w.state.threads t resting))

unfoldable pub run_world : List ℕ → List ℤ → List (Option ℕ) → World → List ℕ → World
run_world kind sample next w [] = w
run_world kind sample next w (t ∷ schedule) = run_world kind sample next (step_world kind sample next w t) schedule

-- ---- the whole

abbrev pub no_finds : Finds
no_finds = record { takes = replicate 64 0; puts = replicate 64 0 }

unfoldable pub start_state : List (Option ℕ) → State
start_state first =
    record {
      threads = map Rest first;
      counts = record { back = 0; events = 0; idle = 0; stores = 0; swaps = 0; finds = 0; fruitless = 0 };
      marks = replicate 64 0;
      owners = replicate 64 0;
      takes = replicate 64 0;
      puts = replicate 64 0;
    }

-- a table and a schedule that the arrays of this crate have room for
pub record Playable (thread schedule : List ℕ) : Type 0 where
  pub few : length thread ≤ 128
  pub owned : (k : ℕ) → k < length thread → get_or thread k 0 < 16
  pub short : length schedule ≤ 4096
  pub named : (k : ℕ) → k < length schedule → get_or schedule k 0 < 16

abbrev pub world_of : State → List ℕ → List ℤ → World
world_of s cs vs = record { state = s; codes = cs; values = vs }

-- two events an operation fit what is lent
abbrev pub room_in : Bool → ℕ → ℕ → ℕ → Bool
room_in roomy n cs vs = roomy && (leb (2 * n) cs && leb (2 * n) vs)

-- an answer, and the lists of events beside it
pub record Played : Type 0 where
  pub answer : Result State Refusal
  pub codes : List ℕ
  pub values : List ℤ

abbrev pub played : Result State Refusal → List ℕ → List ℤ → Played
played r cs vs = record { answer = r; codes = cs; values = vs }

abbrev pub played_to : World → Played
played_to w = played (Ok w.state) w.codes w.values

unfoldable pub play_run : Input → List ℕ → List ℤ → World
play_run i cs vs =
    let p = plan_from 0 i.thread in
    run_world i.kind i.sample p.next (world_of (start_state p.first) cs vs) i.schedule

unfoldable pub play_fit : Input → Bool → List ℕ → List ℤ → Fit
play_fit i roomy cs vs = and_then (input_refusal i) (unless (room_in roomy (length i.thread) (length cs) (length vs)) Room (Ok tt))

-- on a refusal the lists stay as they are
unfoldable pub play_twin : Input → Bool → List ℕ → List ℤ → Played
play_twin i roomy cs vs = by_fit (play_fit i roomy cs vs) (played_to (play_run i cs vs)) (λ r. played (Err r) cs vs)
