-- The bench and one step of one thread (document 01, 'One step of one thread'). Assumes nothing.
--   Slot      empty, or filled with a sample; 0 is a sample
--   Worker    a thread: its phase, the operation it called last, and its operations not yet called, in table order
--   Bench     threads, slots, the puts in the order in which they reserved, the finds, the history
--             (the put at index i of the reservations has slot i; their number is the reservation count)
--             (a find is a take and the put whose sample it met)
--   bench_of  a bench by its five parts
--   step      one step of one thread: a clause for each row of the document's table
--   start, played   the bench before the first step, and after a schedule
use Rattle.std.specs.Prelude.{cond, List, [], ◌∷◌, ◌++◌, ℕ, zero, suc, ◌+◌, ltb, eqb, ℤ, length, get_or, set, replicate}
use Rattle.std.proofs.Math.Option.{Option, none, some}
use Rattle.limits.specs.declared.Kind.{Kind}
use Rattle.limits.specs.declared.Kind.TheVariants.{Put as putting, Take as taking}
use Rattle.limits.specs.Operations.{Table}
use Rattle.history.specs.History.{Event, call, ret}
use Rattle.machine.specs.declared.Phase.{Phase}
use Rattle.machine.specs.declared.Phase.TheVariants.{Rest, CalledPut, Reserved, Stored, CalledTake, Scanning, Holding}

pub data Slot : Type 0 where
  Empty : Slot
  Filled : ℤ → Slot

pub record Worker : Type 0 where
  pub phase : Phase
  pub current : ℕ
  pub todo : List ℕ

pub record Bench : Type 0 where
  pub workers : List Worker
  pub slots : List Slot
  pub reservations : List ℕ
  pub finds : List (ℕ × ℕ)
  pub history : List Event

abbrev pub bench_of : List Worker → List Slot → List ℕ → List (ℕ × ℕ) → List Event → Bench
bench_of ws ss rs fs h = record { workers = ws; slots = ss; reservations = rs; finds = fs; history = h }

-- the reservation count
abbrev pub back : Bench → ℕ
back B = length B.reservations

abbrev pub idler : Worker
idler = record { phase = Rest; current = 0; todo = [] }

abbrev pub worker_at : Bench → ℕ → Worker
worker_at B t = get_or B.workers t idler

-- worker w in another phase
abbrev pub in_phase : Worker → Phase → Worker
in_phase w p = record { phase = p; current = w.current; todo = w.todo }

-- thread t is now w
abbrev pub moved : Bench → ℕ → Worker → Bench
moved B t w = bench_of (set B.workers t w) B.slots B.reservations B.finds B.history

abbrev pub noted : Bench → Event → Bench
noted B e = bench_of B.workers B.slots B.reservations B.finds (B.history ++ (e ∷ []))

abbrev pub first_phase : Kind → Phase
first_phase putting = CalledPut
first_phase taking = CalledTake

-- phase 0: calls its next operation; with none left nothing changes
abbrev pub calls : Table → Bench → ℕ → List ℕ → Bench
calls T B t [] = B
calls T B t (o ∷ todo) = noted (moved B t (record { phase = first_phase (T.kind o); current = o; todo = todo })) (call o)

-- phase 1: gets the reservation count as its slot and raises the count by 1
abbrev pub reserves : Bench → ℕ → Worker → Bench
reserves B t w = bench_of (set B.workers t (in_phase w (Reserved (back B)))) B.slots (B.reservations ++ (w.current ∷ [])) B.finds B.history

-- phase 2: writes its sample into slot i
abbrev pub stores : Table → Bench → ℕ → Worker → ℕ → Bench
stores T B t w i = bench_of (set B.workers t (in_phase w Stored)) (set B.slots i (Filled (T.sample w.current))) B.reservations B.finds B.history

-- phase 4: b = 0 stays; otherwise a pass begins at slot 0, with end b
abbrev pub pass : ℕ → Phase
pass zero = CalledTake
pass (suc b) = Scanning 0 (suc b)

-- after nothing at slot j: the next slot below b, or phase 4 after slot b − 1
abbrev pub onward : ℕ → ℕ → Phase
onward j b = cond (ltb (j + 1) b) (Scanning (j + 1) b) CalledTake

-- phase 5: empties slot j and looks at what it held, in one action
abbrev pub swaps : Bench → ℕ → Worker → ℕ → ℕ → Slot → Bench
swaps B t w j b Empty = moved B t (in_phase w (onward j b))
swaps B t w j b (Filled x) =
    bench_of (set B.workers t (in_phase w (Holding x))) (set B.slots j Empty) B.reservations (B.finds ++ ((w.current, get_or B.reservations j 0) ∷ [])) B.history

-- phases 3 and 6: a return event
abbrev pub returns : Bench → ℕ → Worker → Option ℤ → Bench
returns B t w a = noted (moved B t (in_phase w Rest)) (ret w.current a)

abbrev pub step_from : Table → Bench → ℕ → Worker → Phase → Bench
step_from T B t w Rest = calls T B t w.todo
step_from T B t w CalledPut = reserves B t w
step_from T B t w (Reserved i) = stores T B t w i
step_from T B t w Stored = returns B t w none
step_from T B t w CalledTake = moved B t (in_phase w (pass (back B)))
step_from T B t w (Scanning j b) = swaps B t w j b (get_or B.slots j Empty)
step_from T B t w (Holding x) = returns B t w (some x)

unfoldable pub step : Table → Bench → ℕ → Bench
step T B t = step_from T B t (worker_at B t) (worker_at B t).phase

-- of the n operations from o on, thread t's
unfoldable pub own_from : Table → ℕ → ℕ → ℕ → List ℕ
own_from T t o zero = []
own_from T t o (suc n) = cond (eqb (T.thread o) t) (o ∷ own_from T t (suc o) n) (own_from T t (suc o) n)

-- n threads from t on, at rest
unfoldable pub resting : Table → ℕ → ℕ → List Worker
resting T t zero = []
resting T t (suc n) = record { phase = Rest; current = 0; todo = own_from T t 0 T.size } ∷ resting T (suc t) n

-- all threads rest, all slots are empty, the reservation count is 0
unfoldable pub start : Table → ℕ → ℕ → Bench
start T threads slots = bench_of (resting T 0 threads) (replicate slots Empty) [] [] []

unfoldable pub played : Table → Bench → List ℕ → Bench
played T B [] = B
played T B (t ∷ schedule) = played T (step T B t) schedule
