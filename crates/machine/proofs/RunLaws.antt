-- Laws of every run. Assumes nothing.
--   Run            what holds of the bench after every schedule of n threads, with m slots
--   run_played     it does
--   then, for a bench of which it holds: the bounds of its lists, what its slots hold, what each phase says, that its history stands, the counts
use mathlib.Core.Path.{◌≡◌, refl}
use mathlib.Core.Logic.{◌≢◌}
use mathlib.Core.List.{List, [], ◌∷◌}
use mathlib.Core.Option.{some}
use Prim.Native.Nat.{ℕ, ◌+◌, ◌*◌, ◌≤◌, ◌<◌}
use native.Mathlib.Omega.{arith}
use lib.IntN.{ℤ}
use lib.ListN.{length, get_or, take}
use Rattle.limits.specs.Lists.{All, Pw}
use Rattle.limits.specs.declared.Kind.{Kind}
use Rattle.limits.specs.declared.Kind.TheVariants.{Put as putting}
use Rattle.limits.specs.Operations.{Table, table_of, puts_in}
use Rattle.history.specs.History.{Called}
use Rattle.history.specs.Standing.{Stands}
use Rattle.history.proofs.PrecedenceLists.{all_of_get_or, all_take}
use Rattle.history.proofs.HistoryLaws.{Right, Sound}
use Rattle.history.proofs.PrecedenceLaws.{stands_length}
use Rattle.history.proofs.ListLaws.{all_imp}
use Rattle.machine.specs.declared.Phase.TheVariants.{Reserved, Scanning}
use Rattle.machine.specs.Bench.{Empty, Filled, Bench, back, worker_at, step, start, played}
use Rattle.machine.specs.StepCounts.{over, store_step, find_step, filled}
use Rattle.machine.proofs.WorkingLaws.{kind_at, Now, PlaceOf, WorkingAt, working_sound, working_now, place_todo}
use Rattle.machine.proofs.WorkingSteps.{working_start, working_step}
use Rattle.machine.proofs.ScheduleLaws.{played_keeps}
use Rattle.machine.proofs.SlotLaws.{SlottedAt, slotted_start, slotted_step, slot_beyond}
use Rattle.machine.proofs.FindLaws.{FoundAt, found_start}
use Rattle.machine.proofs.FindSteps.{found_step}
use Rattle.machine.proofs.CountLaws.{PutsAtMost, back_low, Within, within_step, finds_low, finds_step, filled_step, filled_none, table_puts}

pub record Run (T : Table) (n m : ℕ) (B : Bench) : Type 0 where
  pub working : WorkingAt T n B
  pub slotted : SlottedAt T n m B
  pub found : FoundAt T B
  pub within : Within B

within_start : (T : Table) (n m : ℕ) → Within (start T n m)
unfolding start
within_start T n m = tt

pub run_start : (T : Table) (n m : ℕ) → Run T n m (start T n m)
run_start T n m = record {
  working = working_start T n m;
  slotted = slotted_start T n m;
  found = found_start T n m (slotted_start T n m);
  within = within_start T n m;
}

module _ (T : Table) (n m : ℕ) (most : PutsAtMost T m) where
  -- no slot number is too high
  pub run_room : (B : Bench) → Run T n m B → back B ≤ m
  run_room B r = back_low T n m B most r.working m r.slotted

  pub run_step : (B : Bench) (t : ℕ) → t < n → Run T n m B → Run T n m (step T B t)
  run_step B t lt r = record {
    working = working_step T n B r.working t lt;
    slotted = slotted_step T n m B r.working r.slotted t lt;
    found = found_step T n m B r.working r.slotted (run_room B r) r.found t lt;
    within = within_step T n m B r.slotted r.within t;
  }

  pub run_played : (schedule : List ℕ) → All (λ t. t < n) schedule → Run T n m (played T (start T n m) schedule)
  run_played schedule s = played_keeps T n (Run T n m) run_step (start T n m) (run_start T n m) schedule s

  -- the same for the first k entries of a schedule whose every entry is a thread
  pub run_taken : (schedule : List ℕ) → ((i : ℕ) → i < length schedule → get_or schedule i 0 < n) → (k : ℕ) → Run T n m (played T (start T n m) (take k schedule))
  run_taken schedule named k = run_played (take k schedule) (all_take (λ t. t < n) schedule k (all_of_get_or (λ t. t < n) schedule 0 named))

  -- stores = finds + filled slots, from a bench on
  balance : (B : Bench) → Run T n m B → (schedule : List ℕ) → All (λ t. t < n) schedule
      → over store_step T B schedule + filled B.slots ≡ over find_step T B schedule + filled (played T B schedule).slots
  unfolding over played
  balance B r [] s = refl
  balance B r (t ∷ schedule) s =
      omega (arith, balance (step T B t) (run_step B t s.0 r) schedule s.1, filled_step T n m B r.slotted (run_room B r) t s.0)

  -- stores = finds + filled slots, after every schedule
  pub stores_finds : (schedule : List ℕ) → All (λ t. t < n) schedule
      → over store_step T (start T n m) schedule ≡ over find_step T (start T n m) schedule + filled (played T (start T n m) schedule).slots
  unfolding start
  stores_finds schedule s = omega (arith, balance (start T n m) (run_start T n m) schedule s, filled_none m)

finds_from : (T : Table) (B : Bench) (schedule : List ℕ) → length (played T B schedule).finds ≡ length B.finds + over find_step T B schedule
unfolding over played
finds_from T B [] = omega arith
finds_from T B (t ∷ schedule) = omega (arith, finds_from T (step T B t) schedule, finds_step T B t)

-- the count of finds is the number of finds
pub finds_count : (T : Table) (n m : ℕ) (schedule : List ℕ) → over find_step T (start T n m) schedule ≡ length (played T (start T n m) schedule).finds
unfolding start
finds_count T n m schedule = omega (arith, finds_from T (start T n m) schedule)

-- ---- what follows of one bench

module _ (T : Table) (n m : ℕ) (B : Bench) (r : Run T n m B) where
  pub workers_length : length B.workers ≡ n
  workers_length = r.working.size

  pub slots_length : length B.slots ≡ m
  slots_length = r.slotted.size

  -- no put reserves twice, and each is a called put of the table
  pub reservations_once : Pw (λ a b. a ≢ b) B.reservations
  reservations_once = r.slotted.once

  pub reservations_puts : All (λ p. (p < T.size) × (T.kind p ≡ putting) × Called B.history p) B.reservations
  reservations_puts = all_imp (λ p h. ((working_sound T n B.workers B.history r.working).small p h.1, h.0, h.1)) B.reservations r.slotted.puts

  -- no more reservations than puts
  pub back_most : (k : ℕ) → PutsAtMost T k → back B ≤ k
  back_most k most = back_low T n k B most r.working m r.slotted

  -- a filled slot was reserved, and holds its put's sample
  pub slot_held : (i : ℕ) (x : ℤ) → get_or B.slots i Empty ≡ Filled x → (i < back B) × (x ≡ T.sample (get_or B.reservations i 0))
  slot_held = r.slotted.held

  -- slots that nobody reserved are empty
  pub slot_empty : (i : ℕ) → back B ≤ i → get_or B.slots i Empty ≡ Empty
  slot_empty = slot_beyond T n m B.workers B.slots B.reservations B.history r.slotted

  pub finds_most : length B.finds ≤ back B
  finds_most = finds_low T B r.found r.within

  -- every event can stand, and there are at most two for each operation
  pub history_stands : Stands T B.history
  history_stands = r.working.stands

  -- each answer is one that a put or a take gives
  pub history_right : All (Right T) B.history
  history_right = r.working.right

  pub history_sound : Sound T B.history
  history_sound = working_sound T n B.workers B.history r.working

  pub history_length : length B.history ≤ 2 * T.size
  history_length = stands_length T B.history r.working.stands (working_sound T n B.workers B.history r.working)

  -- of a thread
  module _ (t : ℕ) (lt : t < n) where
    -- where it stands among its operations
    pub thread_place : PlaceOf T B.history t (worker_at B t)
    thread_place = r.working.places t lt

    -- what it still has to do are its own operations
    pub thread_todo : All (λ o. (o < T.size) × (T.thread o ≡ t)) (worker_at B t).todo
    thread_todo = place_todo T B.history t (kind_at (worker_at B t).phase) (worker_at B t).current (worker_at B t).todo (r.working.places t lt)

    -- the operation that it works on
    pub thread_now : (k : Kind) → kind_at (worker_at B t).phase ≡ some k → Now T B.history t k (worker_at B t).current
    thread_now k e = working_now T n B.workers B.history r.working t lt k e

    -- its reserved slot is its own, and empty
    pub thread_reserved : (i : ℕ) → (worker_at B t).phase ≡ Reserved i
        → (i < back B) × (get_or B.reservations i 0 ≡ (worker_at B t).current) × (get_or B.slots i Empty ≡ Empty)
    thread_reserved i e = rw e at (r.slotted.fits t lt)

    -- its pass stands below its end, and that is no higher than the reservation count
    pub thread_scanning : (j b : ℕ) → (worker_at B t).phase ≡ Scanning j b → (j < b) × (b ≤ back B)
    thread_scanning j b e = rw e at (r.slotted.fits t lt)

-- for a table made of lists: the reservation count is at most the number of puts
pub back_puts : (thread kind : List ℕ) (sample : List ℤ) → length kind ≡ length thread → (n m : ℕ) (B : Bench) → Run (table_of thread kind sample) n m B → back B ≤ puts_in kind
back_puts thread kind sample same n m B r = back_most (table_of thread kind sample) n m B r (puts_in kind) (table_puts thread kind sample same)

-- and if it is no more than the slots, every run is as above
pub puts_fit : (thread kind : List ℕ) (sample : List ℤ) → length kind ≡ length thread → (m : ℕ) → puts_in kind ≤ m → PutsAtMost (table_of thread kind sample) m
puts_fit thread kind sample same m le l once puts = omega (arith, table_puts thread kind sample same l once puts)
