-- The listed order of every run: its exact set, precedence kept, and its play on a plain queue (document 01, the listed order). Assumes nothing.
--   stays      the samples of the filled slots, from the lowest slot to the highest
--   Listed     which operations stand in the order: the returned ones, stored puts, takes that found
--   order_exact, order_kept, order_queue   the three parts, for the bench after every schedule
use mathlib.Core.Path.{◌≡◌, refl, ap}
use mathlib.Core.Logic.{◌≢◌, ◌⊎◌, inl, inr}
use mathlib.Core.List.{List, [], ◌∷◌, ◌++◌, map}
use mathlib.Core.Option.{Option, some}
use Prim.Native.Nat.{ℕ, zero, suc, ◌<◌}
use native.Mathlib.Decide.{dec_lt}
use native.Mathlib.Omega.{arith}
use lib.IntN.{ℤ}
use lib.ListN.{length, get_or, get_or-eq_default}
use Rattle.limits.specs.Lists.{All, Mem, Pw}
use Rattle.limits.specs.declared.Kind.{Kind}
use Rattle.limits.specs.declared.Kind.TheVariants.{Put as putting, Take as taking}
use Rattle.limits.specs.Operations.{Table}
use Rattle.history.specs.History.{Event, ret, Called, Returned, Precedes}
use Rattle.history.proofs.ListLaws.{clash, all_imp, all_imp₂, all_mem, all_of_mem, all_append, mem_left, mem_right, pw_append}
use Rattle.history.proofs.PrecedenceLists.{pw_map_to}
use Rattle.history.proofs.HistoryLaws.{mem_ret, once_ret}
use Rattle.order.specs.Order.{found_puts}
use Rattle.order.proofs.MergeOrderLaws.{takers, takers_mem, takers_all}
use Rattle.order.proofs.MergeRowsLaws.{Rows, order_keeps, order_once, order_put, order_take, order_only, Plays, order_plays}
use Rattle.machine.specs.declared.Phase.{Phase}
use Rattle.machine.specs.declared.Phase.TheVariants.{Stored, Holding}
use Rattle.machine.specs.Bench.{Slot, Empty, Filled, Bench, idler, start, played}
use Rattle.machine.specs.Shown.{unfound, order}
use Rattle.machine.proofs.WorkingLaws.{kind_at, Now, working_sound, working_now}
use Rattle.machine.proofs.FindLaws.{InPhase, HasStored, Has, Waits, found_all, found_pw}
use Rattle.machine.proofs.CountLaws.{PutsAtMost}
use Rattle.machine.proofs.RunLaws.{Run, run_played}
use Rattle.machine.proofs.ChainLaws.{OrderedAt, ordered_played}

abbrev pub stays : List Slot → List ℤ
stays [] = []
stays (Empty ∷ ss) = stays ss
stays (Filled x ∷ ss) = x ∷ stays ss

-- operation o stands in the listed order: it has returned; it is a put in phase 3; it is a take in phase 6
abbrev pub Listed : Table → Bench → ℕ → Type 0
Listed T B o = Returned B.history o ⊎ (InPhase T B.workers o Stored ⊎ ((x : ℤ) × InPhase T B.workers o (Holding x)))

-- what take o got in the run: what it returned, or what it holds
abbrev pub Gets : Table → Bench → ℕ → ℤ → Type 0
Gets T B o x = Has T B.workers B.history o x

-- ---- the stored puts that nobody found

unfound_all : (P : ℕ → Type 0) (rs : List ℕ) (ss : List Slot) → All P rs → All P (unfound rs ss)
unfolding unfound
unfound_all P [] ss h = tt
unfound_all P (p ∷ rs) [] h = tt
unfound_all P (p ∷ rs) (Empty ∷ ss) h = unfound_all P rs ss h.1
unfound_all P (p ∷ rs) (Filled x ∷ ss) h = (h.0, unfound_all P rs ss h.1)

unfound_pw : (R : ℕ → ℕ → Type 0) (rs : List ℕ) (ss : List Slot) → Pw R rs → Pw R (unfound rs ss)
unfolding unfound
unfound_pw R [] ss h = tt
unfound_pw R (p ∷ rs) [] h = tt
unfound_pw R (p ∷ rs) (Empty ∷ ss) h = unfound_pw R rs ss h.1
unfound_pw R (p ∷ rs) (Filled x ∷ ss) h = (unfound_all (R p) rs ss h.0, unfound_pw R rs ss h.1)

waits_next : (z : Slot) (ss : List Slot) (p : ℕ) (rs : List ℕ) (o : ℕ) → Waits ss rs o → Waits (z ∷ ss) (p ∷ rs) o
waits_next z ss p rs o a = record { slot = suc a.slot; low = omega (arith, a.low); mine = a.mine; sample = a.sample; filled = a.filled }

unfound_waits : (rs : List ℕ) (ss : List Slot) → All (λ o. Waits ss rs o) (unfound rs ss)
unfolding unfound
unfound_waits [] ss = tt
unfound_waits (p ∷ rs) [] = tt
unfound_waits (p ∷ rs) (Empty ∷ ss) = all_imp (λ o a. waits_next Empty ss p rs o a) (unfound rs ss) (unfound_waits rs ss)
unfound_waits (p ∷ rs) (Filled x ∷ ss) =
    (record { slot = 0; low = omega arith; mine = refl; sample = x; filled = refl }, all_imp (λ o a. waits_next (Filled x) ss p rs o a) (unfound rs ss) (unfound_waits rs ss))

unfound_in : (rs : List ℕ) (ss : List Slot) (j : ℕ) (x : ℤ) → j < length rs → get_or ss j Empty ≡ Filled x → Mem (get_or rs j 0) (unfound rs ss)
unfolding unfound
unfound_in [] ss j x lt e = clash (omega arith)
unfound_in (p ∷ rs) [] j x lt e = clash (cc)
unfound_in (p ∷ rs) (Empty ∷ ss) zero x lt e = clash (cc)
unfound_in (p ∷ rs) (Filled y ∷ ss) zero x lt e = inl refl
unfound_in (p ∷ rs) (Empty ∷ ss) (suc j) x lt e = unfound_in rs ss j x (omega arith) e
unfound_in (p ∷ rs) (Filled y ∷ ss) (suc j) x lt e = inr (unfound_in rs ss j x (omega arith) e)

-- their samples are those of the filled slots
unfound_stays : (T : Table) (rs : List ℕ) (ss : List Slot) → ((j : ℕ) (x : ℤ) → get_or ss j Empty ≡ Filled x → (j < length rs) × (x ≡ T.sample (get_or rs j 0)))
    → map T.sample (unfound rs ss) ≡ stays ss
unfolding unfound
unfound_stays T [] [] f = refl
unfound_stays T [] (Empty ∷ ss) f = unfound_stays T [] ss (λ j x e. clash (omega (arith, (f (suc j) x e).0)))
unfound_stays T [] (Filled y ∷ ss) f = clash (omega (arith, (f 0 y refl).0))
unfound_stays T (p ∷ rs) [] f = refl
unfound_stays T (p ∷ rs) (Empty ∷ ss) f = unfound_stays T rs ss (λ j x e. (omega (arith, (f (suc j) x e).0), (f (suc j) x e).1))
unfound_stays T (p ∷ rs) (Filled y ∷ ss) f =
    let same : y ≡ T.sample p = (f 0 y refl).1 in
    let rest = unfound_stays T rs ss (λ j x e. (omega (arith, (f (suc j) x e).0), (f (suc j) x e).1)) in
    cc

module _ (T : Table) (n m : ℕ) (B : Bench) (r : Run T n m B) (o : OrderedAt T n B) where
  abbrev h : List Event
  h = B.history

  abbrev fs : List (ℕ × ℕ)
  fs = B.finds

  abbrev others : List ℕ
  others = unfound B.reservations B.slots

  abbrev row : List ℕ
  row = found_puts fs ++ others

  -- each of the other puts is stored and was not found
  others_stored : All (λ p. HasStored T B.workers h p × (¬ Mem p (found_puts fs))) others
  others_stored = all_imp stored others (unfound_waits B.reservations B.slots)
    where
      stored : (p : ℕ) → Waits B.slots B.reservations p → HasStored T B.workers h p × (¬ Mem p (found_puts fs))
      stored p a = rw a.mine at (r.found.unfound a.slot a.sample a.filled)

  others_puts : All (λ p. (T.kind p ≡ putting) × Called h p) others
  others_puts = unfound_all (λ p. (T.kind p ≡ putting) × Called h p) B.reservations B.slots r.slotted.puts

  row_puts : All (λ p. (T.kind p ≡ putting) × Called h p × HasStored T B.workers h p) row
  row_puts = all_append (λ p. (T.kind p ≡ putting) × Called h p × HasStored T B.workers h p) (found_puts fs) others
      (found_all (λ p. (T.kind p ≡ putting) × Called h p × HasStored T B.workers h p) fs r.found.puts)
      (all_imp₂ (λ p k l. (k.0, k.1, l.0)) others others_puts others_stored)

  -- an unfound put precedes no found one: whatever precedes a found put was found
  not_before : All (λ p. All (λ z. ¬ Precedes h z p) others) (found_puts fs)
  not_before = found_all (λ p. All (λ z. ¬ Precedes h z p) others) fs
      (all_imp (λ e k. all_imp₂ (λ z a b p. b.1 (k z a.0 p)) others others_puts others_stored) fs o.closed)

  not_same : All (λ p. All (λ z. p ≢ z) others) (found_puts fs)
  not_same = all_of_mem (λ p. All (λ z. p ≢ z) others) (found_puts fs) (λ p mm. all_imp (λ z b e. b.1 (rw e at mm)) others others_stored)

  -- what the merge asks of the two rows
  pub run_rows : Rows h fs others
  run_rows = record {
    irr = (working_sound T n B.workers h r.working).irr;
    put_put = pw_append (λ p q. ¬ Precedes h q p) (found_puts fs) others (found_pw (λ p q. ¬ Precedes h q p) fs o.put_put)
        (unfound_pw (λ p q. ¬ Precedes h q p) B.reservations B.slots o.reserved) not_before;
    take_take = o.take_take;
    take_own = o.take_own;
    take_put = o.take_put;
    puts_once = pw_append (λ p q. p ≢ q) (found_puts fs) others (found_pw (λ p q. p ≢ q) fs (pw_map_to (λ d e k. k.1) fs r.found.apart))
        (unfound_pw (λ p q. p ≢ q) B.reservations B.slots r.slotted.once) not_same;
    takes_once = pw_map_to (λ d e k. k.0) fs r.found.apart;
    apart = all_imp (λ p k. all_imp (λ e l q. clash (cc (k.0, l.0, q))) fs r.found.takes) row row_puts;
  }

  -- ---- the exact set

  from_put : (p : ℕ) → HasStored T B.workers h p → Listed T B p
  from_put p (inl k) = inl k
  from_put p (inr k) = inr (inl k)

  from_take : (p : ℕ) (x : ℤ) → Has T B.workers h p x → Listed T B p
  from_take p x (inl k) = inl (mem_ret h p (some x) k)
  from_take p x (inr k) = inr (inr (x, k))

  pub listed_only : (p : ℕ) → Mem p (order B) → Listed T B p
  listed_only p mm = go (order_only h fs others p mm)
    where
      go : Mem p row ⊎ Mem p (takers fs) → Listed T B p
      go (inl k) = from_put p (all_mem (λ q. (T.kind q ≡ putting) × Called h q × HasStored T B.workers h q) row row_puts p k).2
      go (inr k) = all_mem (λ q. Listed T B q) (takers fs) (takers_all (λ q. Listed T B q) fs (all_imp (λ e l. from_take e.0 (T.sample e.1) l.2) fs r.found.takes)) p k

  stored_listed : (p : ℕ) → T.kind p ≡ putting → HasStored T B.workers h p → Mem p (order B)
  stored_listed p kd st = go (r.found.kept p kd st)
    where
      go : Mem p (found_puts fs) ⊎ Waits B.slots B.reservations p → Mem p (order B)
      go (inl k) = order_put h fs others p (mem_left (found_puts fs) others p k)
      go (inr a) = order_put h fs others p (mem_right (found_puts fs) others p (rw a.mine at (unfound_in B.reservations B.slots a.slot a.sample a.low a.filled)))

  take_listed : (p : ℕ) → (q : ℕ) × Mem (p, q) fs → Mem p (order B)
  take_listed p k = order_take h fs others p (takers_mem fs (p, k.0) k.1)

  -- an operation at work is the one that its thread called and has not returned
  pub in_phase_now : (p : ℕ) (q : Phase) (k : Kind) → kind_at q ≡ some k → InPhase T B.workers p q → Now T h (T.thread p) k p
  in_phase_now p q k e a = go (dec_lt (T.thread p) n)
    where
      go : Dec (T.thread p < n) → Now T h (T.thread p) k p
      go (yes lt) = rw a.1 at (working_now T n B.workers h r.working (T.thread p) lt k (rw a.0 e))
      go (no ge) = clash (cc (ap (λ w. kind_at w.phase) (get_or-eq_default B.workers idler {n = T.thread p} (omega (arith, r.working.size))), a.0))

  pub listed_all : (p : ℕ) → Listed T B p → Mem p (order B)
  listed_all p (inl k) = go (T.kind p) refl
    where
      go : (kd : Kind) → T.kind p ≡ kd → Mem p (order B)
      go putting e = stored_listed p e (inl k)
      go taking e = take_listed p (r.found.answers p e k)
  listed_all p (inr (inl k)) = stored_listed p (in_phase_now p Stored putting refl k).kind (inr k)
  listed_all p (inr (inr k)) = take_listed p (r.found.holds p k.0 k.1)

  -- every listed operation was called
  pub listed_called : All (λ p. Called h p) (order B)
  listed_called = all_of_mem (λ p. Called h p) (order B) (λ p mm. go p (order_only h fs others p mm))
    where
      go : (p : ℕ) → Mem p row ⊎ Mem p (takers fs) → Called h p
      go p (inl k) = (all_mem (λ q. (T.kind q ≡ putting) × Called h q × HasStored T B.workers h q) row row_puts p k).1
      go p (inr k) = all_mem (λ q. Called h q) (takers fs) (takers_all (λ q. Called h q) fs (all_imp (λ e l. l.1) fs r.found.takes)) p k

  -- ---- order kept

  pub run_once : Pw (λ a b. a ≢ b) (order B)
  run_once = order_once h fs others run_rows

  pub run_keeps : Pw (λ a b. ¬ Precedes h b a) (order B)
  run_keeps = order_keeps h fs others run_rows

  -- ---- the plain queue

  -- a take that got x returned nothing else: an operation returns once, and what is held is not returned yet
  pub gets_one : (p : ℕ) (x : ℤ) → Gets T B p x → (a : Option ℤ) → Mem (ret p a) h → a ≡ some x
  gets_one p x (inl k) a mm = once_ret h (working_sound T n B.workers h r.working).apart p a (some x) mm k
  gets_one p x (inr k) a mm = absurd ((in_phase_now p (Holding x) taking refl k).unreturned (mem_ret h p a mm))

  pub run_plays : Plays T (Gets T B) [] (order B) (stays B.slots)
  run_plays = rw (unfound_stays T B.reservations B.slots r.slotted.held) at
      (order_plays T (Gets T B) h fs others (all_imp (λ p k. k.0) row row_puts) (all_imp (λ e k. (k.0, k.2)) fs r.found.takes))

-- ---- after every schedule

module _ (T : Table) (n m : ℕ) (most : PutsAtMost T m) (schedule : List ℕ) (fit : All (λ t. t < n) schedule) where
  abbrev after : Bench
  after = played T (start T n m) schedule

  -- the order lists the returned operations, the stored puts and the takes that found, and nothing else
  pub order_exact : (o : ℕ) → (Mem o (order after) → Listed T after o) × (Listed T after o → Mem o (order after))
  order_exact o = (
    listed_only T n m after (run_played T n m most schedule fit) (ordered_played T n m most schedule fit) o,
    listed_all T n m after (run_played T n m most schedule fit) (ordered_played T n m most schedule fit) o,
  )

  -- and none twice
  pub order_single : Pw (λ a b. a ≢ b) (order after)
  order_single = run_once T n m after (run_played T n m most schedule fit) (ordered_played T n m most schedule fit)

  -- no later operation precedes an earlier one
  pub order_kept : Pw (λ a b. ¬ Precedes after.history b a) (order after)
  order_kept = run_keeps T n m after (run_played T n m most schedule fit) (ordered_played T n m most schedule fit)

  -- on a plain queue that starts empty each take gets what it got in the run, and the samples of the filled slots stay, by rising slot
  pub order_queue : Plays T (Gets T after) [] (order after) (stays after.slots)
  order_queue = run_plays T n m after (run_played T n m most schedule fit) (ordered_played T n m most schedule fit)
