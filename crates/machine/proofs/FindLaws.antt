-- Stores and finds in every run: a stored put is found once or owns a filled slot, and a take that found has what it found. Assumes nothing.
--   InPhase       operation o is at work in this phase
--   HasStored     put o has returned, or is stored and will return
--   Has           take o returned x, or holds it
--   Found         what links finds, slots, phases and history
use mathlib.Core.Path.{◌≡◌, refl, ap}
use mathlib.Core.Logic.{◌≢◌, ◌⊎◌, inl, inr}
use mathlib.Core.List.{List, [], ◌∷◌, ◌++◌}
use mathlib.Core.Option.{some}
use Prim.Native.Nat.{ℕ, zero, suc, ◌<◌}
use native.Mathlib.Omega.{arith}
use lib.IntN.{ℤ}
use lib.ListN.{length, get_or, set, replicate}
use lib.Seq.{get_or-set_same}
use Rattle.limits.specs.Lists.{All, Mem, Pw}
use Rattle.limits.specs.declared.Kind.TheVariants.{Put as putting, Take as taking}
use Rattle.limits.specs.Operations.{Table}
use Rattle.history.specs.History.{Event, ret, Called, Returned}
use Rattle.history.proofs.ListLaws.{clash, mem_left}
use Rattle.history.proofs.PrecedenceLists.{mem_snoc, mem_last, set_case}
use Rattle.history.proofs.PrecedenceLaws.{returned_left}
use Rattle.order.specs.Order.{found_puts}
use Rattle.machine.specs.declared.Phase.{Phase}
use Rattle.machine.specs.declared.Phase.TheVariants.{Rest, CalledPut, Reserved, Stored, CalledTake, Scanning, Holding}
use Rattle.machine.specs.Bench.{Slot, Empty, Filled, Worker, Bench, back, idler, resting, start}
use Rattle.machine.proofs.SlotLaws.{SlottedAt}

abbrev pub InPhase : Table → List Worker → ℕ → Phase → Type 0
InPhase T ws o p = ((get_or ws (T.thread o) idler).phase ≡ p) × ((get_or ws (T.thread o) idler).current ≡ o)

abbrev pub HasStored : Table → List Worker → List Event → ℕ → Type 0
HasStored T ws h o = Returned h o ⊎ InPhase T ws o Stored

abbrev pub Has : Table → List Worker → List Event → ℕ → ℤ → Type 0
Has T ws h o x = Mem (ret o (some x)) h ⊎ InPhase T ws o (Holding x)

-- put o owns a filled slot
pub record Waits (ss : List Slot) (rs : List ℕ) (o : ℕ) : Type 0 where
  pub slot : ℕ
  pub low : slot < length rs
  pub mine : get_or rs slot 0 ≡ o
  pub sample : ℤ
  pub filled : get_or ss slot Empty ≡ Filled sample

pub record Found (T : Table) (ws : List Worker) (ss : List Slot) (rs : List ℕ) (fs : List (ℕ × ℕ)) (h : List Event) : Type 0 where
  pub apart : Pw (λ e f. (e.0 ≢ f.0) × (e.1 ≢ f.1)) fs
  pub takes : All (λ e. (T.kind e.0 ≡ taking) × Called h e.0 × Has T ws h e.0 (T.sample e.1)) fs
  pub puts : All (λ e. (T.kind e.1 ≡ putting) × Called h e.1 × HasStored T ws h e.1) fs
  pub holds : (o : ℕ) (x : ℤ) → InPhase T ws o (Holding x) → (p : ℕ) × Mem (o, p) fs
  pub answers : (o : ℕ) → T.kind o ≡ taking → Returned h o → (p : ℕ) × Mem (o, p) fs
  pub unfound : (j : ℕ) (x : ℤ) → get_or ss j Empty ≡ Filled x → HasStored T ws h (get_or rs j 0) × (¬ Mem (get_or rs j 0) (found_puts fs))
  pub kept : (o : ℕ) → T.kind o ≡ putting → HasStored T ws h o → Mem o (found_puts fs) ⊎ Waits ss rs o

abbrev pub FoundAt : Table → Bench → Type 0
FoundAt T B = Found T B.workers B.slots B.reservations B.finds B.history

-- ---- the column of found puts

pub found_append : (fs gs : List (ℕ × ℕ)) → found_puts (fs ++ gs) ≡ found_puts fs ++ found_puts gs
found_append [] gs = refl
found_append (f ∷ fs) gs = ap (λ l. f.1 ∷ l) (found_append fs gs)

pub found_mem : (fs : List (ℕ × ℕ)) (e : ℕ × ℕ) → Mem e fs → Mem e.1 (found_puts fs)
found_mem [] e m = m
found_mem (f ∷ fs) e (inl q) = inl (ap (λ z. z.1) q)
found_mem (f ∷ fs) e (inr m) = inr (found_mem fs e m)

pub found_all : (P : ℕ → Type 0) (fs : List (ℕ × ℕ)) → All (λ e. P e.1) fs → All P (found_puts fs)
found_all P [] h = tt
found_all P (f ∷ fs) h = (h.0, found_all P fs h.1)

pub found_pw : (R : ℕ → ℕ → Type 0) (fs : List (ℕ × ℕ)) → Pw (λ e f. R e.1 f.1) fs → Pw R (found_puts fs)
found_pw R [] h = tt
found_pw R (f ∷ fs) h = (found_all (R f.1) fs h.0, found_pw R fs h.1)

pub found_more : (fs : List (ℕ × ℕ)) (e : ℕ × ℕ) (o : ℕ) → Mem o (found_puts fs) → Mem o (found_puts (fs ++ (e ∷ [])))
found_more fs e o m = rw (found_append fs (e ∷ [])) (mem_left (found_puts fs) (e.1 ∷ []) o m)

pub found_last : (fs : List (ℕ × ℕ)) (e : ℕ × ℕ) → Mem e.1 (found_puts (fs ++ (e ∷ [])))
found_last fs e = rw (found_append fs (e ∷ [])) (mem_last (found_puts fs) e.1)

pub found_snoc : (fs : List (ℕ × ℕ)) (e : ℕ × ℕ) (o : ℕ) → Mem o (found_puts (fs ++ (e ∷ []))) → Mem o (found_puts fs) ⊎ (o ≡ e.1)
found_snoc fs e o m = mem_snoc (found_puts fs) e.1 o (rw (found_append fs (e ∷ [])) at m)

-- ---- at the start

pub resting_phase : (T : Table) (t n q : ℕ) → (get_or (resting T t n) q idler).phase ≡ Rest
unfolding resting
resting_phase T t zero q = refl
resting_phase T t (suc n) zero = refl
resting_phase T t (suc n) (suc q) = resting_phase T (suc t) n q

pub found_start : (T : Table) (n m : ℕ) → SlottedAt T n m (start T n m) → FoundAt T (start T n m)
unfolding start
found_start T n m s = record {
  apart = tt;
  takes = tt;
  puts = tt;
  holds = λ o x p. clash (cc (resting_phase T 0 n (T.thread o), p.0));
  answers = λ o k r. absurd r;
  unfound = λ j x e. clash (omega (arith, (s.held j x e).0));
  kept = λ o k st. nothing o st;
}
  where
    nothing : (o : ℕ) → HasStored T (resting T 0 n) [] o → Mem o [] ⊎ Waits (replicate m Empty) [] o
    nothing o (inl r) = absurd r
    nothing o (inr p) = clash (cc (resting_phase T 0 n (T.thread o), p.0))

-- ---- a thread moves

-- phases in which nothing is stored or found
abbrev pub Quiet : Phase → Type 0
Quiet Rest = Unit {0}
Quiet CalledPut = Unit {0}
Quiet (Reserved i) = Unit {0}
Quiet Stored = ⊥
Quiet CalledTake = Unit {0}
Quiet (Scanning j b) = Unit {0}
Quiet (Holding x) = ⊥

module _ (T : Table) (ws : List Worker) (t : ℕ) (lt : t < length ws) (v : Worker) where
  -- an operation at work after thread t moved: it was at work, or it is t's
  pub in_phase_old : (o : ℕ) (p : Phase) → InPhase T (set ws t v) o p → InPhase T ws o p ⊎ ((T.thread o ≡ t) × (v.phase ≡ p) × (v.current ≡ o))
  in_phase_old o p = set_case ws t v idler (T.thread o) (λ z. (z.phase ≡ p) × (z.current ≡ o) → InPhase T ws o p ⊎ ((T.thread o ≡ t) × (v.phase ≡ p) × (v.current ≡ o))) lt
      (λ eq k. inr (eq, k.0, k.1)) (λ ne k. inl k)

  -- an operation at work before thread t moved: it still is, or it was t's
  pub in_phase_new : (o : ℕ) (p : Phase) → InPhase T ws o p → InPhase T (set ws t v) o p ⊎ ((T.thread o ≡ t) × ((get_or ws t idler).phase ≡ p) × ((get_or ws t idler).current ≡ o))
  in_phase_new o p k = set_case ws t v idler (T.thread o) (λ z. ((z.phase ≡ p) × (z.current ≡ o)) ⊎ ((T.thread o ≡ t) × ((get_or ws t idler).phase ≡ p) × ((get_or ws t idler).current ≡ o))) lt
      (λ eq. inr (eq, rw eq at k.0, rw eq at k.1)) (λ ne. inl k)

  pub in_phase_mine : (o : ℕ) → T.thread o ≡ t → v.current ≡ o → InPhase T (set ws t v) o v.phase
  in_phase_mine o own cur = rw (own, get_or-set_same ws t v idler lt) (refl, cur)

  module _ (h k : List Event) where
    -- what was stored stays so, if t's own stored put returns
    pub stored_new : ((get_or ws t idler).phase ≡ Stored → Returned (h ++ k) (get_or ws t idler).current) → (o : ℕ) → HasStored T ws h o → HasStored T (set ws t v) (h ++ k) o
    stored_new own o (inl r) = inl (returned_left h k o r)
    stored_new own o (inr p) = go (in_phase_new o Stored p)
      where
        go : InPhase T (set ws t v) o Stored ⊎ ((T.thread o ≡ t) × ((get_or ws t idler).phase ≡ Stored) × ((get_or ws t idler).current ≡ o)) → HasStored T (set ws t v) (h ++ k) o
        go (inl q) = inr q
        go (inr q) = inl (rw q.2 at (own q.1))

    -- what was found stays so, if t's own take returns it
    pub has_new : ((x : ℤ) → (get_or ws t idler).phase ≡ Holding x → Mem (ret (get_or ws t idler).current (some x)) (h ++ k))
        → (o : ℕ) (x : ℤ) → Has T ws h o x → Has T (set ws t v) (h ++ k) o x
    has_new own o x (inl r) = inl (mem_left h k (ret o (some x)) r)
    has_new own o x (inr p) = go (in_phase_new o (Holding x) p)
      where
        go : InPhase T (set ws t v) o (Holding x) ⊎ ((T.thread o ≡ t) × ((get_or ws t idler).phase ≡ Holding x) × ((get_or ws t idler).current ≡ o)) → Has T (set ws t v) (h ++ k) o x
        go (inl q) = inr q
        go (inr q) = inl (rw q.2 at (own x q.1))

    -- nothing else is stored, if t stores nothing
    pub stored_old : ¬ (v.phase ≡ Stored) → (o : ℕ) → (Returned (h ++ k) o → HasStored T ws h o) → HasStored T (set ws t v) (h ++ k) o → HasStored T ws h o
    stored_old not o back (inl r) = back r
    stored_old not o back (inr p) = go (in_phase_old o Stored p)
      where
        go : InPhase T ws o Stored ⊎ ((T.thread o ≡ t) × (v.phase ≡ Stored) × (v.current ≡ o)) → HasStored T ws h o
        go (inl q) = inr q
        go (inr q) = absurd (not q.1)

    -- nothing else is held, if t holds nothing
    pub holding_old : (o : ℕ) (x : ℤ) → ¬ (v.phase ≡ Holding x) → InPhase T (set ws t v) o (Holding x) → InPhase T ws o (Holding x)
    holding_old o x not p = go (in_phase_old o (Holding x) p)
      where
        go : InPhase T ws o (Holding x) ⊎ ((T.thread o ≡ t) × (v.phase ≡ Holding x) × (v.current ≡ o)) → InPhase T ws o (Holding x)
        go (inl q) = q
        go (inr q) = absurd (not q.1)
