-- What is at work on a bench shows in what a run writes: an operation that was called and has not returned is the one its thread works on, and the
-- thread's record has its phase. So the operations listed, what each take gets and what stays can be told from what was written. Assumes nothing.
use mathlib.Core.Path.{◌≡◌, refl, sym, ap, ◌∙◌}
use mathlib.Core.Logic.{◌⊎◌, inl, inr}
use mathlib.Core.List.{List, [], ◌∷◌, map}
use mathlib.Core.Option.{some}
use Prim.Native.Nat.{ℕ, zero, suc, ◌<◌}
use native.Mathlib.Decide.{dec_lt}
use native.Mathlib.Omega.{arith}
use lib.IntN.{ℤ}
use lib.ListN.{length, get_or, get_or-eq_default}
use Rattle.limits.specs.declared.Kind.{Kind}
use Rattle.limits.specs.declared.Kind.TheVariants.{Put as putting, Take as taking}
use Rattle.limits.specs.Operations.{Table}
use Rattle.history.specs.History.{Returned}
use Rattle.history.proofs.ListLaws.{clash}
use Rattle.linear.specs.Linear.{Pending}
use Rattle.machine.specs.declared.Phase.{Phase}
use Rattle.machine.specs.declared.Phase.TheVariants.{Stored, Holding}
use Rattle.machine.specs.Bench.{Slot, Empty, Filled, Worker, Bench, idler}
use Rattle.machine.specs.Shown.{mark, held, records}
use Rattle.machine.specs.StepCounts.{filled}
use Rattle.machine.proofs.WorkingLaws.{kind_at, AtWork as IsIt, Place}
use Rattle.machine.proofs.FindLaws.{InPhase}
use Rattle.machine.proofs.RunLaws.{Run}
use Rattle.machine.proofs.ChainLaws.{OrderedAt}
use Rattle.machine.proofs.DemandLaws as bench
use Rattle.theorems.specs.Demand.{phase_in, AtWork, Listed, Gets, stays}

-- a record shows its thread's phase; where there is no thread, both are at rest
phase_shown : (ws : List Worker) (t : ℕ) → phase_in (map (λ (w : Worker). record { phase = w.phase }) ws) t ≡ (get_or ws t idler).phase
phase_shown [] t = refl
phase_shown (w ∷ ws) zero = refl
phase_shown (w ∷ ws) (suc t) = phase_shown ws t

-- an empty slot has mark 0, any other mark 1 and its sample beside it
pub stays_shown : (ss : List Slot) → bench.stays ss ≡ stays (map mark ss) (map held ss)
stays_shown [] = refl
stays_shown (Empty ∷ ss) = stays_shown ss
stays_shown (Filled x ∷ ss) = ap (λ l. x ∷ l) (stays_shown ss)

-- as many samples stay as slots are filled
pub filled_shown : (ss : List Slot) → filled ss ≡ length (stays (map mark ss) (map held ss))
unfolding filled
filled_shown [] = refl
filled_shown (Empty ∷ ss) = omega (arith, filled_shown ss)
filled_shown (Filled x ∷ ss) = omega (arith, filled_shown ss)

module _ (T : Table) (n m : ℕ) (B : Bench) (r : Run T n m B) (i : OrderedAt T n B) where
  -- an operation at work is pending
  shows : (o : ℕ) (p : Phase) (k : Kind) → kind_at p ≡ some k → InPhase T B.workers o p → AtWork T B.history (records B) o p
  shows o p k e a = let now = bench.in_phase_now T n m B r i o p k e a in ((now.called, now.unreturned), phase_shown B.workers (T.thread o) ∙ a.0)

  -- of a thread's operations those before its place have returned or are at work, those after it were not called
  current : (o : ℕ) (k : Kind) → Pending B.history o → T.thread o < n → kind_at (get_or B.workers (T.thread o) idler).phase ≡ some k
      → (get_or B.workers (T.thread o) idler).current ≡ o
  current o k pending lt e = go (dec_lt o place.from)
    where
      place : Place T B.history (T.thread o) (some k) (get_or B.workers (T.thread o) idler).current (get_or B.workers (T.thread o) idler).todo
      place = rw e at (r.working.places (T.thread o) lt)

      past : Returned B.history o ⊎ IsIt (some k) (get_or B.workers (T.thread o) idler).current o → (get_or B.workers (T.thread o) idler).current ≡ o
      past (inl q) = absurd (pending.1 q)
      past (inr q) = sym q

      go : Dec (o < place.from) → (get_or B.workers (T.thread o) idler).current ≡ o
      go (yes less) = past (place.past o less refl)
      go (no more) = absurd (place.future o (omega arith) refl pending.0)

  -- a pending operation whose thread is in phase p is the one it works on
  works : (o : ℕ) (p : Phase) (k : Kind) → kind_at p ≡ some k → AtWork T B.history (records B) o p → InPhase T B.workers o p
  works o p k e a = go (dec_lt (T.thread o) n)
    where
      in_p : (get_or B.workers (T.thread o) idler).phase ≡ p
      in_p = sym (phase_shown B.workers (T.thread o)) ∙ a.1

      go : Dec (T.thread o < n) → InPhase T B.workers o p
      go (yes lt) = (in_p, current o k a.0 lt (ap kind_at in_p ∙ e))
      go (no ge) = clash (cc (ap (λ w. kind_at w.phase) (get_or-eq_default B.workers idler {n = T.thread o} (omega (arith, r.working.size))), in_p, e))

  pub listed_shown : (o : ℕ) → bench.Listed T B o → Listed T B.history (records B) o
  listed_shown o (inl q) = inl q
  listed_shown o (inr (inl a)) = inr (inl (shows o Stored putting refl a))
  listed_shown o (inr (inr a)) = inr (inr (a.0, shows o (Holding a.0) taking refl a.1))

  pub shown_listed : (o : ℕ) → Listed T B.history (records B) o → bench.Listed T B o
  shown_listed o (inl q) = inl q
  shown_listed o (inr (inl a)) = inr (inl (works o Stored putting refl a))
  shown_listed o (inr (inr a)) = inr (inr (a.0, works o (Holding a.0) taking refl a.1))

  pub gets_shown : (o : ℕ) (x : ℤ) → bench.Gets T B o x → Gets T B.history (records B) o x
  gets_shown o x (inl q) = inl q
  gets_shown o x (inr a) = inr (shows o (Holding x) taking refl a)
