-- Laws of the twins: a schedule is played step by step, and a step raises each count by one at most. Assumes nothing.
use Rattle.std.proofs.Common.{◌≡◌, ℕ, suc, ◌+◌, ◌-◌, ◌≤◌, ◌<◌, Bool, true, false, cond, List, [], length, get_or, drop, refl, sym, ap, ◌∙◌, subst, add-one, drop-cons, arith}
use Rattle.std.specs.Prelude.{ltb, eqb, ℤ, pos, Ok, Option, Some, None}
use lib.ListN.{drop_of_length-le}
use lib.Seq.{drop-length}
use borrow.Author.Tests.{ltb-true}
use Rattle.limits.specs.Operations.{Input}
use Rattle.limits.specs.Refusals.{input_refusal}
use Rattle.limits.proofs.PassLaws.{input_passed, fit_thread}
use Rattle.stepping.specs.declared.Doing.{Doing}
use Rattle.stepping.specs.declared.Doing.TheVariants.{Rest, CalledPut, Reserved, Stored, CalledTake, Scanning, Holding}
use Rattle.stepping.specs.declared.State.{State}
use Rattle.stepping.specs.Twins.{Playable, start_state, Within, acted, World, step_world, run_world, resting, moved_of, called, reserved, passed, swapped, swap_more, owned_by, found_at, fruitless_more}
use Rattle.stepping.specs.PlanTwin.{plan_one, plan_from}

-- ---- a schedule's steps, one at a time

module _ (kind : List ℕ) (sample : List ℤ) (next : List (Option ℕ)) where
  pub run_step : (w : World) (schedule : List ℕ) (i : ℕ) → i < length schedule
      → run_world kind sample next (step_world kind sample next w (get_or schedule i 0)) (drop (i + 1) schedule) ≡ run_world kind sample next w (drop i schedule)
  unfolding run_world
  run_step w schedule i lt = rw (add-one, drop-cons schedule i 0 lt)

  pub run_end : (w : World) (schedule : List ℕ) (i : ℕ) → length schedule ≤ i → run_world kind sample next w (drop i schedule) ≡ w
  unfolding run_world
  run_end w schedule i le = rw (drop_of_length-le schedule le)

-- ---- a step raises each count by one at most, and the reservation count never above 64

module _ (n : ℕ) (w : World) (h : Within n w.state.counts) where
  called_within : (kind : List ℕ) (o : Option ℕ) → Within (n + 1) (called kind w o).world.state.counts
  unfolding called
  called_within kind None = omega arith
  called_within kind (Some o) = omega arith

  reserved_within : (o : ℕ) → Within (n + 1) (reserved w.state o).state.counts
  unfolding reserved
  reserved_within o = go (ltb w.state.counts.back 64) refl
    where
      go : (b : Bool) → ltb w.state.counts.back 64 ≡ b → Within (n + 1) (cond b (moved_of (owned_by w.state o) (Reserved w.state.counts.back o)) (moved_of w.state (CalledPut o))).state.counts
      go true e = let lt : w.state.counts.back < 64 = ltb-true w.state.counts.back 64 e in omega arith
      go false e = omega arith

  swapped_within : (sample : List ℤ) (j b o : ℕ) → Within (n + 1) (swapped sample w.state j b o).state.counts
  unfolding swapped passed
  swapped_within sample j b o = go (eqb (get_or w.state.marks j 0) 0) (ltb (j + 1) b) _
    where
      go : (x y : Bool) (d : Doing) → Within (n + 1) (cond x (cond y (moved_of (swap_more w.state) (Scanning (j + 1) b o)) (moved_of (fruitless_more (swap_more w.state)) (CalledTake o)))
          (moved_of (found_at w.state j o) d)).state.counts
      go true true d = omega arith
      go true false d = omega arith
      go false y d = omega arith

  acted_within : (kind : List ℕ) (sample : List ℤ) (next : List (Option ℕ)) (p : Doing) → Within (n + 1) (acted kind sample next w p).world.state.counts
  unfolding acted
  acted_within kind sample next (Rest o) = called_within kind o
  acted_within kind sample next (CalledPut o) = reserved_within o
  acted_within kind sample next (Reserved slot o) = omega arith
  acted_within kind sample next (Stored o) = omega arith
  acted_within kind sample next (CalledTake o) = omega arith
  acted_within kind sample next (Scanning slot end o) = swapped_within sample slot end o
  acted_within kind sample next (Holding o x) = omega arith

  pub step_within : (kind : List ℕ) (sample : List ℤ) (next : List (Option ℕ)) (t : ℕ) → Within (n + 1) (step_world kind sample next w t).state.counts
  unfolding step_world
  step_within kind sample next t = acted_within kind sample next (get_or w.state.threads t resting)

-- ---- the plan, one operation more in front

pub plan_next : (thread : List ℕ) (o : ℕ) → 0 < o → o ≤ length thread → plan_one (plan_from o (drop o thread)) (get_or thread (o - 1) 0) (o - 1) ≡ plan_from (o - 1) (drop (o - 1) thread)
unfolding plan_from
plan_next thread o low le =
    let lt : o - 1 < length thread = omega arith in
    let s : suc (o - 1) ≡ o = omega arith in
    sym (ap (plan_from (o - 1)) (drop-cons thread (o - 1) 0 lt) ∙ ap (λ (k : ℕ). plan_one (plan_from k (drop k thread)) (get_or thread (o - 1) 0) (o - 1)) s)

pub plan_end : (thread : List ℕ) → plan_from (length thread) [] ≡ plan_from (length thread) (drop (length thread) thread)
plan_end thread = rw (drop-length thread)

-- ---- the whole

-- what passes 1 to 8 can be played
pub playable : (i : Input) → input_refusal i ≡ Ok tt → Playable i.thread i.schedule
playable i e =
    let p = input_passed i e in
    record {
      few = p.few;
      owned = λ k lt. omega (arith, p.threads_most, fit_thread i.threads (get_or i.thread k 0) (get_or i.kind k 0) (get_or i.sample k (pos 0)) (p.fit k lt));
      short = p.short;
      named = λ k lt. omega (arith, p.threads_most, p.named k lt);
    }

-- at the start nothing is counted
pub start_within : (s : State) (first : List (Option ℕ)) → s ≡ start_state first → Within 0 s.counts
unfolding start_state
start_within s first e = subst (λ (x : State). Within 0 x.counts) (sym e) (omega arith)
