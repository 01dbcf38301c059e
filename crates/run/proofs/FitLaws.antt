-- What a run that is not refused has passed: tests 1 to 8 of its input, and 9, room in every lent list (document 01). Assumes nothing.
--   fit_passed   the input has passed 1 to 8
--   Rooms        no lent list is shorter than needed
--   ran_fit      an answer tells the refusal that its call gets, or that it gets none
--   ran_summary  what an accepted call answers
use Rattle.std.specs.Prelude.{Err, Ok, Result}
use Rattle.limits.specs.Refusals.{Fit}
use Rattle.limits.specs.declared.Refusal.{Refusal}
use mathlib.Core.Path.{◌≡◌, refl}
use mathlib.Core.Bool.{true, ◌&&◌}
use Prim.Native.Nat.{ℕ, ◌*◌, ◌≤◌}
use lib.Dec.{leb}
use lib.ListN.{length}
use borrow.Author.Tests.{leb-true}
use Rattle.limits.specs.declared.Refusal.TheVariants.{Room}
use Rattle.limits.specs.Operations.{Input}
use Rattle.limits.specs.Refusals.{input_refusal, unless, by_fit}
use Rattle.limits.proofs.FitLaws.{unless_pass, then_pass, both_true, fit_told}
use Rattle.limits.proofs.PassLaws.{Passed, input_passed}
use Rattle.history.proofs.ListLaws.{clash}
use Rattle.run.specs.Run.{Lists, has_room, run_fit}

pub record Rooms (i : Input) (l : Lists) (room : ℕ) : Type 0 where
  pub codes : 2 * length i.thread ≤ length l.codes
  pub samples : 2 * length i.thread ≤ length l.samples
  pub order : length i.thread ≤ length l.order
  pub marks : i.slots ≤ length l.marks
  pub held : i.slots ≤ length l.held
  pub records : i.threads ≤ room

module _ (i : Input) (l : Lists) (room : ℕ) (fits : run_fit i l room ≡ Ok tt) where
  parts : (input_refusal i ≡ Ok tt) × (has_room i l room ≡ true)
  unfolding run_fit
  parts =
      let k = then_pass (input_refusal i) (unless (has_room i l room) Room (Ok tt)) fits in
      (k.0, (unless_pass (has_room i l room) Room (Ok tt) k.1).0)

  pub fit_passed : Passed i
  fit_passed = input_passed i parts.0

  -- the six tests, the last one first
  pub fit_rooms : Rooms i l room
  fit_rooms =
      let a = leb (2 * length i.thread) (length l.codes) in
      let b = a && leb (2 * length i.thread) (length l.samples) in
      let c = b && leb (length i.thread) (length l.order) in
      let d = c && leb i.slots (length l.marks) in
      let e = d && leb i.slots (length l.held) in
      let pe = both_true e (leb i.threads room) parts.1 in
      let pd = both_true d (leb i.slots (length l.held)) pe.0 in
      let pc = both_true c (leb i.slots (length l.marks)) pd.0 in
      let pb = both_true b (leb (length i.thread) (length l.order)) pc.0 in
      let pa = both_true a (leb (2 * length i.thread) (length l.samples)) pb.0 in
      record {
        codes = leb-true (2 * length i.thread) (length l.codes) pa.0;
        samples = leb-true (2 * length i.thread) (length l.samples) pa.1;
        order = leb-true (length i.thread) (length l.order) pb.1;
        marks = leb-true i.slots (length l.marks) pc.1;
        held = leb-true i.slots (length l.held) pd.1;
        records = leb-true i.threads room pe.1;
      }

-- ---- an answer tells the fit that it was given by

module _ {A : Type 0} where
  abbrev pub fit_ran : Result A Refusal → Fit
  fit_ran (Ok s) = Ok tt
  fit_ran (Err x) = Err x

  pub ran_fit : {r : Result A Refusal} (a : A) (f : Fit) → r ≡ by_fit f (Ok a) Err → f ≡ fit_ran r
  ran_fit a f e = fit_told fit_ran Err refl (λ x. refl) f e

  pub ran_summary : {s : A} (a : A) (f : Fit) → Ok s ≡ by_fit f (Ok a) Err → s ≡ a
  ran_summary a (Ok u) e = cc
  ran_summary a (Err x) e = clash (cc)
