-- What `run_core` leaves in the five lent lists is what a run is to leave there, and two results of it that meet its statement are the same. Assumes nothing.
--   lists_same   lists whose five parts are the same are the same
--   core_only    two results of the core are the same
use Rattle.std.specs.Prelude.{Result}
use mathlib.Core.Path.{◌≡◌, sym, ◌∙◌}
use Prim.Native.Nat.{ℕ}
use Rattle.limits.specs.declared.Refusal.{Refusal}
use Rattle.limits.specs.Operations.{Input}
use Rattle.run.specs.declared.Ran.{Ran}
use Rattle.run.specs.Run.{Lists}
use Rattle.run.specs.Core.{RunSays}

pub lists_same : {l m : Lists} → l.codes ≡ m.codes → l.samples ≡ m.samples → l.order ≡ m.order → l.marks ≡ m.marks → l.held ≡ m.held → l ≡ m
lists_same cs vs os ms hs j = record { codes = cs j; samples = vs j; order = os j; marks = ms j; held = hs j }

-- what the core answers, with the five lists as it leaves them
pub record CoreResult : Type 0 where
  pub answer : Result Ran Refusal
  pub lists : Lists

module _ (i : Input) (l : Lists) (room : ℕ) where
  abbrev pub Says : CoreResult → Type 0
  Says x = RunSays i l x.lists room x.answer

  -- each part is told by an equation whose right side knows only what went in
  pub core_only : (x y : CoreResult) → Says x → Says y → x ≡ y
  core_only x y a b j = record { answer = (a.answer ∙ sym b.answer) j; lists = (a.lists ∙ sym b.lists) j }
