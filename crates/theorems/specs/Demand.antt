-- Demand 3, in terms of what a run writes: its history h, the records of its threads, the marks and samples of its slots, and the order that it lists
-- (document 01, 'History, order, and what a run writes'). Assumes nothing.
--   phase_in rs t  thread t's phase by its record
--   AtWork         operation o was called and has not returned, and its thread is in phase p
--   Listed         o has returned, or is a put that stored, or a take that found
--   Gets           take o returned x, or holds x
--   stays          the samples of the filled slots, from the lowest slot to the highest
--   Linearized     the claim
use Rattle.std.specs.Prelude.{◌≡◌, cond, ◌≢◌, ◌⊎◌, List, [], ◌∷◌, ℕ, eqb, ℤ, get_or}
use Rattle.std.proofs.Math.Option.{some}
use Rattle.limits.specs.Lists.{Mem, Pw}
use Rattle.limits.specs.Operations.{Table}
use Rattle.history.specs.History.{Event, ret, Returned, Precedes}
use Rattle.linear.specs.Conditions.{Plays}
use Rattle.linear.specs.Linear.{Pending, Linearizes}
use Rattle.machine.specs.declared.Phase.{Phase}
use Rattle.machine.specs.declared.Phase.TheVariants.{Rest, Stored, Holding}
use Rattle.machine.specs.declared.ThreadRecord.{ThreadRecord}

abbrev pub phase_in : List ThreadRecord → ℕ → Phase
phase_in rs t = (get_or rs t (record { phase = Rest })).phase

module _ (T : Table) (h : List Event) (rs : List ThreadRecord) where
  abbrev pub AtWork : ℕ → Phase → Type 0
  AtWork o p = Pending h o × (phase_in rs (T.thread o) ≡ p)

  abbrev pub Listed : ℕ → Type 0
  Listed o = Returned h o ⊎ (AtWork o Stored ⊎ ((x : ℤ) × AtWork o (Holding x)))

  abbrev pub Gets : ℕ → ℤ → Type 0
  Gets o x = Mem (ret o (some x)) h ⊎ AtWork o (Holding x)

abbrev pub stays : List ℕ → List ℤ → List ℤ
stays [] held = []
stays (m ∷ marks) [] = []
stays (m ∷ marks) (x ∷ held) = cond (eqb m 0) (stays marks held) (x ∷ stays marks held)

pub record Linearized (T : Table) (h : List Event) (rs : List ThreadRecord) (marks : List ℕ) (held : List ℤ) (order : List ℕ) : Type 0 where
  -- exactly these are listed, and each once
  pub only : (o : ℕ) → Mem o order → Listed T h rs o
  pub every : (o : ℕ) → Listed T h rs o → Mem o order
  pub once : Pw (λ a b. a ≢ b) order
  -- no later one precedes an earlier one
  pub kept : Pw (λ b a. ¬ Precedes h a b) order
  -- on a plain queue that starts empty each take gets what it got in the run, and what stays are the samples of the filled slots
  pub played : Plays T.kind T.sample (Gets T h rs) (λ q. q ≡ stays marks held) [] order
  -- so the order is a linearization of the history
  pub linear : Linearizes T h order
