-- Events, histories and 'precedes' (document 01, 'History, order, and what a run writes'; source document 002, section 2.1). Assumes nothing.
-- A history is the list of its events, the oldest first.
--   Event            a call, or a return: a take's with the sample it got, a put's with none
--   Returned h o     operation o has returned
--   Precedes h a b   the return of a is earlier than the call of b
--   code_of, beside   the event's code, and the sample beside it
--   event_of, events  the events that codes and samples give
use Rattle.std.specs.Prelude.{◌≡◌, ◌⊎◌, List, [], ◌∷◌, cond, ℕ, ◌+◌, ◌*◌, ◌/◌, ◌%◌, eqb, ℤ, pos}
use Rattle.std.proofs.Math.Option.{Option, none, some}
use Rattle.limits.specs.declared.Kind.{Kind}
use Rattle.limits.specs.declared.Kind.TheVariants.{Put as putting, Take as taking}
use Rattle.limits.specs.Operations.{Table}

pub data Event : Type 0 where
  call : ℕ → Event
  ret : ℕ → Option ℤ → Event

abbrev pub Called : List Event → ℕ → Type 0
Called [] o = ⊥
Called (call p ∷ h) o = (o ≡ p) ⊎ Called h o
Called (ret p a ∷ h) o = Called h o

abbrev pub Returned : List Event → ℕ → Type 0
Returned [] o = ⊥
Returned (call p ∷ h) o = Returned h o
Returned (ret p a ∷ h) o = (o ≡ p) ⊎ Returned h o

abbrev pub Precedes : List Event → ℕ → ℕ → Type 0
Precedes [] a b = ⊥
Precedes (call c ∷ h) a b = Precedes h a b
Precedes (ret c v ∷ h) a b = ((a ≡ c) × Called h b) ⊎ Precedes h a b

-- ---- codes and samples: 2 × operation for a call, 2 × operation + 1 for a return; beside it what a returned take got, else 0

abbrev pub code_of : Event → ℕ
code_of (call o) = 2 * o
code_of (ret o a) = 2 * o + 1

abbrev pub beside : Event → ℤ
beside (call o) = pos 0
beside (ret o none) = pos 0
beside (ret o (some x)) = x

abbrev pub answer : Kind → ℤ → Option ℤ
answer putting x = none
answer taking x = some x

abbrev pub event_of : Table → ℕ → ℤ → Event
event_of T c x = cond (eqb (c % 2) 0) (call (c / 2)) (ret (c / 2) (answer (T.kind (c / 2)) x))

abbrev pub events : Table → List ℕ → List ℤ → List Event
events T [] xs = []
events T (c ∷ cs) [] = []
events T (c ∷ cs) (x ∷ xs) = event_of T c x ∷ events T cs xs
