-- When an event can stand in a history (document 01, refusal 10). Assumes nothing.
--   CanStand T old e x   the event e, with sample x beside it, can stand after the events `old`
--   Stands T h           each event of h can stand where it does, with the sample that belongs beside it
use Rattle.std.specs.Prelude.{◌≡◌, List, [], ◌∷◌, ◌++◌, ℕ, ◌<◌, ℤ, pos}
use Rattle.limits.specs.declared.Kind.TheVariants.{Put as putting}
use Rattle.limits.specs.Operations.{Table}
use Rattle.history.specs.History.{Event, call, ret, Called, Returned, beside}

-- not if the operation number is too high;
-- not if it calls an operation already called, or one whose thread has an earlier operation not yet returned;
-- not if it returns one not called or already returned;
-- not if it has a sample other than 0 at a call or a put's return
abbrev pub CanStand : Table → List Event → Event → ℤ → Type 0
CanStand T old (call o) x = (o < T.size) × (¬ Called old o) × ((p : ℕ) → p < o → T.thread p ≡ T.thread o → Returned old p) × (x ≡ pos 0)
CanStand T old (ret o a) x = (o < T.size) × Called old o × (¬ Returned old o) × (T.kind o ≡ putting → x ≡ pos 0)

-- after the events `old`
abbrev pub StandsAfter : Table → List Event → List Event → Type 0
StandsAfter T old [] = Unit {0}
StandsAfter T old (e ∷ h) = CanStand T old e (beside e) × StandsAfter T (old ++ (e ∷ [])) h

abbrev pub Stands : Table → List Event → Type 0
Stands T h = StandsAfter T [] h
