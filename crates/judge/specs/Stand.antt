-- Which event of a history given by codes and samples can stand (document 01, refusal 10). Assumes nothing.
--   StandsAt T cs xs i   the event at position i, with the sample beside it, can stand after the events before it
use Rattle.std.specs.Prelude.{List, ℕ, ℤ, pos, get_or, take}
use Rattle.limits.specs.Operations.{Table}
use Rattle.history.specs.History.{event_of, events}
use Rattle.history.specs.Standing.{CanStand}

abbrev pub StandsAt : Table → List ℕ → List ℤ → ℕ → Type 0
StandsAt T cs xs i = CanStand T (take i (events T cs xs)) (event_of T (get_or cs i 0) (get_or xs i (pos 0))) (get_or xs i (pos 0))
