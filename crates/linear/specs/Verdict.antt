-- The verdict on a proposed order (document 01, 'The judge'). Assumes nothing.
--   unless_so  the fault, unless the order is free of it
--   verdict    0, or the first of the five that holds of the whole order
use Rattle.std.specs.Prelude.{List, ℕ}
use Rattle.limits.specs.Operations.{Table}
use Rattle.history.specs.History.{Event}
use Rattle.linear.specs.declared.Verdict.{Verdict}
use Rattle.linear.specs.declared.Verdict.TheVariants.{Linear, NoOperation, Uncalled, Missing, Turned, Unplayable}
use Rattle.linear.specs.Decide.{not20?, not21?, not22?, not23?, not24?}

abbrev pub unless_so : {P : Type 0} → Dec P → Verdict → Verdict → Verdict
unless_so (yes _) fault rest = rest
unless_so (no _) fault rest = fault

unfoldable pub verdict : Table → List Event → List ℕ → Verdict
verdict T h l =
    unless_so (not20? T l) NoOperation
    (unless_so (not21? h l) Uncalled
    (unless_so (not22? h l) Missing
    (unless_so (not23? h l) Turned
    (unless_so (not24? T h l) Unplayable
    Linear))))
