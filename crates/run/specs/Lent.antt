-- The lists of numbers that a call is lent as one struct, in the words of Run.antt. Assumes nothing.
--   lists_in   what stands in them
--   SameLists  they are the lists that were lent still, not others in their place
use Rattle.std.specs.Prelude.{◌≡◌}
use Rattle.run.specs.declared.Lent.{Lent}
use Rattle.run.specs.Run.{Lists, lists_of}

abbrev pub lists_in : Lent → Lists
lists_in l = lists_of l.codes.now l.values.now l.order.now l.marks.now l.held.now

abbrev pub SameLists : Lent → Lent → Type 0
SameLists l m = (m.codes.ghost_name ≡ l.codes.ghost_name) × (m.values.ghost_name ≡ l.values.ghost_name) × (m.order.ghost_name ≡ l.order.ghost_name)
    × (m.marks.ghost_name ≡ l.marks.ghost_name) × (m.held.ghost_name ≡ l.held.ghost_name)
