-- The lists that the reader is lent as one struct. Assumes nothing.
--   SameLists  they are the lists that were lent still, not others in their place
use Rattle.std.specs.Prelude.{◌≡◌}
use Rattle.reader.specs.declared.Lent.{Lent}

abbrev pub SameLists : Lent → Lent → Type 0
SameLists l m = (m.thread.ghost_name ≡ l.thread.ghost_name) × (m.kind.ghost_name ≡ l.kind.ghost_name) × (m.sample.ghost_name ≡ l.sample.ghost_name)
    × (m.schedule.ghost_name ≡ l.schedule.ghost_name)
