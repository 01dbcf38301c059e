-- What a bench shows at the end of a run (document 01, 'History, order, and what a run writes'). Assumes nothing.
--   phase_told      what a phase shows: its code, its number, its end
--   mark, held      a slot's mark, and its sample; 0 where it is empty
--   unfound         the stored puts that nobody found, by rising slot
--   order           the listed order
--   codes, samples  the event codes, and the samples beside them
--   records         the thread records
use Rattle.std.specs.Prelude.{List, [], ◌∷◌, map, ℕ, ℤ, pos}
use Rattle.history.specs.History.{code_of, beside}
use Rattle.order.specs.Order.{listed_order}
use Rattle.machine.specs.declared.Phase.{Phase}
use Rattle.machine.specs.declared.Phase.TheVariants.{Rest, CalledPut, Reserved, Stored, CalledTake, Scanning, Holding}
use Rattle.machine.specs.declared.ThreadRecord.{ThreadRecord}
use Rattle.machine.specs.Bench.{Bench, Slot, Empty, Filled, Worker}

-- code, number (0 where it has none), and the end b (0 outside phase 5)
abbrev pub phase_told : Phase → ℕ × ℤ × ℕ
phase_told Rest = (0, pos 0, 0)
phase_told CalledPut = (1, pos 0, 0)
phase_told (Reserved i) = (2, pos i, 0)
phase_told Stored = (3, pos 0, 0)
phase_told CalledTake = (4, pos 0, 0)
phase_told (Scanning j b) = (5, pos j, b)
phase_told (Holding x) = (6, x, 0)

abbrev pub mark : Slot → ℕ
mark Empty = 0
mark (Filled x) = 1

abbrev pub held : Slot → ℤ
held Empty = pos 0
held (Filled x) = x

unfoldable pub unfound : List ℕ → List Slot → List ℕ
unfound [] slots = []
unfound (p ∷ reservations) [] = []
unfound (p ∷ reservations) (Empty ∷ slots) = unfound reservations slots
unfound (p ∷ reservations) (Filled x ∷ slots) = p ∷ unfound reservations slots

abbrev pub order : Bench → List ℕ
order B = listed_order B.history B.finds (unfound B.reservations B.slots)

abbrev pub codes : Bench → List ℕ
codes B = map code_of B.history

abbrev pub samples : Bench → List ℤ
samples B = map beside B.history

abbrev pub records : Bench → List ThreadRecord
records B = map (λ (w : Worker). record { phase = w.phase }) B.workers
