-- The lines of a listing, from a run's result (document 01, 'Runs worked by hand', the listing of run A and what follows it). Assumes nothing.
--   lines_from f i l    a line for each entry of l, the entries numbered from i on
--   event_line          kind and operation of an event, and a sample where a take returns
--   order_line          an operation of the listed order
--   slot_line           a slot's number, and its sample or `empty`
--   phase_fields        the phase's word and, for phases 2, 5 and 6, the number the phase shows: slot, next slot (not b), sample
--   thread_line         a thread's number before that
--   count_line          a count's name and number
--   listing_of          the whole listing of a summary and a bench: back, events, order, slots, threads, counts
--   refused_line        the one line that refused input gets: number and detail
use Rattle.std.specs.Prelude.{List, [], ◌∷◌, ◌++◌, ℕ, suc}
use Rattle.std.proofs.Math.Option.{none, some}
use Rattle.numerals.specs.Decimal.{decimal}
use Rattle.numerals.specs.Samples.{sample_text}
use Rattle.limits.specs.declared.Refusal.{Refusal}
use Rattle.limits.specs.Refusals.{refusal_told}
use Rattle.history.specs.History.{Event, call, ret}
use Rattle.machine.specs.declared.Phase.{Phase}
use Rattle.machine.specs.declared.Phase.TheVariants.{Rest, CalledPut, Reserved, Stored, CalledTake, Scanning, Holding}
use Rattle.machine.specs.Bench.{Bench, Slot, Empty, Filled}
use Rattle.machine.specs.Shown.{order}
use Rattle.run.specs.declared.Summary.{Summary}
use Rattle.numerals.specs.Words.{bytes, line}

unfoldable pub lines_from : {A : Type 0} → (ℕ → A → List ℕ) → ℕ → List A → List ℕ
lines_from f i [] = []
lines_from f i (x ∷ l) = f i x ++ lines_from f (suc i) l

-- a put's return has no sample
abbrev pub event_line : Event → List ℕ
event_line (call o) = line (bytes "event" ∷ bytes "call" ∷ decimal o ∷ [])
event_line (ret o none) = line (bytes "event" ∷ bytes "return" ∷ decimal o ∷ [])
event_line (ret o (some x)) = line (bytes "event" ∷ bytes "return" ∷ decimal o ∷ sample_text x ∷ [])

abbrev pub order_line : ℕ → List ℕ
order_line o = line (bytes "order" ∷ decimal o ∷ [])

-- an empty slot is a state of its own: 0 is a sample
abbrev pub slot_line : ℕ → Slot → List ℕ
slot_line i Empty = line (bytes "slot" ∷ decimal i ∷ bytes "empty" ∷ [])
slot_line i (Filled x) = line (bytes "slot" ∷ decimal i ∷ sample_text x ∷ [])

abbrev pub phase_fields : Phase → List (List ℕ)
phase_fields Rest = bytes "rest" ∷ []
phase_fields CalledPut = bytes "called-put" ∷ []
phase_fields (Reserved i) = bytes "reserved" ∷ decimal i ∷ []
phase_fields Stored = bytes "stored" ∷ []
phase_fields CalledTake = bytes "called-take" ∷ []
phase_fields (Scanning j b) = bytes "scanning" ∷ decimal j ∷ []
phase_fields (Holding x) = bytes "holding" ∷ sample_text x ∷ []

abbrev pub thread_line : ℕ → Phase → List ℕ
thread_line t p = line (bytes "thread" ∷ decimal t ∷ phase_fields p)

abbrev pub count_line : List ℕ → ℕ → List ℕ
count_line w n = line (bytes "count" ∷ w ∷ decimal n ∷ [])

abbrev pub count_lines : Summary → List ℕ
count_lines s =
    count_line (bytes "steps") s.steps ++ (count_line (bytes "idle") s.idle ++ (count_line (bytes "stores") s.stores
    ++ (count_line (bytes "swaps") s.swaps ++ (count_line (bytes "finds") s.finds ++ count_line (bytes "fruitless") s.fruitless))))

unfoldable pub listing_of : Summary → Bench → List ℕ
listing_of s B =
    line (bytes "back" ∷ decimal s.back ∷ [])
    ++ (lines_from (λ i e. event_line e) 0 B.history
    ++ (lines_from (λ i o. order_line o) 0 (order B)
    ++ (lines_from slot_line 0 B.slots
    ++ (lines_from (λ t w. thread_line t w.phase) 0 B.workers
    ++ count_lines s))))

unfoldable pub refused_line : Refusal → List ℕ
refused_line r = line (bytes "refused" ∷ decimal (refusal_told r).0 ∷ decimal (refusal_told r).1 ∷ [])
