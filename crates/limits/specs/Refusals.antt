-- Numbered refusals (document 01): their numbers and details, and which of 1 to 8 an input gets. Assumes nothing.
--   Fit                 whether an input may go on, or why it is refused
--   refusal_told        the document's number and detail of each refusal, a row of its table each
--   unless, unless_at   tests in turn: the first that fails gives its refusal
--   by_fit              one thing where nothing is refused, another where something is
--   and_then            tests after tests that may already refuse
--   lent_after          a lent list afterwards: where nothing is refused its first entries are vs; all else in it is as it was
--   input_refusal       1 to 8, of a run's input
use Rattle.std.specs.Prelude.{Bool, true, false, not, ◌&&◌, ◌||◌, List, ℕ, zero, suc, leb, eqb, ℤ, pos, negsuc, length, get_or, Result, Err, None, Ok, Option, Some, ⊤}
use Rattle.limits.specs.declared.Refusal.{Refusal}
use Rattle.limits.specs.declared.Refusal.TheVariants.{Threads, Slots, Lengths, Operations, Operation, Puts, Schedule, Entry, Room, Event, Line, Text}
use Rattle.limits.specs.Lists.{over, lowest}
use Rattle.limits.specs.Operations.{puts_in, Input}

-- number and detail: operations and positions count from 0, lines from 1; where the document gives no place, 0
abbrev pub refusal_told : Refusal → ℕ × ℕ
refusal_told Threads = (1, 0)
refusal_told Slots = (2, 0)
refusal_told Lengths = (3, 0)
refusal_told Operations = (4, 0)
refusal_told (Operation o) = (5, o)
refusal_told Puts = (6, 0)
refusal_told Schedule = (7, 0)
refusal_told (Entry i) = (8, i)
refusal_told Room = (9, 0)
refusal_told (Event i) = (10, i)
refusal_told (Line k) = (11, k)
refusal_told Text = (12, 0)

abbrev pub Fit : Type 0
Fit = Result ⊤ Refusal

-- the refusal unless the test holds, and what comes after it if it does
abbrev pub unless : Bool → Refusal → Fit → Fit
unless true r rest = rest
unless false r rest = Err r

-- the refusal at the place found, and what comes after if there is none
abbrev pub unless_at : Option ℕ → (ℕ → Refusal) → Fit → Fit
unless_at None r rest = rest
unless_at (Some i) r rest = Err (r i)

abbrev pub by_fit : {A : Type 0} → Fit → A → (Refusal → A) → A
by_fit (Ok tt) a refused = a
by_fit (Err r) a refused = refused r

abbrev pub lent_after : {A : Type 0} → Fit → List A → List A → List A
lent_after fit vs l = by_fit fit (over vs l) (λ r. l)

abbrev pub and_then : Fit → Fit → Fit
and_then fit rest = by_fit fit rest Err

abbrev pub within : ℕ → ℕ → ℕ → Bool
within least most x = leb least x && leb x most

abbrev pub is_zero : ℤ → Bool
is_zero (pos zero) = true
is_zero (pos (suc n)) = false
is_zero (negsuc n) = false

-- 3: the three operation lists are of one length
abbrev pub together : List ℕ → List ℕ → List ℤ → Bool
together thread kind sample = eqb (length kind) (length thread) && eqb (length sample) (length thread)

-- 5: its thread is too high, its kind is not 1 or 2, or it is a take with a sample other than 0
abbrev pub unfit : ℕ → ℕ → ℕ → ℤ → Bool
unfit threads t k x = leb threads t || (not (eqb k 1) && not (eqb k 2)) || (eqb k 2 && not (is_zero x))

abbrev pub unfit_at : ℕ → List ℕ → List ℕ → List ℤ → ℕ → Bool
unfit_at threads thread kind sample o = unfit threads (get_or thread o 0) (get_or kind o 0) (get_or sample o (pos 0))

unfoldable pub input_refusal : Input → Fit
input_refusal i =
    unless (within 1 16 i.threads) Threads
    (unless (within 1 64 i.slots) Slots
    (unless (together i.thread i.kind i.sample) Lengths
    (unless (leb (length i.thread) 128) Operations
    (unless_at (lowest (unfit_at i.threads i.thread i.kind i.sample) (length i.thread)) Operation
    (unless (leb (puts_in i.kind) i.slots) Puts
    (unless (leb (length i.schedule) 4096) Schedule
    (unless_at (lowest (λ k. leb i.threads (get_or i.schedule k 0)) (length i.schedule)) Entry
    (Ok tt))))))))
