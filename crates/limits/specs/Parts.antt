-- Nothing in this file has to be believed by a reader of the claims: parts of the chain of refusals, as this crate's functions test them.
--   kind_number         the number that stands for a kind
--   IsEven              the three lists of a table are of one length
--   stray_at            a schedule entry that is no thread
--   number_refusal      1 and 2: a number from 1 to the most, or that refusal
--   operations_refusal  3, 4 and 5
--   table_refusal       1, 3, 4 and 5, of what the judge gets beside a history
--   schedule_refusal    6, 7 and 8, of a schedule for a table that passes 1 to 5
use Rattle.std.specs.Prelude.{◌≡◌, Bool, List, ℕ, leb, ℤ, length, get_or, Ok}
use Rattle.limits.specs.declared.Table.{Table}
use Rattle.limits.specs.declared.Kind.{Kind}
use Rattle.limits.specs.declared.Kind.TheVariants.{Put, Take}
use Rattle.limits.specs.declared.Refusal.{Refusal}
use Rattle.limits.specs.declared.Refusal.TheVariants.{Threads, Lengths, Operations, Operation, Puts, Schedule, Entry}
use Rattle.limits.specs.Lists.{lowest}
use Rattle.limits.specs.Operations.{puts_in}
use Rattle.limits.specs.Refusals.{Fit, unless, unless_at, within, together, unfit_at}

abbrev pub kind_number : Kind → ℕ
kind_number Put = 1
kind_number Take = 2

abbrev pub IsEven : Table → Type 0
IsEven t = (length t.kind.now ≡ length t.thread.now) × (length t.sample.now ≡ length t.thread.now)

abbrev pub stray_at : ℕ → List ℕ → ℕ → Bool
stray_at threads schedule i = leb threads (get_or schedule i 0)

abbrev pub number_refusal : ℕ → ℕ → Refusal → Fit
number_refusal n most refusal = unless (within 1 most n) refusal (Ok tt)

unfoldable pub operations_refusal : ℕ → List ℕ → List ℕ → List ℤ → Fit
operations_refusal threads thread kind sample =
    unless (together thread kind sample) Lengths
    (unless (leb (length thread) 128) Operations
    (unless_at (lowest (unfit_at threads thread kind sample) (length thread)) Operation
    (Ok tt)))

unfoldable pub table_refusal : ℕ → List ℕ → List ℕ → List ℤ → Fit
table_refusal threads thread kind sample =
    unless (within 1 16 threads) Threads
    (unless (together thread kind sample) Lengths
    (unless (leb (length thread) 128) Operations
    (unless_at (lowest (unfit_at threads thread kind sample) (length thread)) Operation
    (Ok tt))))

unfoldable pub schedule_refusal : ℕ → ℕ → List ℕ → List ℕ → Fit
schedule_refusal threads slots kind schedule =
    unless (leb (puts_in kind) slots) Puts
    (unless (leb (length schedule) 4096) Schedule
    (unless_at (lowest (stray_at threads schedule) (length schedule)) Entry
    (Ok tt)))
