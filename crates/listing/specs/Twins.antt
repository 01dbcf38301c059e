-- Nothing in this file has to be believed: what the private functions write, by the definitions of Lines.
--   upto g n    the texts g 0 to g (n - 1), one after the other
--   event_at .. the line at an index
--   events_of ..  the lines of a list
--   listing_by  the whole listing, by what a run answers and the lists it filled
--   TextSays    the answer where a text is to be written, and the lent text afterwards
use Rattle.std.specs.Prelude.{◌≡◌, List, [], ◌∷◌, ◌++◌, ℕ, zero, suc, ℤ, pos, length, get_or, Result, Ok, Err}
use Rattle.machine.specs.declared.ThreadRecord.{ThreadRecord}
use Rattle.limits.specs.declared.Refusal.{Refusal}
use Rattle.limits.specs.Refusals.{by_fit, lent_after}
use Rattle.run.specs.Core.{rest_record}
use Rattle.numerals.specs.Decimal.{decimal}
use Rattle.numerals.specs.Words.{bytes, line}
use Rattle.lines.specs.Lines.{order_line, thread_line, count_lines}
use Rattle.lines.specs.Twins.{event_by, slot_by}
use Rattle.listing.specs.declared.parts.Shown.{Shown}
use Rattle.listing.specs.Listing.{text_fit}

unfoldable pub upto : (ℕ → List ℕ) → ℕ → List ℕ
upto g zero = []
upto g (suc n) = upto g n ++ g n

abbrev pub event_at : List ℕ → List ℕ → List ℤ → ℕ → List ℕ
event_at kind codes values i = event_by kind (get_or codes i 0) (get_or values i (pos 0))

abbrev pub order_at : List ℕ → ℕ → List ℕ
order_at entries i = order_line (get_or entries i 0)

abbrev pub slot_at : List ℕ → List ℤ → ℕ → List ℕ
slot_at marks held i = slot_by i (get_or marks i 0) (get_or held i (pos 0))

abbrev pub thread_at : List ThreadRecord → ℕ → List ℕ
thread_at records t = thread_line t (get_or records t rest_record).phase

abbrev pub events_of : Shown → List ℕ
events_of s = upto (event_at s.kind.now s.codes.now s.values.now) (length s.codes.now)

abbrev pub order_of : Shown → List ℕ
order_of s = upto (order_at s.order.now) (length s.order.now)

abbrev pub slots_of : Shown → List ℕ
slots_of s = upto (slot_at s.marks.now s.held.now) (length s.marks.now)

abbrev pub threads_of : Shown → List ℕ
threads_of s = upto (thread_at s.records.now) (length s.records.now)

unfoldable pub listing_by : Shown → List ℕ
listing_by s = line (bytes "back" ∷ decimal s.summary.back ∷ []) ++ (events_of s ++ (order_of s ++ (slots_of s ++ (threads_of s ++ count_lines s.summary))))

pub record TextSays (w text : List ℕ) (r : Result ℕ Refusal) (text' : List ℕ) : Type 0 where
  pub answer : r ≡ by_fit (text_fit (length w) (length text)) (Ok (length w)) Err
  pub bytes : text' ≡ lent_after (text_fit (length w) (length text)) w text
