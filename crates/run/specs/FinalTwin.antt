-- Nothing in this file has to be believed: twins of this crate's private functions.
--   tab         the list of f's values at the numbers below n
--   held_at     the sample that slot i holds, by marks and owners
--   gathered    the owners of the marked ones of the n slots from i on
--   listed_by, ordered_by  how many entries the order of a state gets, and the lent order afterwards
--   Concludes, Concluded   what the end of a run needs, and what it shows
use Rattle.std.specs.Prelude.{◌≡◌, Bool, cond, ◌&&◌, List, [], ◌∷◌, ◌++◌, ℕ, zero, suc, ◌≤◌, leb, eqb, ℤ, pos, length, get_or, take, drop, replicate, unwrap_or}
use Rattle.limits.specs.Operations.{Input}
use Rattle.machine.specs.declared.ThreadRecord.{ThreadRecord}
use Rattle.stepping.specs.declared.Doing.{Doing}
use Rattle.stepping.specs.declared.State.{State}
use Rattle.stepping.specs.Twins.{resting}
use Rattle.order.specs.Listing.{listing_answer, listing_after}
use Rattle.faithful.specs.Views.{phase_of}
use Rattle.run.specs.declared.Ran.{Ran}
use Rattle.run.specs.Core.{rest_record}
use Rattle.run.specs.Run.{Lists}

module _ {A : Type 0} where
  unfoldable pub tab : ℕ → (ℕ → A) → List A
  tab zero f = []
  tab (suc n) f = f 0 ∷ tab n (λ i. f (suc i))

abbrev pub record_at : List Doing → ℕ → ThreadRecord
record_at threads t = record { phase = phase_of (get_or threads t resting) }

unfoldable pub shown_threads : List Doing → ℕ → List ThreadRecord
shown_threads threads n = tab n (record_at threads) ++ drop n (replicate 16 rest_record)

abbrev pub held_as : List ℤ → ℕ → ℕ → ℤ
held_as sample mark owner = cond (eqb mark 0) (pos 0) (get_or sample owner (pos 0))

abbrev pub held_at : List ℤ → List ℕ → List ℕ → ℕ → ℤ
held_at sample marks owners i = held_as sample (get_or marks i 0) (get_or owners i 0)

unfoldable pub gathered : List ℕ → List ℕ → ℕ → ℕ → List ℕ
gathered marks owners i zero = []
gathered marks owners i (suc n) = cond (eqb (get_or marks i 0) 0) (gathered marks owners (suc i) n) (get_or owners i 0 ∷ gathered marks owners (suc i) n)

-- the rows of a state: its finds, and the puts that nobody found
module _ (s : State) (slots : ℕ) (codes : List ℕ) where
  abbrev pub listed_by : ℕ → ℕ
  listed_by room = unwrap_or (listing_answer (take s.counts.events codes) (take s.counts.finds s.takes) (take s.counts.finds s.puts) (gathered s.marks s.owners 0 slots) room) 0

  abbrev pub ordered_by : List ℕ → List ℕ
  ordered_by order = listing_after (take s.counts.events codes) (take s.counts.finds s.takes) (take s.counts.finds s.puts) (gathered s.marks s.owners 0 slots) order

-- the lists that only the end of a run fills are long enough
abbrev pub rest_room : Input → Lists → ℕ → Bool
rest_room i l room = leb (length i.thread) (length l.order) && (leb i.slots (length l.marks) && (leb i.slots (length l.held) && leb i.threads room))

-- what the end of a run needs: nothing shown past an array or a lent list
pub record Concludes (i : Input) (s : State) (l : Lists) : Type 0 where
  pub threads_most : i.threads ≤ 16
  pub slots_most : i.slots ≤ 64
  pub finds_most : s.counts.finds ≤ 64
  pub events_low : s.counts.events ≤ length l.codes
  pub marks_room : i.slots ≤ length l.marks
  pub held_room : i.slots ≤ length l.held

abbrev pub concluded : Input → State → ℕ → Ran
concluded i s listed =
    record {
      summary = record {
        events = s.counts.events;
        order = listed;
        back = s.counts.back;
        steps = length i.schedule;
        idle = s.counts.idle;
        stores = s.counts.stores;
        swaps = s.counts.swaps;
        finds = s.counts.finds;
        fruitless = s.counts.fruitless;
      };
      records = shown_threads s.threads i.threads;
    }

-- from the lists l to the lists m and what is answered
pub record Concluded (i : Input) (s : State) (l m : Lists) (r : Ran) : Type 0 where
  pub answer : r ≡ concluded i s (listed_by s i.slots l.codes (length l.order))
  pub codes : m.codes ≡ l.codes
  pub samples : m.samples ≡ l.samples
  pub order : m.order ≡ ordered_by s i.slots l.codes l.order
  pub marks : m.marks ≡ tab i.slots (λ k. get_or s.marks k 0) ++ drop i.slots l.marks
  pub held : m.held ≡ tab i.slots (held_at i.sample s.marks s.owners) ++ drop i.slots l.held
