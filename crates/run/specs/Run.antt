-- A run: what it is to answer, and what the lent lists of numbers hold afterwards (document 01, 'History, order, and what a run writes', refusals 1 to 9).
-- Assumes nothing.
--   Lists        the lists of numbers that a run's caller lends: event codes, event samples, order, slot marks, slot samples
--   lists_of     the five lists as one
--   has_room     none of them is shorter than needed, and there is room for the thread records
--   run_fit      the refusal that the input gets, or none: 1 to 8, then 9
--   bench_after  the bench after the schedule
--   count_in     how many of the run's steps a test of Counts.antt counts
--   summary_of   number of events, length of the order, reservation count, and the six counts
--   lists_after  the lists afterwards: the first entries that the run has, every entry after them as it was; on a refusal all as it was
--   history_in   the history that an accepted run wrote: the events that the first codes and samples give
use Rattle.limits.specs.Refusals.{Fit}
use Rattle.std.specs.Prelude.{Bool, ◌&&◌, List, map, ℕ, ◌*◌, leb, ℤ, length, take, Ok}
use Rattle.limits.specs.declared.Refusal.TheVariants.{Room}
use Rattle.limits.specs.Operations.{Input, table}
use Rattle.limits.specs.Refusals.{input_refusal, and_then, unless, lent_after}
use Rattle.history.specs.History.{Event, events}
use Rattle.machine.specs.Bench.{Bench, back, start, played}
use Rattle.machine.specs.Counts.{counted, is_idle, is_store, is_swap, is_find, is_fruitless}
use Rattle.machine.specs.Shown.{order, codes, samples, mark, held}
use Rattle.run.specs.declared.Summary.{Summary}

pub record Lists : Type 0 where
  pub codes : List ℕ
  pub samples : List ℤ
  pub order : List ℕ
  pub marks : List ℕ
  pub held : List ℤ

abbrev pub lists_of : List ℕ → List ℤ → List ℕ → List ℕ → List ℤ → Lists
lists_of cs vs os ms hs = record { codes = cs; samples = vs; order = os; marks = ms; held = hs }

-- `records`: for how many thread records there is room
abbrev pub has_room : Input → Lists → ℕ → Bool
has_room i l records =
    leb (2 * length i.thread) (length l.codes) && leb (2 * length i.thread) (length l.samples) && leb (length i.thread) (length l.order)
    && leb i.slots (length l.marks) && leb i.slots (length l.held) && leb i.threads records

unfoldable pub run_fit : Input → Lists → ℕ → Fit
run_fit i l records = and_then (input_refusal i) (unless (has_room i l records) Room (Ok tt))

abbrev pub bench_after : Input → Bench
bench_after i = played (table i) (start (table i) i.threads i.slots) i.schedule

abbrev pub count_in : Input → (ℕ → ℕ → Bool) → ℕ
count_in i f = counted f (table i) (start (table i) i.threads i.slots) i.schedule

unfoldable pub summary_of : Input → Summary
summary_of i =
    record {
      events = length (bench_after i).history;
      order = length (order (bench_after i));
      back = back (bench_after i);
      steps = length i.schedule;
      idle = count_in i is_idle;
      stores = count_in i is_store;
      swaps = count_in i is_swap;
      finds = count_in i is_find;
      fruitless = count_in i is_fruitless;
    }

abbrev pub lists_after : Fit → Bench → Lists → Lists
lists_after fit B l =
    lists_of (lent_after fit (codes B) l.codes) (lent_after fit (samples B) l.samples) (lent_after fit (order B) l.order)
    (lent_after fit (map mark B.slots) l.marks) (lent_after fit (map held B.slots) l.held)

abbrev pub history_in : Input → Summary → Lists → List Event
history_in i s l = events (table i) (take s.events l.codes) (take s.events l.samples)
