-- What the judge's private functions keep and tell, in terms of their own lists. Nothing here has to be believed: the public contract names none of it.
--   Fitting            a table of at most 128 operations, its three lists of one length
--   called, returned   where the marks say that an operation was called, and that it returned
--   EventStands        the next event can stand, with the sample beside it
--   ReadTo, Reads      a history read so far; read to its end, or refused
--   Free20 .. PlaysOn  the five conditions over the marks
--   Finds              the first fault, by them
--   event_refusal      refusal 10 at the lowest event that cannot stand, or none
use Rattle.std.specs.Prelude.{◌≡◌, ◌≢◌, List, [], ℕ, ◌≤◌, ◌<◌, ℤ, pos, length, get_or, Option, Some, None, Result, Ok, Err}
use Rattle.limits.specs.declared.Kind.TheVariants.{Put}
use Rattle.limits.specs.declared.Refusal.{Refusal}
use Rattle.limits.specs.declared.Refusal.TheVariants.{Event as AtEvent}
use Rattle.limits.specs.Lists.{lowest}
use Rattle.limits.specs.Operations.{Table, table_of}
use Rattle.limits.specs.Parts.{IsEven}
use Rattle.limits.specs.Refusals.{Fit, unless_at}
use Rattle.history.specs.declared.Event.{Event}
use Rattle.history.specs.declared.Event.TheVariants.{Call, Return}
use Rattle.history.specs.Codes.{event_code}
use Rattle.linear.specs.declared.Verdict.{Verdict}
use Rattle.linear.specs.declared.Verdict.TheVariants.{Linear, NoOperation, Uncalled, Missing, Turned, Unplayable}
use Rattle.linear.specs.Conditions.{Plays}
use Rattle.limits.specs.declared.Table.{Table as Operations}
use Rattle.judge.specs.declared.History.{History}
use Rattle.judge.specs.declared.marks.Marks.{Marks}
use Rattle.judge.specs.Stand.{StandsAt}
use Rattle.judge.specs.Decide.{stands?}
use Rattle.judge.specs.Judge.{fails}

-- ---- the table and the marks

abbrev pub table_in : Operations → Table
table_in t = table_of t.thread.now t.kind.now t.sample.now

pub record Fitting (t : Operations) : Type 0 where
  pub few : length t.thread.now ≤ 128
  pub even : IsEven t

-- where an event stands, if it was read
abbrev pub place_of : Marks → Event → Option ℕ
place_of m (Call o) = get_or m.calls o None
place_of m (Return o) = get_or m.returns o None

abbrev pub called : Marks → ℕ → Option ℕ
called m o = place_of m (Call o)

abbrev pub returned : Marks → ℕ → Option ℕ
returned m o = place_of m (Return o)

-- ---- a history read

-- every earlier operation of the thread of o has returned
abbrev pub EarlierBack : Operations → Marks → ℕ → Type 0
EarlierBack t m o = (p : ℕ) → p < o → get_or t.thread.now p 0 ≡ get_or t.thread.now o 0 → returned m p ≢ None

-- a call of o
pub record CallStands (t : Operations) (m : Marks) (o : ℕ) (x : ℤ) : Type 0 where
  pub fresh : called m o ≡ None
  pub blank : x ≡ pos 0
  pub earlier : EarlierBack t m o

-- a return of o
pub record ReturnStands (t : Operations) (m : Marks) (o : ℕ) (x : ℤ) : Type 0 where
  pub called : called m o ≢ None
  pub fresh : returned m o ≡ None
  pub blank : (table_in t).kind o ≡ Put → x ≡ pos 0

abbrev pub EventStands : Operations → Marks → Event → ℤ → Type 0
EventStands t m (Call o) x = (o < length t.thread.now) × CallStands t m o x
EventStands t m (Return o) x = (o < length t.thread.now) × ReturnStands t m o x

unfoldable pub event_refusal : List ℕ → List ℕ → List ℤ → List ℕ → List ℤ → Fit
event_refusal thread kind sample codes samples =
    unless_at (lowest (λ i. fails (stands? (table_of thread kind sample) codes samples i)) (length codes)) AtEvent (Ok tt)

-- m has the positions of the first n events, and no other; and each of these events can stand
pub record ReadTo (t : Operations) (h : History) (n : ℕ) (m : Marks) : Type 0 where
  pub to : (e : Event) (j : ℕ) → j < n → get_or h.codes.now j 0 ≡ event_code e → place_of m e ≡ Some j
  pub of : (e : Event) (j : ℕ) → place_of m e ≡ Some j → (j < n) × (get_or h.codes.now j 0 ≡ event_code e)
  pub stand : (j : ℕ) → j < n → StandsAt (table_in t) h.codes.now h.samples.now j

abbrev pub Reads : Operations → History → Result Marks Refusal → Type 0
Reads t h (Ok m) = ReadTo t h (length h.codes.now) m
Reads t h (Err r) = event_refusal t.thread.now t.kind.now t.sample.now h.codes.now h.samples.now ≡ Err r

-- ---- the five conditions

-- o is among the first n entries
abbrev pub Among : List ℕ → ℕ → ℕ → Type 0
Among l n o = (k : ℕ) × (k < n) × (get_or l k 0 ≡ o)

-- 20: each entry is an operation number, and stands at no earlier place
abbrev pub Free20 : ℕ → List ℕ → Type 0
Free20 size l = (j : ℕ) → j < length l → (get_or l j 0 < size) × (¬ Among l j (get_or l j 0))

-- 21: each entry was called
abbrev pub Free21 : Marks → List ℕ → Type 0
Free21 m l = (j : ℕ) → j < length l → called m (get_or l j 0) ≢ None

-- 22: each operation of the table that has returned is listed
abbrev pub Free22 : ℕ → Marks → List ℕ → Type 0
Free22 size m l = (o : ℕ) → o < size → returned m o ≢ None → Among l (length l) o

-- a has returned before b was called
unfoldable pub Earlier : Marks → ℕ → ℕ → Type 0
Earlier m a b = (i : ℕ) × (j : ℕ) × (returned m a ≡ Some i) × (called m b ≡ Some j) × (i < j)

-- 23: no entry precedes one that stands before it
abbrev pub Free23 : Marks → List ℕ → Type 0
Free23 m l = (j : ℕ) → j < length l → (k : ℕ) → k < j → ¬ Earlier m (get_or l j 0) (get_or l k 0)

-- o, if it has returned, returned x
abbrev pub Gets : History → Marks → ℕ → ℤ → Type 0
Gets h m o x = (i : ℕ) → returned m o ≡ Some i → i < length h.samples.now → get_or h.samples.now i (pos 0) ≡ x

-- 24: a queue that holds q plays the order
abbrev pub PlaysOn : Operations → History → Marks → List ℤ → List ℕ → Type 0
PlaysOn t h m q l = Plays (table_in t).kind (table_in t).sample (Gets h m) (λ r. Unit {0}) q l

-- the first fault
abbrev pub Finds : Operations → History → Marks → List ℕ → Verdict → Type 0
Finds t h m l NoOperation = ¬ Free20 (length t.thread.now) l
Finds t h m l Uncalled = Free20 (length t.thread.now) l × (¬ Free21 m l)
Finds t h m l Missing = Free20 (length t.thread.now) l × Free21 m l × (¬ Free22 (length t.thread.now) m l)
Finds t h m l Turned = Free20 (length t.thread.now) l × Free21 m l × Free22 (length t.thread.now) m l × (¬ Free23 m l)
Finds t h m l Unplayable = Free20 (length t.thread.now) l × Free21 m l × Free22 (length t.thread.now) m l × Free23 m l × (¬ PlaysOn t h m [] l)
Finds t h m l Linear = Free20 (length t.thread.now) l × Free21 m l × Free22 (length t.thread.now) m l × Free23 m l × PlaysOn t h m [] l
