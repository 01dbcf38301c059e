-- An event can stand exactly if it can by the marks of those before it; so a history is read on, or is refused. Assumes nothing.
use Rattle.std.proofs.Common.{◌≡◌, ◌≢◌, ◌↔◌, ℕ, ◌+◌, ◌/◌, ◌%◌, ◌≤◌, ◌<◌, ◌==◌, cond, List, length, get_or, take, Option, Some, None, Err, ℤ, pos, refl, sym, ◌∙◌, below_more, arith, length-take-le, get_or-take}
use Rattle.std.proofs.Math.Decide.{ℕ_discrete}
use Rattle.std.proofs.lemmas.Bool.Decides.{nat_tests}
use Rattle.std.proofs.lemmas.Option.{none-some}
use Rattle.limits.specs.declared.Refusal.TheVariants.{Event as AtEvent}
use Rattle.limits.specs.declared.Table.{Table as Operations}
use Rattle.limits.specs.Operations.{Table}
use Rattle.history.specs.declared.Event.{Event}
use Rattle.history.specs.declared.Event.TheVariants.{Call, Return}
use Rattle.history.specs.Codes.{event_code}
use Rattle.history.specs.History.{Event as Happening, event_of, events}
use Rattle.history.specs.Standing.{CanStand}
use Rattle.history.proofs.CodeLaws.{event_call, event_ret}
use Rattle.judge.specs.declared.History.{History}
use Rattle.judge.specs.declared.marks.Marks.{Marks}
use Rattle.judge.specs.Stand.{StandsAt}
use Rattle.judge.specs.Marks.{Fitting, table_in, place_of, called, returned, EventStands, ReadTo, Free20, event_refusal}
use Rattle.judge.proofs.MarkLaws.{Notes, notes, called_mark, mark_called, returned_mark, mark_returned, even_call, odd_return}
use Rattle.judge.proofs.RefusalLaws.{event_stops}
use Rattle.judge.proofs.ConditionLaws.{order_few}

-- what is not somewhere is nowhere
nowhere : (o : Option ℕ) → ¬ (o ≢ None) → o ≡ None
nowhere None n = refl
nowhere (Some j) n = absurd (n (λ e. cc))

-- field by field; `code_stands` and `stands_code` are its two ways
pub event_stands : (t : Operations) (old : List Happening) (m : Marks) → Notes old m → (c : ℕ) (x : ℤ) (e : Event) → c ≡ event_code e → EventStands t m e x ↔ CanStand (table_in t) old (event_of (table_in t) c x) x
event_stands t old m n c x (Call o) q = rw (even_call (table_in t) o c x q) (
  λ s. (s.0, λ d. called_mark n o d s.1.fresh, λ p lt e. mark_returned n p (s.1.earlier p lt e), s.1.blank),
  λ s. (s.0, record { fresh = nowhere (called m o) (λ ne. s.1 (mark_called n o ne)); blank = s.3; earlier = λ p lt e. returned_mark n p (s.2 p lt e) }),
)
event_stands t old m n c x (Return o) q = rw (odd_return (table_in t) o c x q) (
  λ s. (s.0, mark_called n o s.1.called, λ d. returned_mark n o d s.1.fresh, s.1.blank),
  λ s. (s.0, record { called = called_mark n o s.1; fresh = nowhere (returned m o) (λ ne. s.2 (mark_returned n o ne)); blank = s.3 }),
)

pub code_stands : (t : Operations) (old : List Happening) (m : Marks) → Notes old m → (c : ℕ) (x : ℤ) (e : Event) → c ≡ event_code e → EventStands t m e x → CanStand (table_in t) old (event_of (table_in t) c x) x
code_stands t old m n c x e q = (event_stands t old m n c x e q).0

pub stands_code : (t : Operations) (old : List Happening) (m : Marks) → Notes old m → (c : ℕ) (x : ℤ) (e : Event) → c ≡ event_code e → CanStand (table_in t) old (event_of (table_in t) c x) x → EventStands t m e x
stands_code t old m n c x e q = (event_stands t old m n c x e q).1

-- an event that can stand has no mark yet
fresh : (t : Operations) (m : Marks) (e : Event) (x : ℤ) → EventStands t m e x → place_of m e ≡ None
fresh t m (Call o) x s = s.1.fresh
fresh t m (Return o) x s = s.1.fresh

-- each code is that of an event
code_event : (c : ℕ) → (e : Event) × (event_code e ≡ c)
code_event c = go (ℕ_discrete (c % 2) 0)
  where
    go : Dec (c % 2 ≡ 0) → (e : Event) × (event_code e ≡ c)
    go (yes e) = (Call (c / 2), omega arith)
    go (no ne) = (Return (c / 2), omega arith)

-- the code of one that can stand is below 256
code_small : (T : Table) (old : List Happening) (c : ℕ) (x : ℤ) → T.size ≤ 128 → CanStand T old (event_of T c x) x → c < 256
code_small T old c x few s = go (ℕ_discrete (c % 2) 0)
  where
    go : Dec (c % 2 ≡ 0) → c < 256
    go (yes e) = let q = rw (event_call T c x e) at s in omega (arith, q.0)
    go (no ne) = let q = rw (event_ret T c x ne) at s in omega (arith, q.0)

-- ---- a history is read on, or is refused

module _ (t : Operations) (h : History) (i : ℕ) (m : Marks) (r : ReadTo t h i m) (e : Event) (code : event_code e ≡ get_or h.codes.now i 0) (lt : i < length h.codes.now) (together : length h.samples.now ≡ length h.codes.now) where
  abbrev x : ℤ
  x = get_or h.samples.now i (pos 0)

  stands : EventStands t m e x ↔ CanStand (table_in t) (take i (events (table_in t) h.codes.now h.samples.now)) (event_of (table_in t) (get_or h.codes.now i 0) x) x
  stands = event_stands t _ m (notes t h together i (omega arith) r) (get_or h.codes.now i 0) x e (cc)

  pub read_more : (m' : Marks) → EventStands t m e x → ((f : Event) → place_of m' f ≡ cond (event_code f == event_code e) (Some i) (place_of m f)) → ReadTo t h (i + 1) m'
  read_more m' s step =
      let none = fresh t m e x s in
      record {
        to = λ f j le q. grind (arith, nat_tests, step f, r.to f j);
        of = λ f j q. grind (arith, nat_tests, step f, r.of f j);
        stand = below_more _ _ r.stand (stands.0 s);
      }

  -- this event and the i before it have different codes
  once : place_of m e ≡ None → (j : ℕ) → j < i + 1 → (k : ℕ) → k < j → get_or h.codes.now k 0 ≢ get_or h.codes.now j 0
  once none j jt k kt same = go (ℕ_discrete j i)
    where
      go : Dec (j ≡ i) → ⊥
      go (yes q) = none-some k (sym none ∙ r.to e k (omega arith) (same ∙ rw q (sym code)))
      go (no ne) =
          let f = code_event (get_or h.codes.now j 0) in
          let a = r.to f.0 k (omega arith) (same ∙ sym f.1) in
          let b = r.to f.0 j (omega arith) (sym f.1) in
          let q : k ≡ j = cc in
          omega arith

  -- so the codes up to this one's are different numbers below 256, and its place is too
  abbrev upto : List ℕ
  upto = take (i + 1) h.codes.now

  many : length upto ≡ i + 1
  many = length-take-le (i + 1) h.codes.now (omega (arith, lt))

  stays : (j : ℕ) → j < i + 1 → get_or upto j 0 ≡ get_or h.codes.now j 0
  stays j le = get_or-take (i + 1) h.codes.now j 0 le

  apart : Fitting t → EventStands t m e x → Free20 256 upto
  apart fit s j jt =
      let le : j < i + 1 = rw many at jt in
      let stand = below_more (StandsAt (table_in t) h.codes.now h.samples.now) i r.stand (stands.0 s) j le in
      let small = code_small (table_in t) (take j (events (table_in t) h.codes.now h.samples.now)) (get_or h.codes.now j 0) (get_or h.samples.now j (pos 0)) fit.few stand in
      (rw (stays j le) small, λ a. once (fresh t m e x s) j le a.0 a.1 (sym (stays a.0 (omega arith)) ∙ a.2 ∙ stays j le))

  pub read_few : Fitting t → EventStands t m e x → i < 256
  read_few fit s = omega (arith, order_few 256 upto (apart fit s), many)

  pub read_stops : ¬ EventStands t m e x → event_refusal t.thread.now t.kind.now t.sample.now h.codes.now h.samples.now ≡ Err (AtEvent i)
  read_stops n = event_stops _ _ _ _ _ i lt (λ s. n (stands.1 s)) r.stand
