-- The five conditions by the marks of a history are the five conditions; so what is found is the verdict. Assumes nothing.
use Rattle.std.proofs.Common.{pos, inl, inr, suc, ◌≡◌, ◌≢◌, ◌↔◌, ℕ, ◌≤◌, ◌<◌, eqb, List, [], ◌∷◌, ◌++◌, length, get_or, ℤ, refl, sym, ◌∙◌, arith}
use Rattle.std.proofs.lemmas.List.{take_all}
use Rattle.std.proofs.lemmas.List.Folds.{Any-from_list_any}
use Rattle.std.proofs.lemmas.Bool.Decides.{Decides-eqb}
use Rattle.std.proofs.lemmas.Grind.{get_or_default_zero}
use Rattle.std.proofs.lemmas.Map.Made.{IsDistinct-from_AllPairs}
use Rattle.std.proofs.lemmas.Map.Steps.{length-le_from_distinct_below}
use borrow.Author.Tests.{eqb-true}
use Rattle.limits.specs.declared.Kind.{Kind}
use Rattle.limits.specs.declared.Kind.TheVariants.{Put, Take}
use Rattle.limits.specs.Lists.{Mem, Pw}
use Rattle.limits.specs.Operations.{Table}
use Rattle.limits.specs.declared.Table.{Table as Operations}
use Rattle.history.specs.declared.Event.TheVariants.{Return}
use Rattle.history.specs.History.{Event, Called, Returned, Precedes, events}
use Rattle.history.proofs.CodeLaws.{returned_at, events_length}
use Rattle.linear.specs.declared.Verdict.{Verdict}
use Rattle.linear.specs.declared.Verdict.TheVariants.{Linear, NoOperation, Uncalled, Missing, Turned, Unplayable}
use Rattle.linear.specs.Conditions.{MayGet, PlaysAt, Plays, Not20, Not21, Not22, Not23, Not24}
use Rattle.linear.specs.Verdict.{verdict}
use Rattle.linear.proofs.VerdictLaws.{verdict_20, verdict_21, verdict_22, verdict_23, verdict_24, verdict_0}
use Rattle.judge.specs.declared.History.{History}
use Rattle.judge.specs.declared.marks.Marks.{Marks}
use Rattle.judge.specs.Marks.{Fitting, table_in, Among, Free20, Free21, Free22, Free23, Gets, PlaysOn, ReadTo, Finds}
use Rattle.history.proofs.PrecedenceLists.{all_get_or, all_of_get_or, pw_get_or, mem_get_or}
use Rattle.judge.proofs.MarkLaws.{Notes, notes, odd_return, called_mark, mark_called, returned_mark, mark_returned, precedes_marks, marks_precede, get_marks, marks_get}

-- pairs by positions
pw_of_get_or : (R : ℕ → ℕ → Type 0) (l : List ℕ) → ((j : ℕ) → j < length l → (k : ℕ) → k < j → R (get_or l k 0) (get_or l j 0)) → Pw R l
pw_of_get_or R [] f = tt
pw_of_get_or R (x ∷ l) f = (all_of_get_or (R x) l 0 (λ j lt. f (suc j) (omega arith) 0 (omega arith)), pw_of_get_or R l (λ j lt k kt. f (suc j) (omega arith) (suc k) (omega arith)))

-- a member stands at a position
mem_among : (l : List ℕ) (o : ℕ) → Mem o l → Among l (length l) o
mem_among [] o m = absurd m
mem_among (x ∷ l) o (inl e) = (0, omega arith, sym e)
mem_among (x ∷ l) o (inr m) = let r = mem_among l o m in (suc r.0, omega (arith, r.1), r.2)

-- an order of different operation numbers is no longer than the table
pub order_few : (size : ℕ) (l : List ℕ) → Free20 size l → length l ≤ size
order_few size l f =
    length-le_from_distinct_below l size
    (IsDistinct-from_AllPairs Decides-eqb l (λ i j d lt le e. (f j le).1 (i, lt, sym (get_or_default_zero l i d (omega arith)) ∙ e ∙ get_or_default_zero l j d le)))
    (λ q t. let a = Any-from_list_any (eqb q) l t in omega (arith, eqb-true q a.1 a.4, (f a.0 a.2).0, a.3, get_or_default_zero l a.0 a.1 a.2))

-- a queue plays the same where takes may get the same
plays_by : (kind : ℕ → Kind) (sample : ℕ → ℤ) (G H : ℕ → ℤ → Type 0) → ((o : ℕ) (v : ℤ) → kind o ≡ Take → G o v → H o v) → (l : List ℕ) (q : List ℤ) → Plays kind sample G (λ r. Unit {0}) q l → Plays kind sample H (λ r. Unit {0}) q l
plays_by kind sample G H f [] q p = tt
plays_by kind sample G H f (o ∷ l) q p = go (kind o) refl q p (plays_by kind sample G H f l)
  where
    go : (k : Kind) → kind o ≡ k → (q : List ℤ) → PlaysAt k (sample o) (G o) q (λ r. Plays kind sample G (λ r. Unit {0}) r l) → ((r : List ℤ) → Plays kind sample G (λ r. Unit {0}) r l → Plays kind sample H (λ r. Unit {0}) r l)
        → PlaysAt k (sample o) (H o) q (λ r. Plays kind sample H (λ r. Unit {0}) r l)
    go Put e q p ih = ih (q ++ (sample o ∷ [])) p
    go Take e [] p ih = p
    go Take e (v ∷ q) p ih = (f o v e p.0, ih q p.1)

module _ (t : Operations) (fit : Fitting t) (given : History) (together : length given.samples.now ≡ length given.codes.now) (m : Marks) (read : ReadTo t given (length given.codes.now) m) (l : List ℕ) where
  -- the table
  abbrev T : Table
  T = table_in t

  -- the history, and the marks of its events
  abbrev h : List Event
  h = events T given.codes.now given.samples.now

  abbrev n : Notes h m
  n = rw (take_all (length given.codes.now) h (omega (arith, events_length T given.codes.now given.samples.now together))) at (notes t given together (length given.codes.now) (omega arith) read)

  -- each condition, there and back
  same_20 : Free20 T.size l ↔ Not20 T l
  same_20 = (
    λ f. (all_of_get_or (λ o. o < T.size) l 0 (λ j lt. (f j lt).0), pw_of_get_or (λ a b. a ≢ b) l (λ j lt k kt e. (f j lt).1 (k, kt, e))),
    λ q j lt. (all_get_or (λ o. o < T.size) l 0 q.0 j lt, λ a. pw_get_or (λ a b. a ≢ b) l 0 q.1 a.0 j a.1 lt a.2),
  )

  same_21 : Free21 m l ↔ Not21 h l
  same_21 = (λ f. all_of_get_or (Called h) l 0 (λ j lt. mark_called n (get_or l j 0) (f j lt)), λ q j lt. called_mark n (get_or l j 0) (all_get_or (Called h) l 0 q j lt))

  -- a returned operation is one of the table
  returned_small : (o : ℕ) → Returned h o → o < T.size
  returned_small o r =
      let a = returned_at h o r in
      let c = read.of (Return o) a.0 (n.to (Return o) a.0 a.1 a.2) in
      let s = rw (odd_return T o (get_or given.codes.now a.0 0) (get_or given.samples.now a.0 (pos 0)) c.1) at (read.stand a.0 c.0) in
      s.0

  same_22 : Free22 T.size m l ↔ Not22 h l
  same_22 = (
    λ f o r. let a = f o (returned_small o r) (returned_mark n o r) in rw a.2 at (mem_get_or l 0 a.0 a.1),
    λ q o lt ne. mem_among l o (q o (mark_returned n o ne)),
  )

  same_23 : Free23 m l ↔ Not23 h l
  same_23 = (
    λ f. pw_of_get_or (λ b a. ¬ Precedes h a b) l (λ j lt k kt p. f j lt k kt (precedes_marks n (get_or l j 0) (get_or l k 0) p)),
    λ q j lt k kt e. pw_get_or (λ b a. ¬ Precedes h a b) l 0 q k j kt lt (marks_precede n (get_or l j 0) (get_or l k 0) e),
  )

  same_24 : PlaysOn t given m [] l ↔ Not24 T h l
  same_24 = (
    plays_by T.kind T.sample (Gets given m) (MayGet h) (λ o v k. marks_get t given together read o v k) l [],
    plays_by T.kind T.sample (MayGet h) (Gets given m) (λ o v k. get_marks t given together read o v k) l [],
  )

  -- so what is found is the verdict, each fault in its place
  pub found : (v : Verdict) → Finds t given m l v → v ≡ verdict T h l
  found NoOperation f = sym (verdict_20 T h l (λ q. f (same_20.1 q)))
  found Uncalled f = sym (verdict_21 T h l (same_20.0 f.0) (λ q. f.1 (same_21.1 q)))
  found Missing f = sym (verdict_22 T h l (same_20.0 f.0) (same_21.0 f.1) (λ q. f.2 (same_22.1 q)))
  found Turned f = sym (verdict_23 T h l (same_20.0 f.0) (same_21.0 f.1) (same_22.0 f.2) (λ q. f.3 (same_23.1 q)))
  found Unplayable f = sym (verdict_24 T h l (same_20.0 f.0) (same_21.0 f.1) (same_22.0 f.2) (same_23.0 f.3) (λ q. f.4 (same_24.1 q)))
  found Linear f = sym (verdict_0 T h l (same_20.0 f.0) (same_21.0 f.1) (same_22.0 f.2) (same_23.0 f.3) (same_24.0 f.4))
