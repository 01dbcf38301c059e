-- Threads and history in every run: each thread works through its operations in table order, and every event can stand (refusal 10). Assumes nothing.
--   kind_at      the kind of operation that a phase works on; none at rest
--   Now          what is known of the operation that a thread works on
--   Place        where a thread stands: its operations below `from` were called, those from there on are still to do
--   Working      every thread has its place, and the history stands
use mathlib.Core.Path.{◌≡◌, refl, sym, ap, ◌∙◌, subst}
use mathlib.Core.Logic.{◌≢◌, ◌⊎◌}
use mathlib.Core.Bool.{Bool, true, false, cond}
use mathlib.Core.List.{List, ◌∷◌}
use mathlib.Core.Option.{Option, none, some}
use Prim.Native.Nat.{ℕ, zero, suc, ◌+◌, ◌≤◌, ◌<◌}
use native.Mathlib.Decide.{ℕ_discrete}
use native.Mathlib.Omega.{arith}
use lib.Dec.{eqb, T as Holds, eqb→eq, eqb_refl}
use lib.ListN.{length, get_or}
use Rattle.limits.specs.Lists.{All}
use Rattle.limits.specs.declared.Kind.{Kind}
use Rattle.limits.specs.declared.Kind.TheVariants.{Put as putting, Take as taking}
use Rattle.limits.specs.Operations.{Table}
use Rattle.history.specs.History.{Event, Called, Returned}
use Rattle.history.specs.Standing.{Stands}
use Rattle.history.proofs.HistoryLaws.{Right, Sound, standing}
use Rattle.history.proofs.ListLaws.{clash, all_imp}
use Rattle.machine.specs.declared.Phase.{Phase}
use Rattle.machine.specs.declared.Phase.TheVariants.{Rest, CalledPut, Reserved, Stored, CalledTake, Scanning, Holding}
use Rattle.machine.specs.Bench.{Worker, Bench, idler, first_phase, own_from}

abbrev pub kind_at : Phase → Option Kind
kind_at Rest = none
kind_at CalledPut = some putting
kind_at (Reserved i) = some putting
kind_at Stored = some putting
kind_at CalledTake = some taking
kind_at (Scanning j b) = some taking
kind_at (Holding x) = some taking

pub first_kind : (k : Kind) → kind_at (first_phase k) ≡ some k
first_kind putting = refl
first_kind taking = refl

-- operation o, of kind k, that thread t has called and not yet returned
pub record Now (T : Table) (h : List Event) (t : ℕ) (k : Kind) (o : ℕ) : Type 0 where
  pub small : o < T.size
  pub own : T.thread o ≡ t
  pub kind : T.kind o ≡ k
  pub called : Called h o
  pub unreturned : ¬ Returned h o

abbrev pub Current : Table → List Event → ℕ → ℕ → Option Kind → Type 0
Current T h t o none = Unit {0}
Current T h t o (some k) = Now T h t k o

-- p is the operation at work
abbrev pub AtWork : Option Kind → ℕ → ℕ → Type 0
AtWork none o p = ⊥
AtWork (some k) o p = p ≡ o

pub record Place (T : Table) (h : List Event) (t : ℕ) (k : Option Kind) (o : ℕ) (todo : List ℕ) : Type 0 where
  pub from : ℕ
  pub count : ℕ
  pub whole : from + count ≡ T.size
  pub rest : todo ≡ own_from T t from count
  pub past : (p : ℕ) → p < from → T.thread p ≡ t → Returned h p ⊎ AtWork k o p
  pub future : (p : ℕ) → from ≤ p → T.thread p ≡ t → ¬ Called h p
  pub current : Current T h t o k

abbrev pub PlaceOf : Table → List Event → ℕ → Worker → Type 0
PlaceOf T h t w = Place T h t (kind_at w.phase) w.current w.todo

pub record Working (T : Table) (n : ℕ) (ws : List Worker) (h : List Event) : Type 0 where
  pub size : length ws ≡ n
  pub places : (t : ℕ) → t < n → PlaceOf T h t (get_or ws t idler)
  pub stands : Stands T h
  pub right : All (Right T) h

-- what every history has whose events can stand
pub working_sound : (T : Table) (n : ℕ) (ws : List Worker) (h : List Event) → Working T n ws h → Sound T h
working_sound T n ws h i = standing T h i.stands i.right

abbrev pub WorkingAt : Table → ℕ → Bench → Type 0
WorkingAt T n B = Working T n B.workers B.history

-- ---- the operations of a thread in table order

-- the first of thread t's operations among the m from k on is o: it is t's, none of t's is passed over, and after it comes what is t's from there on
pub record Head (T : Table) (t k m o : ℕ) (todo : List ℕ) : Type 0 where
  pub later : k ≤ o
  pub own : T.thread o ≡ t
  pub count : ℕ
  pub whole : suc o + count ≡ k + m
  pub rest : todo ≡ own_from T t (suc o) count
  pub passed : (p : ℕ) → k ≤ p → p < o → T.thread p ≢ t

pub own_head : (T : Table) (t k m o : ℕ) (todo : List ℕ) → own_from T t k m ≡ o ∷ todo → Head T t k m o todo
unfolding own_from
own_head T t k zero o todo e = clash (cc)
own_head T t k (suc m) o todo e = go (eqb (T.thread k) t) refl e (λ f. own_head T t (suc k) m o todo f)
  where
    skip : eqb (T.thread k) t ≡ false → Head T t (suc k) m o todo → (p : ℕ) → Dec (p ≡ k) → k ≤ p → p < o → T.thread p ≢ t
    skip b r p (yes q) l lt e = subst Holds b (rw (← q, e) (eqb_refl t))
    skip b r p (no q) l lt e = r.passed p (omega arith) lt e

    go : (b : Bool) → eqb (T.thread k) t ≡ b → cond b (k ∷ own_from T t (suc k) m) (own_from T t (suc k) m) ≡ o ∷ todo
        → (own_from T t (suc k) m ≡ o ∷ todo → Head T t (suc k) m o todo) → Head T t k (suc m) o todo
    go true b f ih =
        let same : k ≡ o = cc in
        record {
          later = omega arith;
          own = rw (← same) (eqb→eq (T.thread k) t (rw b tt));
          count = m;
          whole = omega arith;
          rest = rw (← same) (cc);
          passed = λ p l r. clash (omega arith);
        }
    go false b f ih =
        let r = ih f in
        record {
          later = omega (arith, r.later);
          own = r.own;
          count = r.count;
          whole = omega (arith, r.whole);
          rest = r.rest;
          passed = λ p. skip b r p (ℕ_discrete p k);
        }

own_small_from : (T : Table) (t k m : ℕ) → All (λ o. (o < k + m) × (T.thread o ≡ t)) (own_from T t k m)
unfolding own_from
own_small_from T t k zero = tt
own_small_from T t k (suc m) = go (eqb (T.thread k) t) refl (all_imp (λ o h. (omega (arith, h.0), h.1)) (own_from T t (suc k) m) (own_small_from T t (suc k) m))
  where
    go : (b : Bool) → eqb (T.thread k) t ≡ b → All (λ o. (o < k + suc m) × (T.thread o ≡ t)) (own_from T t (suc k) m)
        → All (λ o. (o < k + suc m) × (T.thread o ≡ t)) (cond b (k ∷ own_from T t (suc k) m) (own_from T t (suc k) m))
    go true b h = ((omega arith, eqb→eq (T.thread k) t (rw b tt)), h)
    go false b h = h

-- what a thread still has to do are operations of the table, its own
pub place_todo : (T : Table) (h : List Event) (t : ℕ) (k : Option Kind) (o : ℕ) (todo : List ℕ) → Place T h t k o todo → All (λ p. (p < T.size) × (T.thread p ≡ t)) todo
place_todo T h t k o todo p = rw p.rest (rw p.whole at (own_small_from T t p.from p.count))

-- ---- what follows of a thread

-- the next operation is an operation of the table, the thread's own, and not yet called
pub working_next : (T : Table) (n : ℕ) (ws : List Worker) (h : List Event) → Working T n ws h → (t : ℕ) → t < n → (o : ℕ) (todo : List ℕ)
    → (get_or ws t idler).phase ≡ Rest → (get_or ws t idler).todo ≡ o ∷ todo → (o < T.size) × (T.thread o ≡ t) × (¬ Called h o)
working_next T n ws h i t lt o todo rests does =
    let old : Place T h t none (get_or ws t idler).current (get_or ws t idler).todo = rw rests at (i.places t lt) in
    let hd = own_head T t old.from old.count o todo (sym old.rest ∙ does) in
    (omega (arith, hd.whole, old.whole), hd.own, old.future o hd.later hd.own)

-- the operation that a thread works on
pub working_now : (T : Table) (n : ℕ) (ws : List Worker) (h : List Event) → Working T n ws h → (t : ℕ) → t < n → (k : Kind)
    → kind_at (get_or ws t idler).phase ≡ some k → Now T h t k (get_or ws t idler).current
working_now T n ws h i t lt k e =
    let old : Place T h t (some k) (get_or ws t idler).current (get_or ws t idler).todo = rw e at (i.places t lt) in
    old.current

-- two threads at work have different operations
pub working_apart : (T : Table) (n : ℕ) (ws : List Worker) (h : List Event) → Working T n ws h → (t q : ℕ) → t < n → q < n → q ≢ t → (k l : Kind)
    → kind_at (get_or ws t idler).phase ≡ some k → kind_at (get_or ws q idler).phase ≡ some l → (get_or ws q idler).current ≢ (get_or ws t idler).current
working_apart T n ws h i t q lt lq ne k l e f same =
    ne (sym (working_now T n ws h i q lq l f).own ∙ ap T.thread same ∙ (working_now T n ws h i t lt k e).own)
