-- Reservations and slots in every run: slot i belongs to the put that reserved it, and holds that put's sample or nothing. Assumes nothing.
--   Fits      what a phase says of reservations and slots
--   Slotted   no put reserves twice, a filled slot holds its put's sample, every thread's phase fits
use mathlib.Core.Path.{◌≡◌, refl, sym, ap, ◌∙◌}
use mathlib.Core.Logic.{◌≢◌, ◌⊎◌, inl, inr}
use mathlib.Core.Bool.{Bool, true, false, cond}
use mathlib.Core.List.{List, [], ◌∷◌, ◌++◌, append-nil}
use mathlib.Core.Option.{none, some}
use Prim.Native.Nat.{ℕ, zero, suc, ◌+◌, ◌≤◌, ◌<◌}
use native.Mathlib.Omega.{arith}
use lib.Dec.{ltb, ltb→lt}
use lib.IntN.{ℤ}
use lib.ListN.{length, get_or, set, replicate, length-set, length-replicate}
use Rattle.limits.specs.Lists.{All, Mem, Pw}
use Rattle.limits.specs.declared.Kind.{Kind}
use Rattle.limits.specs.declared.Kind.TheVariants.{Put as putting, Take as taking}
use Rattle.limits.specs.Operations.{Table}
use Rattle.history.specs.History.{Event, call, ret, Called}
use Rattle.history.proofs.ListLaws.{clash, all_imp, all_mem, all_of_mem}
use Rattle.history.proofs.PrecedenceLists.{all_snoc, pw_snoc, mem_snoc, set_case, set_any, length_snoc, get_or_snoc, get_or_last}
use Rattle.history.proofs.PrecedenceLaws.{called_left}
use Rattle.machine.specs.declared.Phase.{Phase}
use Rattle.machine.specs.declared.Phase.TheVariants.{Rest, CalledPut, Reserved, Stored, CalledTake, Scanning, Holding}
use Rattle.machine.specs.Bench.{Slot, Empty, Filled, Worker, Bench, back, idler, worker_at, in_phase, first_phase, calls, pass, onward, swaps, step_from, step, resting, start}
use Rattle.machine.proofs.WorkingLaws.{Now, WorkingAt, working_next, working_now, working_apart}

-- with reservations rs and slots ss, of a thread whose operation is o
module _ (rs : List ℕ) (ss : List Slot) (o : ℕ) where
  abbrev pub Fits : Phase → Type 0
  Fits Rest = Unit {0}
  Fits CalledPut = ¬ Mem o rs
  Fits (Reserved i) = (i < length rs) × (get_or rs i 0 ≡ o) × (get_or ss i Empty ≡ Empty)
  Fits Stored = Unit {0}
  Fits CalledTake = Unit {0}
  Fits (Scanning j b) = (j < b) × (b ≤ length rs)
  Fits (Holding x) = Unit {0}

pub record Slotted (T : Table) (n m : ℕ) (ws : List Worker) (ss : List Slot) (rs : List ℕ) (h : List Event) : Type 0 where
  pub size : length ss ≡ m
  pub once : Pw (λ a b. a ≢ b) rs
  pub puts : All (λ p. (T.kind p ≡ putting) × Called h p) rs
  pub held : (i : ℕ) (x : ℤ) → get_or ss i Empty ≡ Filled x → (i < length rs) × (x ≡ T.sample (get_or rs i 0))
  pub fits : (t : ℕ) → t < n → Fits rs ss (get_or ws t idler).current (get_or ws t idler).phase

abbrev pub SlottedAt : Table → ℕ → ℕ → Bench → Type 0
SlottedAt T n m B = Slotted T n m B.workers B.slots B.reservations B.history

pub empty_not : {A : Type 0} {s : Slot} {x : ℤ} → s ≡ Empty → s ≡ Filled x → A
empty_not e f = clash (cc)

module _ (T : Table) (n m : ℕ) (ws : List Worker) (ss : List Slot) (rs : List ℕ) (h : List Event) (i : Slotted T n m ws ss rs h) where
  -- slots that nobody reserved are empty
  pub slot_beyond : (j : ℕ) → length rs ≤ j → get_or ss j Empty ≡ Empty
  slot_beyond j le = go (get_or ss j Empty) refl
    where
      go : (s : Slot) → get_or ss j Empty ≡ s → s ≡ Empty
      go Empty e = refl
      go (Filled x) e = clash (omega (arith, i.held j x e))

-- ---- at the start

resting_rest : (T : Table) (t n q : ℕ) (rs : List ℕ) (ss : List Slot) → Fits rs ss (get_or (resting T t n) q idler).current (get_or (resting T t n) q idler).phase
unfolding resting
resting_rest T t zero q rs ss = tt
resting_rest T t (suc n) zero rs ss = tt
resting_rest T t (suc n) (suc q) rs ss = resting_rest T (suc t) n q rs ss

all_empty : (m j : ℕ) → get_or (replicate m Empty) j Empty ≡ Empty
all_empty zero j = refl
all_empty (suc m) zero = refl
all_empty (suc m) (suc j) = all_empty m j

pub slotted_start : (T : Table) (n m : ℕ) → SlottedAt T n m (start T n m)
unfolding start
slotted_start T n m = record {
  size = length-replicate m Empty;
  once = tt;
  puts = tt;
  held = λ j x e. empty_not (all_empty m j) e;
  fits = λ t lt. resting_rest T 0 n t [] (replicate m Empty);
}

-- ---- one step

pub pass_fits : (rs : List ℕ) (ss : List Slot) (c b : ℕ) → b ≡ length rs → Fits rs ss c (pass b)
pass_fits rs ss c zero e = tt
pass_fits rs ss c (suc b) e = (omega arith, omega arith)

-- where a miss leads, by whether a slot is left
pub onward_case : (j b : ℕ) (P : Phase → Type 0) → (j + 1 < b → P (Scanning (j + 1) b)) → P CalledTake → P (onward j b)
onward_case j b P more last = go (ltb (j + 1) b) refl
  where
    go : (c : Bool) → ltb (j + 1) b ≡ c → P (cond c (Scanning (j + 1) b) CalledTake)
    go true e = more (ltb→lt (j + 1) b (rw e tt))
    go false e = last

module _ (T : Table) (n m : ℕ) (B : Bench) (w : WorkingAt T n B) (i : SlottedAt T n m B) (t : ℕ) (lt : t < n) where
  abbrev ws : List Worker
  ws = B.workers

  abbrev ss : List Slot
  ss = B.slots

  abbrev rs : List ℕ
  rs = B.reservations

  abbrev h : List Event
  h = B.history

  abbrev me : Worker
  me = worker_at B t

  abbrev o : ℕ
  o = me.current

  abbrev ph : Phase
  ph = me.phase

  -- only the thread and the history change
  slotted_move : (v : Worker) (k : List Event) → Fits rs ss v.current v.phase → Slotted T n m (set ws t v) ss rs (h ++ k)
  slotted_move v k f = record {
    size = i.size;
    once = i.once;
    puts = all_imp (λ p c. (c.0, called_left h k p c.1)) rs i.puts;
    held = i.held;
    fits = λ q lq. set_case ws t v idler q (λ z. Fits rs ss z.current z.phase) (omega (arith, w.size)) (λ eq. f) (λ ne. i.fits q lq);
  }

  slotted_to : (p : Phase) → Fits rs ss o p → Slotted T n m (set ws t (in_phase me p)) ss rs h
  slotted_to p f = rw append-nil at (slotted_move (in_phase me p) [] f)

  -- a put reserves: slots that nobody had are empty, and no other thread works on this put
  slotted_reserve : ph ≡ CalledPut → Slotted T n m (set ws t (in_phase me (Reserved (length rs)))) ss (rs ++ (o ∷ [])) h
  slotted_reserve e = record {
    size = i.size;
    once = pw_snoc (λ a b. a ≢ b) rs o i.once (all_of_mem (λ a. a ≢ o) rs (λ a k eq. new (rw eq at k)));
    puts = all_snoc (λ p. (T.kind p ≡ putting) × Called h p) rs o i.puts (now.kind, now.called);
    held = λ j x f. let k = i.held j x f in (omega (arith, k.0, length_snoc rs o), rw (get_or_snoc rs o 0 j k.0) k.1);
    fits = λ q lq. set_case ws t (in_phase me (Reserved (length rs))) idler q (λ z. Fits (rs ++ (o ∷ [])) ss z.current z.phase) (omega (arith, w.size))
        (λ eq. (omega (arith, length_snoc rs o), get_or_last rs o 0, slot_beyond T n m ws ss rs h i (length rs) (omega arith)))
        (λ ne. others q lq ne (get_or ws q idler).phase refl (i.fits q lq));
  }
    where
      now : Now T h t putting o
      now = working_now T n ws h w t lt putting (rw e)

      new : ¬ Mem o rs
      new = rw e at (i.fits t lt)

      others : (q : ℕ) → q < n → q ≢ t → (p : Phase) → (get_or ws q idler).phase ≡ p → Fits rs ss (get_or ws q idler).current p → Fits (rs ++ (o ∷ [])) ss (get_or ws q idler).current p
      others q lq ne Rest f k = tt
      others q lq ne CalledPut f k = λ mm. not_new (mem_snoc rs o (get_or ws q idler).current mm)
        where
          not_new : Mem (get_or ws q idler).current rs ⊎ ((get_or ws q idler).current ≡ o) → ⊥
          not_new (inl a) = k a
          not_new (inr a) = working_apart T n ws h w t q lt lq ne putting putting (rw e) (rw f) a
      others q lq ne (Reserved j) f k = (omega (arith, k.0, length_snoc rs o), get_or_snoc rs o 0 j k.0 ∙ k.1, k.2)
      others q lq ne Stored f k = tt
      others q lq ne CalledTake f k = tt
      others q lq ne (Scanning j b) f k = (k.0, omega (arith, k.1, length_snoc rs o))
      others q lq ne (Holding x) f k = tt

  -- a put stores: its slot is its own
  slotted_store : (j : ℕ) → ph ≡ Reserved j
      → Slotted T n m (set ws t (in_phase me Stored)) (set ss j (Filled (T.sample o))) rs h
  slotted_store j e = record {
    size = length-set ss j (Filled (T.sample o)) ∙ i.size;
    once = i.once;
    puts = i.puts;
    held = λ k x. set_any ss j (Filled (T.sample o)) Empty k (λ s. s ≡ Filled x → (k < length rs) × (x ≡ T.sample (get_or rs k 0)))
        (λ eq f. (omega (arith, mine.0), here k x eq f)) (i.held k x);
    fits = λ q lq. set_case ws t (in_phase me Stored) idler q (λ z. Fits rs (set ss j (Filled (T.sample o))) z.current z.phase) (omega (arith, w.size))
        (λ eq. tt) (λ ne. others q lq ne (get_or ws q idler).phase refl (i.fits q lq));
  }
    where
      mine : (j < length rs) × (get_or rs j 0 ≡ o) × (get_or ss j Empty ≡ Empty)
      mine = rw e at (i.fits t lt)

      here : (k : ℕ) (x : ℤ) → k ≡ j → Filled (T.sample o) ≡ Filled x → x ≡ T.sample (get_or rs k 0)
      here k x eq f = rw (eq, mine.1) (cc)

      others : (q : ℕ) → q < n → q ≢ t → (p : Phase) → (get_or ws q idler).phase ≡ p → Fits rs ss (get_or ws q idler).current p → Fits rs (set ss j (Filled (T.sample o))) (get_or ws q idler).current p
      others q lq ne Rest f k = tt
      others q lq ne CalledPut f k = k
      others q lq ne (Reserved l) f k = (
        k.0,
        k.1,
        set_any ss j (Filled (T.sample o)) Empty l (λ s. s ≡ Empty)
            (λ eq. absurd (working_apart T n ws h w t q lt lq ne putting putting (rw e) (rw f) (sym k.1 ∙ ap (λ z. get_or rs z 0) eq ∙ mine.1))) k.2,
      )
      others q lq ne Stored f k = tt
      others q lq ne CalledTake f k = tt
      others q lq ne (Scanning l b) f k = k
      others q lq ne (Holding x) f k = tt

  -- a take empties a slot
  slotted_find : (j : ℕ) (x : ℤ) → Slotted T n m (set ws t (in_phase me (Holding x))) (set ss j Empty) rs h
  slotted_find j x = record {
    size = length-set ss j Empty ∙ i.size;
    once = i.once;
    puts = i.puts;
    held = λ k y. set_any ss j Empty Empty k (λ s. s ≡ Filled y → (k < length rs) × (y ≡ T.sample (get_or rs k 0))) (λ eq f. clash (cc)) (i.held k y);
    fits = λ q lq. set_case ws t (in_phase me (Holding x)) idler q (λ z. Fits rs (set ss j Empty) z.current z.phase) (omega (arith, w.size))
        (λ eq. tt) (λ ne. others (get_or ws q idler).current (get_or ws q idler).phase (i.fits q lq));
  }
    where
      others : (c : ℕ) (p : Phase) → Fits rs ss c p → Fits rs (set ss j Empty) c p
      others c Rest k = tt
      others c CalledPut k = k
      others c (Reserved l) k = (k.0, k.1, set_any ss j Empty Empty l (λ s. s ≡ Empty) (λ eq. refl) k.2)
      others c Stored k = tt
      others c CalledTake k = tt
      others c (Scanning l b) k = k
      others c (Holding y) k = tt

  slotted_calls : (todo : List ℕ) → ph ≡ Rest → me.todo ≡ todo → SlottedAt T n m (calls T B t todo)
  slotted_calls [] rests does = i
  slotted_calls (o ∷ todo) rests does =
      slotted_move (record { phase = first_phase (T.kind o); current = o; todo = todo }) (call o ∷ []) (first (T.kind o))
    where
      first : (k : Kind) → Fits rs ss o (first_phase k)
      first putting = λ mm. (working_next T n ws h w t lt o todo rests does).2
          (all_mem (λ p. (T.kind p ≡ putting) × Called h p) rs i.puts o mm).1
      first taking = tt

  slotted_swaps : (j b : ℕ) (s : Slot) → ph ≡ Scanning j b → SlottedAt T n m (swaps B t me j b s)
  slotted_swaps j b Empty e =
      let k : (j < b) × (b ≤ back B) = rw e at (i.fits t lt) in
      slotted_to (onward j b)
      (onward_case j b (Fits rs ss o) (λ l. (l, k.1)) tt)
  slotted_swaps j b (Filled x) e = slotted_find j x

  slotted_from : (p : Phase) → ph ≡ p → SlottedAt T n m (step_from T B t me p)
  slotted_from Rest e = slotted_calls me.todo e refl
  slotted_from CalledPut e = slotted_reserve e
  slotted_from (Reserved j) e = slotted_store j e
  slotted_from Stored e = slotted_move (in_phase me Rest) (ret o none ∷ []) tt
  slotted_from CalledTake e = slotted_to (pass (back B)) (pass_fits rs ss o (back B) refl)
  slotted_from (Scanning j b) e = slotted_swaps j b (get_or ss j Empty) e
  slotted_from (Holding x) e = slotted_move (in_phase me Rest) (ret o (some x) ∷ []) tt

  pub slotted_step : SlottedAt T n m (step T B t)
  unfolding step
  slotted_step = slotted_from ph refl
