-- Precedence of puts and takes in every run: what makes the two rows of the listed order fit for the merge. Assumes nothing.
--   Behind    what lies behind a pass and precedes anything that the pass may still meet, has been found
--   Ordered   no later reservation, find or found put precedes an earlier one; what precedes a found put was found
use mathlib.Core.Path.{◌≡◌, refl}
use mathlib.Core.Logic.{◌≢◌, ◌⊎◌, inl, inr}
use mathlib.Core.List.{List, [], ◌∷◌, ◌++◌}
use mathlib.Core.Option.{none, some}
use Prim.Native.Nat.{ℕ, zero, suc, ◌+◌, ◌≤◌, ◌<◌}
use native.Mathlib.Decide.{ℕ_discrete, dec_lt}
use native.Mathlib.Omega.{arith}
use lib.IntN.{ℤ}
use lib.ListN.{length, get_or, set}
use Rattle.limits.specs.Lists.{All, Mem, Pw}
use Rattle.limits.specs.declared.Kind.{Kind}
use Rattle.limits.specs.declared.Kind.TheVariants.{Put as putting, Take as taking}
use Rattle.limits.specs.Operations.{Table}
use Rattle.history.specs.History.{Event, call, ret, Called, Precedes}
use Rattle.history.proofs.ListLaws.{clash, all_imp, all_imp₂, all_of_mem, pw_imp}
use Rattle.history.proofs.PrecedenceLists.{all_snoc, all_get_or, pw_snoc, pw_get_or, set_case, get_or_snoc, once_get_or}
use Rattle.history.proofs.PrecedenceLaws.{precedes_returned, precedes_old, Fresh}
use Rattle.order.specs.Order.{found_puts}
use Rattle.machine.specs.declared.Phase.{Phase}
use Rattle.machine.specs.declared.Phase.TheVariants.{Rest, CalledPut, Reserved, Stored, CalledTake, Scanning, Holding}
use Rattle.machine.specs.Bench.{Slot, Empty, Filled, Worker, Bench, back, idler, worker_at, in_phase, first_phase, calls, pass, onward, swaps, step_from, step, start, played}
use Rattle.machine.proofs.WorkingLaws.{Now, working_sound, working_next, working_now, WorkingAt}
use Rattle.machine.proofs.ScheduleLaws.{played_keeps}
use Rattle.machine.proofs.SlotLaws.{onward_case, SlottedAt}
use Rattle.machine.proofs.FindLaws.{Waits, found_more, resting_phase, FoundAt}
use Rattle.machine.proofs.CountLaws.{PutsAtMost}
use Rattle.machine.proofs.RunLaws.{Run, run_start, run_step}

abbrev pub Behind : List ℕ → List (ℕ × ℕ) → List Event → Phase → Type 0
Behind rs fs h p = (j b : ℕ) → p ≡ Scanning j b → (i k : ℕ) → i < j → k < b → Precedes h (get_or rs i 0) (get_or rs k 0) → Mem (get_or rs i 0) (found_puts fs)

pub record Ordered (T : Table) (n : ℕ) (ws : List Worker) (rs : List ℕ) (fs : List (ℕ × ℕ)) (h : List Event) : Type 0 where
  pub reserved : Pw (λ a b. ¬ Precedes h b a) rs
  pub take_take : Pw (λ e f. ¬ Precedes h f.0 e.0) fs
  pub take_own : All (λ e. ¬ Precedes h e.0 e.1) fs
  pub take_put : Pw (λ e f. ¬ Precedes h f.0 e.1) fs
  pub put_put : Pw (λ e f. ¬ Precedes h f.1 e.1) fs
  pub closed : All (λ e. (a : ℕ) → T.kind a ≡ putting → Precedes h a e.1 → Mem a (found_puts fs)) fs
  pub behind : (t : ℕ) → t < n → Behind rs fs h (get_or ws t idler).phase

abbrev pub OrderedAt : Table → ℕ → Bench → Type 0
OrderedAt T n B = Ordered T n B.workers B.reservations B.finds B.history

pub ordered_start : (T : Table) (n m : ℕ) → OrderedAt T n (start T n m)
unfolding start
ordered_start T n m = record {
  reserved = tt;
  take_take = tt;
  take_own = tt;
  take_put = tt;
  put_put = tt;
  closed = tt;
  behind = λ t lt j b e. clash (cc (resting_phase T 0 n t));
}

-- ---- one step

first_still : (k : Kind) (j b : ℕ) → first_phase k ≢ Scanning j b
first_still putting j b e = clash (cc)
first_still taking j b e = clash (cc)

-- a pass that begins has nothing behind it
behind_pass : (rs : List ℕ) (fs : List (ℕ × ℕ)) (h : List Event) (b : ℕ) → Behind rs fs h (pass b)
behind_pass rs fs h zero j b' e x y lx ly p = clash (cc)
behind_pass rs fs h (suc b) j b' e x y lx ly p =
    let z : 0 ≡ j = cc in
    clash (omega arith)

module _ (T : Table) (n m : ℕ) (B : Bench) (r : Run T n m B) (i : OrderedAt T n B) (t : ℕ) (lt : t < n) where
  abbrev ws : List Worker
  ws = B.workers

  abbrev ss : List Slot
  ss = B.slots

  abbrev rs : List ℕ
  rs = B.reservations

  abbrev fs : List (ℕ × ℕ)
  fs = B.finds

  abbrev h : List Event
  h = B.history

  abbrev me : Worker
  me = worker_at B t

  abbrev c : ℕ
  c = me.current

  abbrev ph : Phase
  ph = me.phase

  w : WorkingAt T n B
  w = r.working

  s : SlottedAt T n m B
  s = r.slotted

  f : FoundAt T B
  f = r.found

  -- every reserved put, and both parts of every find, were called
  reserved_called : All (λ p. Called h p) rs
  reserved_called = all_imp (λ p k. k.1) rs s.puts

  found_called : All (λ e. Called h e.0 × Called h e.1) fs
  found_called = all_imp₂ (λ e k l. (k.1, l.1)) fs f.takes f.puts

  -- an event changes no precedence of what was called before
  ordered_event : (v : Worker) (e : Event) → Fresh h e → ((j b : ℕ) → v.phase ≢ Scanning j b) → Ordered T n (set ws t v) rs fs (h ++ (e ∷ []))
  ordered_event v e new still = record {
    reserved = pw_imp (λ a b ca cb k p. k (precedes_old h e new b a ca p)) rs reserved_called i.reserved;
    take_take = pw_imp (λ d g cd cg k p. k (precedes_old h e new g.0 d.0 cd.0 p)) fs found_called i.take_take;
    take_own = all_imp₂ (λ d cd k p. k (precedes_old h e new d.0 d.1 cd.1 p)) fs found_called i.take_own;
    take_put = pw_imp (λ d g cd cg k p. k (precedes_old h e new g.0 d.1 cd.1 p)) fs found_called i.take_put;
    put_put = pw_imp (λ d g cd cg k p. k (precedes_old h e new g.1 d.1 cd.1 p)) fs found_called i.put_put;
    closed = all_imp₂ (λ d cd k a kd p. k a kd (precedes_old h e new a d.1 cd.1 p)) fs found_called i.closed;
    behind = λ q lq. set_case ws t v idler q (λ z. Behind rs fs (h ++ (e ∷ [])) z.phase) (omega (arith, w.size))
        (λ eq j b g. absurd (still j b g)) (λ ne. others q lq);
  }
    where
      others : (q : ℕ) → q < n → Behind rs fs (h ++ (e ∷ [])) (get_or ws q idler).phase
      others q lq j b g x y lx ly p =
          let k : (j < b) × (b ≤ length rs) = rw g at (s.fits q lq) in
          i.behind q lq j b g x y lx ly
          (precedes_old h e new (get_or rs x 0) (get_or rs y 0) (all_get_or (λ p. Called h p) rs 0 reserved_called y (omega (arith, k.1))) p)

  -- the thread goes to another phase, and no reservation, find or event is added
  ordered_to : (v : Worker) → Behind rs fs h v.phase → Ordered T n (set ws t v) rs fs h
  ordered_to v k = record {
    reserved = i.reserved;
    take_take = i.take_take;
    take_own = i.take_own;
    take_put = i.take_put;
    put_put = i.put_put;
    closed = i.closed;
    behind = λ q lq. set_case ws t v idler q (λ z. Behind rs fs h z.phase) (omega (arith, w.size)) (λ eq. k) (λ ne. i.behind q lq);
  }

  -- a put reserves: it has not returned, so it precedes nothing
  ordered_reserve : (v : Worker) → ph ≡ CalledPut → ((j b : ℕ) → v.phase ≢ Scanning j b) → Ordered T n (set ws t v) (rs ++ (c ∷ [])) fs h
  ordered_reserve v e still = record {
    reserved = pw_snoc (λ a b. ¬ Precedes h b a) rs c i.reserved (all_of_mem (λ a. ¬ Precedes h c a) rs (λ a mm p. now.unreturned (precedes_returned h c a p)));
    take_take = i.take_take;
    take_own = i.take_own;
    take_put = i.take_put;
    put_put = i.put_put;
    closed = i.closed;
    behind = λ q lq. set_case ws t v idler q (λ z. Behind (rs ++ (c ∷ [])) fs h z.phase) (omega (arith, w.size))
        (λ eq j b g. absurd (still j b g)) (λ ne. others q lq);
  }
    where
      now : Now T h t putting c
      now = working_now T n ws h w t lt putting (rw e)

      others : (q : ℕ) → q < n → Behind (rs ++ (c ∷ [])) fs h (get_or ws q idler).phase
      others q lq j b g x y lx ly =
          let k : (j < b) × (b ≤ length rs) = rw g at (s.fits q lq) in
          let ex : get_or (rs ++ (c ∷ [])) x 0 ≡ get_or rs x 0 = get_or_snoc rs c 0 x (omega (arith, k.1)) in
          let ey : get_or (rs ++ (c ∷ [])) y 0 ≡ get_or rs y 0 = get_or_snoc rs c 0 y (omega (arith, k.1)) in
          rw (ex, ey) (i.behind q lq j b g x y lx ly)

  -- what has returned is found, or owns a filled slot
  returned_kept : (a b : ℕ) → T.kind a ≡ putting → Precedes h a b → Mem a (found_puts fs) ⊎ Waits ss rs a
  returned_kept a b kd p = f.kept a kd (inl (precedes_returned h a b p))

  -- a pass meets nothing at slot j: its put, if it precedes anything, has returned, so it was found
  behind_miss : (j b : ℕ) → ph ≡ Scanning j b → get_or ss j Empty ≡ Empty → Behind rs fs h (onward j b)
  behind_miss j b e none_here = onward_case j b (Behind rs fs h) (λ l. next) (λ j' b' g. clash (cc))
    where
      fit : (j < b) × (b ≤ length rs)
      fit = rw e at (s.fits t lt)

      here : (k : ℕ) → Precedes h (get_or rs j 0) (get_or rs k 0) → Mem (get_or rs j 0) (found_puts fs)
      here k p = go (returned_kept (get_or rs j 0) (get_or rs k 0) (all_get_or (λ q. (T.kind q ≡ putting) × Called h q) rs 0 s.puts j (omega (arith, fit.0, fit.1))).0 p)
        where
          go : Mem (get_or rs j 0) (found_puts fs) ⊎ Waits ss rs (get_or rs j 0) → Mem (get_or rs j 0) (found_puts fs)
          go (inl m) = m
          go (inr a) =
              let same : a.slot ≡ j = once_get_or rs 0 s.once a.slot j a.low (omega (arith, fit.0, fit.1)) a.mine in
              clash (cc (none_here, a.filled, same))

      next : Behind rs fs h (Scanning (j + 1) b)
      next j' b' g x y lx ly p =
          let ej : j + 1 ≡ j' = cc in
          let eb : b ≡ b' = cc in
          go (ℕ_discrete x j) ej eb
        where
          go : Dec (x ≡ j) → j + 1 ≡ j' → b ≡ b' → Mem (get_or rs x 0) (found_puts fs)
          go (yes q) ej eb = rw q (here y (rw q at p))
          go (no q) ej eb = i.behind t lt j b e x y (omega arith) (omega arith) p

  -- a take finds the put of slot j: the put precedes no found one; what precedes it lies behind the pass, so it was found; the take has not returned, so it precedes nothing
  ordered_find : (v : Worker) (j b : ℕ) (x : ℤ) → ph ≡ Scanning j b → get_or ss j Empty ≡ Filled x → ((j b : ℕ) → v.phase ≢ Scanning j b)
      → Ordered T n (set ws t v) rs (fs ++ ((c, get_or rs j 0) ∷ [])) h
  ordered_find v j b x e g still = record {
    reserved = i.reserved;
    take_take = pw_snoc (λ d k. ¬ Precedes h k.0 d.0) fs new i.take_take (all_of_mem (λ d. ¬ Precedes h c d.0) fs (λ d mm. first d.0));
    take_own = all_snoc (λ d. ¬ Precedes h d.0 d.1) fs new i.take_own (first (get_or rs j 0));
    take_put = pw_snoc (λ d k. ¬ Precedes h k.0 d.1) fs new i.take_put (all_of_mem (λ d. ¬ Precedes h c d.1) fs (λ d mm. first d.1));
    put_put = pw_snoc (λ d k. ¬ Precedes h k.1 d.1) fs new i.put_put (all_imp (λ d k p. (f.unfound j x g).1 (k (get_or rs j 0) kind_j p)) fs i.closed);
    closed = all_snoc (λ d. (a : ℕ) → T.kind a ≡ putting → Precedes h a d.1 → Mem a (found_puts (fs ++ (new ∷ [])))) fs new
        (all_imp (λ d k a kd p. found_more fs new a (k a kd p)) fs i.closed)
        (λ a kd p. found_more fs new a (before a p (returned_kept a (get_or rs j 0) kd p)));
    behind = λ q lq. set_case ws t v idler q (λ z. Behind rs (fs ++ (new ∷ [])) h z.phase) (omega (arith, w.size))
        (λ eq j b g. absurd (still j b g)) (λ ne j' b' g' y k ly lk p. found_more fs new (get_or rs y 0) (i.behind q lq j' b' g' y k ly lk p));
  }
    where
      new : ℕ × ℕ
      new = (c, get_or rs j 0)

      now : Now T h t taking c
      now = working_now T n ws h w t lt taking (rw e)

      fit : (j < b) × (b ≤ length rs)
      fit = rw e at (s.fits t lt)

      first : (a : ℕ) → ¬ Precedes h c a
      first a p = now.unreturned (precedes_returned h c a p)

      kind_j : T.kind (get_or rs j 0) ≡ putting
      kind_j = (all_get_or (λ q. (T.kind q ≡ putting) × Called h q) rs 0 s.puts j (omega (arith, fit.0, fit.1))).0

      before : (a : ℕ) → Precedes h a (get_or rs j 0) → Mem a (found_puts fs) ⊎ Waits ss rs a → Mem a (found_puts fs)
      before a p (inl m) = m
      before a p (inr k) = lies (dec_lt k.slot j) (ℕ_discrete k.slot j)
        where
          p' : Precedes h (get_or rs k.slot 0) (get_or rs j 0)
          p' = rw k.mine p

          lies : Dec (k.slot < j) → Dec (k.slot ≡ j) → Mem a (found_puts fs)
          lies (yes l) d = rw k.mine at (i.behind t lt j b e k.slot j l fit.0 p')
          lies (no l) (yes q) = absurd ((working_sound T n ws h w).irr (get_or rs j 0) (rw q at p'))
          lies (no l) (no q) = absurd (pw_get_or (λ a b. ¬ Precedes h b a) rs 0 i.reserved j k.slot (omega arith) k.low p')

  ordered_calls : (todo : List ℕ) → ph ≡ Rest → me.todo ≡ todo → OrderedAt T n (calls T B t todo)
  ordered_calls [] rests does = i
  ordered_calls (o ∷ todo) rests does = ordered_event
      (record { phase = first_phase (T.kind o); current = o; todo = todo }) (call o)
      (working_next T n ws h r.working t lt o todo rests does).2 (first_still (T.kind o))

  ordered_swaps : (j b : ℕ) (z : Slot) → ph ≡ Scanning j b → get_or ss j Empty ≡ z → OrderedAt T n (swaps B t me j b z)
  ordered_swaps j b Empty e g = ordered_to
      (in_phase me (onward j b))
      (behind_miss j b e g)
  ordered_swaps j b (Filled x) e g = ordered_find
      (in_phase me (Holding x)) j b x e g (λ j b k. clash (cc))

  ordered_from : (p : Phase) → ph ≡ p → OrderedAt T n (step_from T B t me p)
  ordered_from Rest e = ordered_calls me.todo e refl
  ordered_from CalledPut e = ordered_reserve
      (in_phase me (Reserved (back B))) e (λ j b k. clash (cc))
  ordered_from (Reserved j) e = ordered_to
      (in_phase me Stored) (λ j b k. clash (cc))
  ordered_from Stored e = ordered_event
      (in_phase me Rest) (ret c none) tt (λ j b k. clash (cc))
  ordered_from CalledTake e = ordered_to
      (in_phase me (pass (back B))) (behind_pass rs fs h (back B))
  ordered_from (Scanning j b) e = ordered_swaps j b (get_or ss j Empty) e refl
  ordered_from (Holding x) e = ordered_event
      (in_phase me Rest) (ret c (some x)) tt (λ j b k. clash (cc))

  pub ordered_step : OrderedAt T n (step T B t)
  unfolding step
  ordered_step = ordered_from ph refl

-- after every schedule
module _ (T : Table) (n m : ℕ) (most : PutsAtMost T m) where
  both_step : (B : Bench) (t : ℕ) → t < n → Run T n m B × OrderedAt T n B → Run T n m (step T B t) × OrderedAt T n (step T B t)
  both_step B t lt k = (run_step T n m most B t lt k.0, ordered_step T n m B k.0 k.1 t lt)

  pub ordered_played : (schedule : List ℕ) → All (λ t. t < n) schedule → OrderedAt T n (played T (start T n m) schedule)
  ordered_played schedule s =
      (played_keeps T n (λ B. Run T n m B × OrderedAt T n B) both_step (start T n m) (run_start T n m, ordered_start T n m) schedule s).1
