-- Every step keeps each thread in its place and the history standing. Assumes nothing.
use mathlib.Core.Path.{◌≡◌, refl, sym, ap, ◌∙◌}
use mathlib.Core.Logic.{◌≢◌, ◌⊎◌, inl, inr}
use mathlib.Core.Bool.{Bool, true, false, cond}
use mathlib.Core.List.{List, [], ◌∷◌, ◌++◌}
use mathlib.Core.Option.{Option, none, some}
use Prim.Native.Nat.{ℕ, zero, suc, ◌+◌, ◌≤◌, ◌<◌}
use native.Mathlib.Decide.{ℕ_discrete, dec_lt}
use native.Mathlib.Nat.{zero-add, add-zero, suc-add, add-suc}
use native.Mathlib.Omega.{arith}
use lib.Dec.{ltb}
use lib.IntN.{ℤ, pos}
use lib.ListN.{length, get_or, set, length-set}
use Rattle.limits.specs.declared.Kind.{Kind}
use Rattle.limits.specs.declared.Kind.TheVariants.{Put as putting, Take as taking}
use Rattle.limits.specs.Operations.{Table}
use Rattle.history.specs.History.{Event, call, ret, Called, Returned, beside, answer}
use Rattle.history.proofs.HistoryLaws.{Right}
use Rattle.history.proofs.ListLaws.{clash}
use Rattle.history.proofs.PrecedenceLists.{set_case, all_snoc}
use Rattle.history.proofs.PrecedenceLaws.{called_left, called_new, called_call, called_ret, called_event, returned_left, returned_new, returned_call, returned_event, op_of, stands_snoc, stands_called}
use Rattle.machine.specs.declared.Phase.{Phase}
use Rattle.machine.specs.declared.Phase.TheVariants.{Rest, CalledPut, Reserved, Stored, CalledTake, Scanning, Holding}
use Rattle.machine.specs.Bench.{Slot, Empty, Filled, Worker, Bench, back, idler, worker_at, in_phase, first_phase, calls, pass, onward, swaps, step_from, step, own_from, resting, start}
use Rattle.machine.proofs.WorkingLaws.{kind_at, first_kind, Current, AtWork, Place, PlaceOf, Working, WorkingAt, Head, own_head}

-- ---- at the start

resting_at : (T : Table) (t n i : ℕ) → i < n → get_or (resting T t n) i idler ≡ record { phase = Rest; current = 0; todo = own_from T (t + i) 0 T.size }
unfolding resting
resting_at T t zero i lt = clash (omega arith)
resting_at T t (suc n) zero lt = rw (add-zero t)
resting_at T t (suc n) (suc i) lt = rw (resting_at T (suc t) n i (omega arith), suc-add, add-suc)

length_resting : (T : Table) (t n : ℕ) → length (resting T t n) ≡ n
unfolding resting
length_resting T t zero = refl
length_resting T t (suc n) = ap suc (length_resting T (suc t) n)

pub working_start : (T : Table) (n m : ℕ) → Working T n (start T n m).workers (start T n m).history
unfolding start
working_start T n m = record {
  size = length_resting T 0 n;
  places = λ t lt. rw (resting_at T 0 n t lt, zero-add) (record {
    from = 0;
    count = T.size;
    whole = omega arith;
    rest = refl;
    past = λ p l e. clash (omega arith);
    future = λ p l e c. c;
    current = tt;
  });
  stands = tt;
  right = tt;
}

-- ---- one step

-- an event of another thread's operation changes nothing of a thread's place
place_event : (T : Table) (h : List Event) (e : Event) (t : ℕ) (k : Option Kind) (o : ℕ) (todo : List ℕ) → T.thread (op_of e) ≢ t
    → Place T h t k o todo → Place T (h ++ (e ∷ [])) t k o todo
place_event T h e t k o todo ne p = record {
  from = p.from;
  count = p.count;
  whole = p.whole;
  rest = p.rest;
  past = λ q lt own. up q (p.past q lt own);
  future = λ q le own c. not_called q own (p.future q le own) (called_event h e q c);
  current = now k p.current;
}
  where
    up : (q : ℕ) → Returned h q ⊎ AtWork k o q → Returned (h ++ (e ∷ [])) q ⊎ AtWork k o q
    up q (inl r) = inl (returned_left h (e ∷ []) q r)
    up q (inr a) = inr a

    not_called : (q : ℕ) → T.thread q ≡ t → ¬ Called h q → Called h q ⊎ (q ≡ op_of e) → ⊥
    not_called q own n (inl c) = n c
    not_called q own n (inr eq) = ne (rw eq at own)

    not_returned : (q : ℕ) → T.thread q ≡ t → ¬ Returned h q → Returned h q ⊎ (q ≡ op_of e) → ⊥
    not_returned q own n (inl c) = n c
    not_returned q own n (inr eq) = ne (rw eq at own)

    now : (k : Option Kind) → Current T h t o k → Current T (h ++ (e ∷ [])) t o k
    now none c = tt
    now (some kd) c = record {
      small = c.small;
      own = c.own;
      kind = c.kind;
      called = called_left h (e ∷ []) o c.called;
      unreturned = λ r. not_returned o c.own c.unreturned (returned_event h e o r);
    }

module _ (T : Table) (n : ℕ) (B : Bench) (i : WorkingAt T n B) (t : ℕ) (lt : t < n) where
  abbrev ws : List Worker
  ws = B.workers

  abbrev h : List Event
  h = B.history

  abbrev me : Worker
  me = worker_at B t

  abbrev c : ℕ
  c = me.current

  abbrev ph : Phase
  ph = me.phase

  -- the thread goes to another phase of the same operation
  pub working_phase : (p : Phase) → kind_at ph ≡ kind_at p → Working T n (set ws t (in_phase me p)) h
  working_phase p e = record {
    size = length-set ws t (in_phase me p) ∙ i.size;
    places = λ q lq. set_case ws t (in_phase me p) idler q (PlaceOf T h q) (omega (arith, i.size))
        (λ eq. rw (eq, ← e) (i.places t lt)) (λ ne. i.places q lq);
    stands = i.stands;
    right = i.right;
  }

  -- the thread calls its next operation
  pub working_call : (o : ℕ) (todo : List ℕ) → ph ≡ Rest → me.todo ≡ o ∷ todo
      → Working T n (set ws t (record { phase = first_phase (T.kind o); current = o; todo = todo })) (h ++ (call o ∷ []))
  working_call o todo rests does = record {
    size = length-set ws t (record { phase = first_phase (T.kind o); current = o; todo = todo }) ∙ i.size;
    places = λ q lq. set_case ws t (record { phase = first_phase (T.kind o); current = o; todo = todo }) idler q (PlaceOf T (h ++ (call o ∷ [])) q) (omega (arith, i.size))
        (λ eq. rw (eq, first_kind (T.kind o)) new)
        (λ ne. place_event T h (call o) q (kind_at (get_or ws q idler).phase) (get_or ws q idler).current (get_or ws q idler).todo (λ e. ne (sym (sym hd.own ∙ e))) (i.places q lq));
    stands = stands_snoc T [] h (call o) i.stands (small, fresh, (λ p lp e. earlier p lp (e ∙ hd.own)), refl);
    right = all_snoc (Right T) h (call o) i.right tt;
  }
    where
      old : Place T h t none c me.todo
      old = rw rests at (i.places t lt)

      hd : Head T t old.from old.count o todo
      hd = own_head T t old.from old.count o todo (sym old.rest ∙ does)

      small : o < T.size
      small = omega (arith, hd.whole, old.whole)

      fresh : ¬ Called h o
      fresh = old.future o hd.later hd.own

      returned : (p : ℕ) → Returned h p ⊎ AtWork none c p → Returned h p
      returned p (inl r) = r
      returned p (inr a) = absurd a

      earlier : (p : ℕ) → p < o → T.thread p ≡ t → Returned h p
      earlier p lp e = go (dec_lt p old.from)
        where
          go : Dec (p < old.from) → Returned h p
          go (yes l) = returned p (old.past p l e)
          go (no l) = absurd (hd.passed p (omega arith) lp e)

      new : Place T (h ++ (call o ∷ [])) t (some (T.kind o)) o todo
      new = record {
        from = suc o;
        count = hd.count;
        whole = omega (arith, hd.whole, old.whole);
        rest = hd.rest;
        past = λ p lp e. past p lp e (ℕ_discrete p o);
        future = λ p le e c. future p le e (called_call h o p c);
        current = record {
          small = small;
          own = hd.own;
          kind = refl;
          called = called_new h o;
          unreturned = λ r. fresh (stands_called T h i.stands o (returned_call h o o r));
        };
      }
        where
          past : (p : ℕ) → p < suc o → T.thread p ≡ t → Dec (p ≡ o) → Returned (h ++ (call o ∷ [])) p ⊎ AtWork (some (T.kind o)) o p
          past p lp e (yes q) = inr q
          past p lp e (no q) = inl (returned_left h (call o ∷ []) p (earlier p (omega arith) e))

          future : (p : ℕ) → suc o ≤ p → T.thread p ≡ t → Called h p ⊎ (p ≡ o) → ⊥
          future p le e (inl c) = old.future p (omega (arith, hd.later)) e c
          future p le e (inr q) = absurd (omega arith)

  -- the thread returns its operation, with an answer that a put or a take gives
  pub working_ret : (k : Kind) (a : Option ℤ) → kind_at ph ≡ some k → a ≡ answer k (beside (ret c a))
      → Working T n (set ws t (in_phase me Rest)) (h ++ (ret c a ∷ []))
  working_ret k a e gives = record {
    size = length-set ws t (in_phase me Rest) ∙ i.size;
    places = λ q lq. set_case ws t (in_phase me Rest) idler q (PlaceOf T (h ++ (ret c a ∷ [])) q) (omega (arith, i.size))
        (λ eq. rw eq new)
        (λ ne. place_event T h (ret c a) q (kind_at (get_or ws q idler).phase) (get_or ws q idler).current (get_or ws q idler).todo (λ f. ne (sym (sym old.current.own ∙ f))) (i.places q lq));
    stands = stands_snoc T [] h (ret c a) i.stands (old.current.small, old.current.called, old.current.unreturned, λ f. silent k a gives (sym old.current.kind ∙ f));
    right = all_snoc (Right T) h (ret c a) i.right (rw old.current.kind gives);
  }
    where
      old : Place T h t (some k) c me.todo
      old = rw e at (i.places t lt)

      -- beside a put's return stands no sample
      silent : (k : Kind) (b : Option ℤ) → b ≡ answer k (beside (ret c b)) → k ≡ putting → beside (ret c b) ≡ pos 0
      silent putting b g f = rw g
      silent taking b g f = clash (cc)

      new : Place T (h ++ (ret c a ∷ [])) t none c me.todo
      new = record {
        from = old.from;
        count = old.count;
        whole = old.whole;
        rest = old.rest;
        past = λ p lp f. inl (past p (old.past p lp f));
        future = λ p le f k. old.future p le f (called_ret h c a p k);
        current = tt;
      }
        where
          past : (p : ℕ) → Returned h p ⊎ AtWork (some k) c p → Returned (h ++ (ret c a ∷ [])) p
          past p (inl r) = returned_left h (ret c a ∷ []) p r
          past p (inr q) = rw q (returned_new h c a)

  working_calls : (todo : List ℕ) → ph ≡ Rest → me.todo ≡ todo → WorkingAt T n (calls T B t todo)
  working_calls [] rests does = i
  working_calls (o ∷ todo) rests does = working_call o todo rests does

  pass_kind : (b : ℕ) → kind_at (pass b) ≡ some taking
  pass_kind zero = refl
  pass_kind (suc b) = refl

  onward_kind : (j b : ℕ) → kind_at (onward j b) ≡ some taking
  onward_kind j b = go (ltb (j + 1) b)
    where
      go : (c : Bool) → kind_at (cond c (Scanning (j + 1) b) CalledTake) ≡ some taking
      go true = refl
      go false = refl

  working_swaps : (j b : ℕ) (s : Slot) → ph ≡ Scanning j b → WorkingAt T n (swaps B t me j b s)
  working_swaps j b Empty e = working_phase (onward j b) (rw (e, onward_kind j b))
  working_swaps j b (Filled x) e = working_phase (Holding x) (rw e)

  working_from : (p : Phase) → ph ≡ p → WorkingAt T n (step_from T B t me p)
  working_from Rest e = working_calls me.todo e refl
  working_from CalledPut e = working_phase (Reserved (back B)) (rw e)
  working_from (Reserved s) e = working_phase Stored (rw e)
  working_from Stored e = working_ret putting none (rw e) refl
  working_from CalledTake e = working_phase (pass (back B)) (rw (e, pass_kind (back B)))
  working_from (Scanning j b) e = working_swaps j b (get_or B.slots j Empty) e
  working_from (Holding x) e = working_ret taking (some x) (rw e) refl

  pub working_step : WorkingAt T n (step T B t)
  unfolding step
  working_step = working_from (ph) refl
