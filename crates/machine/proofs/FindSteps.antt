-- Every step keeps what links finds, slots, phases and history. Assumes nothing.
use mathlib.Core.Path.{◌≡◌, refl, ◌∙◌, subst}
use mathlib.Core.Logic.{◌≢◌, ◌⊎◌, inl, inr}
use mathlib.Core.List.{List, [], ◌∷◌, ◌++◌, append-nil}
use mathlib.Core.Option.{none, some}
use Prim.Native.Nat.{ℕ, zero, suc, ◌≤◌, ◌<◌}
use native.Mathlib.Decide.{ℕ_discrete}
use native.Mathlib.Omega.{arith}
use lib.IntN.{ℤ}
use lib.ListN.{length, get_or, set, length-append, get_or-append}
use lib.Seq.{get_or-set_same, get_or-set_other}
use Rattle.limits.specs.Lists.{All, Mem}
use Rattle.limits.specs.declared.Kind.{Kind}
use Rattle.limits.specs.declared.Kind.TheVariants.{Put as putting, Take as taking}
use Rattle.limits.specs.Operations.{Table}
use Rattle.history.specs.History.{Event, call, ret, Called, Returned}
use Rattle.history.proofs.HistoryLaws.{mem_ret}
use Rattle.history.proofs.ListLaws.{clash, all_imp, all_mem, all_of_mem, mem_left}
use Rattle.history.proofs.PrecedenceLists.{all_snoc, all_get_or, pw_snoc, mem_last, set_case, set_any, once_get_or}
use Rattle.history.proofs.PrecedenceLaws.{called_left, returned_new, returned_call, returned_ret}
use Rattle.order.specs.Order.{found_puts}
use Rattle.machine.specs.declared.Phase.{Phase}
use Rattle.machine.specs.declared.Phase.TheVariants.{Rest, CalledPut, Reserved, Stored, CalledTake, Scanning, Holding}
use Rattle.machine.specs.Bench.{Slot, Empty, Filled, Worker, Bench, back, worker_at, in_phase, moved, first_phase, calls, pass, onward, swaps, step_from, step}
use Rattle.machine.proofs.WorkingLaws.{Now, WorkingAt, working_now}
use Rattle.machine.proofs.SlotLaws.{SlottedAt, onward_case}
use Rattle.machine.proofs.FindLaws.{InPhase, HasStored, Has, Waits, Found, FoundAt, Quiet, found_mem, found_all, found_more, found_last, found_snoc, in_phase_old, in_phase_mine, stored_new, has_new, stored_old, holding_old}

quiet_first : (k : Kind) → Quiet (first_phase k)
quiet_first putting = tt
quiet_first taking = tt

quiet_pass : (b : ℕ) → Quiet (pass b)
quiet_pass zero = tt
quiet_pass (suc b) = tt

module _ (T : Table) (n m : ℕ) (B : Bench) (w : WorkingAt T n B) (s : SlottedAt T n m B) (room : back B ≤ m) (i : FoundAt T B) (t : ℕ) (lt : t < n) where
  abbrev ws : List Worker
  ws = B.workers

  abbrev ss : List Slot
  ss = B.slots

  abbrev rs : List ℕ
  rs = B.reservations

  abbrev fs : List (ℕ × ℕ)
  fs = B.finds

  abbrev h : List Event
  h = B.history

  abbrev me : Worker
  me = worker_at B t

  abbrev c : ℕ
  c = me.current

  abbrev ph : Phase
  ph = me.phase

  here : t < length ws
  here = omega (arith, w.size)

  -- the parts that a move of thread t keeps
  module _ (v : Worker) (k : List Event) (k-stored : ph ≡ Stored → Returned (h ++ k) c) (k-held : (x : ℤ) → ph ≡ Holding x → Mem (ret c (some x)) (h ++ k)) where
    takes_new : All (λ e. (T.kind e.0 ≡ taking) × Called (h ++ k) e.0 × Has T (set ws t v) (h ++ k) e.0 (T.sample e.1)) fs
    takes_new = all_imp (λ e q. (q.0, called_left h k e.0 q.1, has_new T ws t here v h k k-held e.0 (T.sample e.1) q.2)) fs i.takes

    puts_new : All (λ e. (T.kind e.1 ≡ putting) × Called (h ++ k) e.1 × HasStored T (set ws t v) (h ++ k) e.1) fs
    puts_new = all_imp (λ e q. (q.0, called_left h k e.1 q.1, stored_new T ws t here v h k k-stored e.1 q.2)) fs i.puts

    -- only thread, history and reservations change
    found_move : (r : List ℕ) → ((x : ℤ) → ¬ (v.phase ≡ Holding x)) → ¬ (v.phase ≡ Stored)
        → ((o : ℕ) → T.kind o ≡ taking → Returned (h ++ k) o → (p : ℕ) × Mem (o, p) fs)
        → ((o : ℕ) → T.kind o ≡ putting → Returned (h ++ k) o → HasStored T ws h o) → Found T (set ws t v) ss (rs ++ r) fs (h ++ k)
    found_move r not-held not_stored answered returned = record {
      apart = i.apart;
      takes = takes_new;
      puts = puts_new;
      holds = λ o x p. i.holds o x (holding_old T ws t here v h k o x (not-held x) p);
      answers = answered;
      unfound = λ j x e. rw (get_or-append rs r 0 j (s.held j x e).0) (stored_new T ws t here v h k k-stored (get_or rs j 0) (i.unfound j x e).0, (i.unfound j x e).1);
      kept = λ o kd st. more o (i.kept o kd (stored_old T ws t here v h k not_stored o (returned o kd) st));
    }
      where
        more : (o : ℕ) → Mem o (found_puts fs) ⊎ Waits ss rs o → Mem o (found_puts fs) ⊎ Waits ss (rs ++ r) o
        more o (inl a) = inl a
        more o (inr a) = inr (record {
          slot = a.slot;
          low = omega (arith, a.low, length-append rs r);
          mine = get_or-append rs r 0 a.slot a.low ∙ a.mine;
          sample = a.sample;
          filled = a.filled;
        })

  -- nothing is stored, found or returned
  found_quiet : (v : Worker) (k : List Event) (r : List ℕ) → Quiet ph → Quiet v.phase → ((o : ℕ) → Returned (h ++ k) o → Returned h o) → Found T (set ws t v) ss (rs ++ r) fs (h ++ k)
  found_quiet v k r q q' back = found_move v k (λ e. absurd (subst Quiet e q)) (λ x e. absurd (subst Quiet e q)) r (λ x e. subst Quiet e q') (λ e. subst Quiet e q')
      (λ o kd rt. i.answers o kd (back o rt)) (λ o kd rt. inl (back o rt))

  -- a stored put returns
  found_put_ret : ph ≡ Stored → Found T (set ws t (in_phase me Rest)) ss rs fs (h ++ (ret c none ∷ []))
  found_put_ret e = rw append-nil at (found_move (in_phase me Rest) (ret c none ∷ []) (λ _. returned_new h c none) (λ x f. clash (cc)) [] (λ x f. clash (cc)) (λ f. clash (cc))
      (λ o kd rt. answered o kd (returned_ret h c none o rt)) (λ o kd rt. returned o (returned_ret h c none o rt)))
    where
      now : Now T h t putting c
      now = working_now T n ws h w t lt putting (rw e)

      answered : (o : ℕ) → T.kind o ≡ taking → Returned h o ⊎ (o ≡ c) → (p : ℕ) × Mem (o, p) fs
      answered o kd (inl r) = i.answers o kd r
      answered o kd (inr q) = clash (cc now.kind)

      returned : (o : ℕ) → Returned h o ⊎ (o ≡ c) → HasStored T ws h o
      returned o (inl r) = inl r
      returned o (inr q) = inr (rw (q, now.own) (e, refl))

  -- a take returns what it holds
  found_take_ret : (x : ℤ) → ph ≡ Holding x → Found T (set ws t (in_phase me Rest)) ss rs fs (h ++ (ret c (some x) ∷ []))
  found_take_ret x e = rw append-nil at (found_move (in_phase me Rest) (ret c (some x) ∷ []) (λ f. clash (cc)) held [] (λ y f. clash (cc)) (λ f. clash (cc))
      (λ o kd rt. answered o kd (returned_ret h c (some x) o rt)) (λ o kd rt. returned o kd (returned_ret h c (some x) o rt)))
    where
      now : Now T h t taking c
      now = working_now T n ws h w t lt taking (rw e)

      held : (y : ℤ) → ph ≡ Holding y → Mem (ret c (some y)) (h ++ (ret c (some x) ∷ []))
      held y f =
          let same : y ≡ x = cc in
          rw same (mem_last h (ret c (some x)))

      answered : (o : ℕ) → T.kind o ≡ taking → Returned h o ⊎ (o ≡ c) → (p : ℕ) × Mem (o, p) fs
      answered o kd (inl r) = i.answers o kd r
      answered o kd (inr q) = i.holds o x (rw (q, now.own) (e, refl))

      returned : (o : ℕ) → T.kind o ≡ putting → Returned h o ⊎ (o ≡ c) → HasStored T ws h o
      returned o kd (inl r) = inl r
      returned o kd (inr q) = clash (cc now.kind)

  -- a put stores: it was neither found nor stored before
  found_store : (j : ℕ) → ph ≡ Reserved j → Found T (set ws t (in_phase me Stored)) (set ss j (Filled (T.sample c))) rs fs h
  found_store j e = record {
    apart = i.apart;
    takes = rw append-nil at (takes_new v [] (λ f. clash (cc)) (λ x f. clash (cc)));
    puts = rw append-nil at (puts_new v [] (λ f. clash (cc)) (λ x f. clash (cc)));
    holds = λ o x p. i.holds o x (holding_old T ws t here v h [] o x (λ f. clash (cc)) p);
    answers = i.answers;
    unfound = λ k x. set_any ss j (Filled (T.sample c)) Empty k (λ z. z ≡ Filled x → HasStored T (set ws t v) h (get_or rs k 0) × (¬ Mem (get_or rs k 0) (found_puts fs)))
        (λ eq f. rw (eq, mine.1) (inr (in_phase_mine T ws t here v c now.own refl), unfound_c))
        (λ f. (up (get_or rs k 0) (i.unfound k x f).0, (i.unfound k x f).1));
    kept = λ o kd st. keep o kd st;
  }
    where
      v : Worker
      v = in_phase me Stored

      now : Now T h t putting c
      now = working_now T n ws h w t lt putting (rw e)

      mine : (j < length rs) × (get_or rs j 0 ≡ c) × (get_or ss j Empty ≡ Empty)
      mine = rw e at (s.fits t lt)

      up : (o : ℕ) → HasStored T ws h o → HasStored T (set ws t v) h o
      up o st = rw append-nil at (stored_new T ws t here v h [] (λ f. clash (cc)) o st)

      not_stored : HasStored T ws h c → ⊥
      not_stored (inl r) = now.unreturned r
      not_stored (inr p) = clash (cc (rw now.own at p.0))

      unfound_c : ¬ Mem c (found_puts fs)
      unfound_c mm = not_stored (all_mem (λ o. HasStored T ws h o) (found_puts fs) (found_all (λ o. HasStored T ws h o) fs (all_imp (λ f q. q.2) fs i.puts)) c mm)

      waits : (o : ℕ) → Mem o (found_puts fs) ⊎ Waits ss rs o → Mem o (found_puts fs) ⊎ Waits (set ss j (Filled (T.sample c))) rs o
      waits o (inl a) = inl a
      waits o (inr a) =
          let f : (x : ℤ) × (get_or (set ss j (Filled (T.sample c))) a.slot Empty ≡ Filled x) =
          set_any ss j (Filled (T.sample c)) Empty a.slot (λ z. (x : ℤ) × (z ≡ Filled x)) (λ eq. (T.sample c, refl)) (a.sample, a.filled) in
          inr (record { slot = a.slot; low = a.low; mine = a.mine; sample = f.0; filled = f.1 })

      keep : (o : ℕ) → T.kind o ≡ putting → HasStored T (set ws t v) h o → Mem o (found_puts fs) ⊎ Waits (set ss j (Filled (T.sample c))) rs o
      keep o kd (inl r) = waits o (i.kept o kd (inl r))
      keep o kd (inr p) = go (in_phase_old T ws t here v o Stored p)
        where
          go : InPhase T ws o Stored ⊎ ((T.thread o ≡ t) × (v.phase ≡ Stored) × (v.current ≡ o)) → Mem o (found_puts fs) ⊎ Waits (set ss j (Filled (T.sample c))) rs o
          go (inl q) = waits o (i.kept o kd (inr q))
          go (inr q) = inr (record {
            slot = j;
            low = mine.0;
            mine = mine.1 ∙ q.2;
            sample = T.sample c;
            filled = get_or-set_same ss j (Filled (T.sample c)) Empty (omega (arith, mine.0, s.size));
          })

  -- a take finds: the put was not found before, and the take found nothing before
  found_find : (j b : ℕ) (x : ℤ) → ph ≡ Scanning j b → get_or ss j Empty ≡ Filled x
      → Found T (set ws t (in_phase me (Holding x))) (set ss j Empty) rs (fs ++ ((c, get_or rs j 0) ∷ [])) h
  found_find j b x e f = record {
    apart = pw_snoc (λ d g. (d.0 ≢ g.0) × (d.1 ≢ g.1)) fs (c, get_or rs j 0) i.apart
        (all_of_mem (λ d. (d.0 ≢ c) × (d.1 ≢ get_or rs j 0)) fs
        (λ d mm. (
          λ eq. not_had d eq (all_mem (λ g. (T.kind g.0 ≡ taking) × Called h g.0 × Has T ws h g.0 (T.sample g.1)) fs i.takes d mm).2,
          λ eq. (i.unfound j x f).1 (rw eq at (found_mem fs d mm)),
        )));
    takes = all_snoc (λ d. (T.kind d.0 ≡ taking) × Called h d.0 × Has T (set ws t v) h d.0 (T.sample d.1)) fs (c, get_or rs j 0)
        (rw append-nil at (takes_new v [] (λ g. clash (cc)) (λ y g. clash (cc))))
        (now.kind, now.called, inr (rw (← (s.held j x f).1) (in_phase_mine T ws t here v c now.own refl)));
    puts = all_snoc (λ d. (T.kind d.1 ≡ putting) × Called h d.1 × HasStored T (set ws t v) h d.1) fs (c, get_or rs j 0)
        (rw append-nil at (puts_new v [] (λ g. clash (cc)) (λ y g. clash (cc))))
        (owner.0, owner.1, up (get_or rs j 0) (i.unfound j x f).0);
    holds = λ o y p. held o y (in_phase_old T ws t here v o (Holding y) p);
    answers = λ o kd r. let a = i.answers o kd r in (a.0, mem_left fs ((c, get_or rs j 0) ∷ []) (o, a.0) a.1);
    unfound = λ k y. set_case ss j Empty Empty k (λ z. z ≡ Filled y → HasStored T (set ws t v) h (get_or rs k 0) × (¬ Mem (get_or rs k 0) (found_puts (fs ++ ((c, get_or rs j 0) ∷ []))))) low
        (λ eq g. clash (cc))
        (λ ne g. (up (get_or rs k 0) (i.unfound k y g).0, λ mm. other k ne (s.held k y g).0 (i.unfound k y g).1 (found_snoc fs (c, get_or rs j 0) (get_or rs k 0) mm)));
    kept = λ o kd st. keep o (i.kept o kd (stored_old T ws t here v h [] (λ g. clash (cc)) o (λ r. inl (rw append-nil at r)) (rw append-nil st)));
  }
    where
      v : Worker
      v = in_phase me (Holding x)

      now : Now T h t taking c
      now = working_now T n ws h w t lt taking (rw e)

      low : j < length ss
      low = omega (arith, (s.held j x f).0, s.size)

      owner : (T.kind (get_or rs j 0) ≡ putting) × Called h (get_or rs j 0)
      owner = all_get_or (λ p. (T.kind p ≡ putting) × Called h p) rs 0 s.puts j (s.held j x f).0

      up : (o : ℕ) → HasStored T ws h o → HasStored T (set ws t v) h o
      up o st = rw append-nil at (stored_new T ws t here v h [] (λ g. clash (cc)) o st)

      not_had : (d : ℕ × ℕ) → d.0 ≡ c → Has T ws h d.0 (T.sample d.1) → ⊥
      not_had d eq (inl r) = now.unreturned (rw eq at (mem_ret h d.0 (some (T.sample d.1)) r))
      not_had d eq (inr p) = clash (cc (rw (eq, now.own) at p.0))

      held : (o : ℕ) (y : ℤ) → InPhase T ws o (Holding y) ⊎ ((T.thread o ≡ t) × (v.phase ≡ Holding y) × (v.current ≡ o)) → (p : ℕ) × Mem (o, p) (fs ++ ((c, get_or rs j 0) ∷ []))
      held o y (inl q) = let a = i.holds o y q in (a.0, mem_left fs ((c, get_or rs j 0) ∷ []) (o, a.0) a.1)
      held o y (inr q) = (get_or rs j 0, subst (λ (z : ℕ). Mem (z, get_or rs j 0) (fs ++ ((c, get_or rs j 0) ∷ []))) q.2 (mem_last fs (c, get_or rs j 0)))

      other : (k : ℕ) → k ≢ j → k < length rs → ¬ Mem (get_or rs k 0) (found_puts fs) → Mem (get_or rs k 0) (found_puts fs) ⊎ (get_or rs k 0 ≡ get_or rs j 0) → ⊥
      other k ne lk not (inl a) = not a
      other k ne lk not (inr a) = ne (once_get_or rs 0 s.once k j lk (s.held j x f).0 a)

      keep : (o : ℕ) → Mem o (found_puts fs) ⊎ Waits ss rs o → Mem o (found_puts (fs ++ ((c, get_or rs j 0) ∷ []))) ⊎ Waits (set ss j Empty) rs o
      keep o (inl a) = inl (found_more fs (c, get_or rs j 0) o a)
      keep o (inr a) = go (ℕ_discrete a.slot j)
        where
          go : Dec (a.slot ≡ j) → Mem o (found_puts (fs ++ ((c, get_or rs j 0) ∷ []))) ⊎ Waits (set ss j Empty) rs o
          go (yes q) = inl (rw (← a.mine, q) (found_last fs (c, get_or rs j 0)))
          go (no q) = inr (record { slot = a.slot; low = a.low; mine = a.mine; sample = a.sample; filled = get_or-set_other ss j a.slot Empty Empty q ∙ a.filled })

  found_to : (p : Phase) → Quiet ph → Quiet p → FoundAt T (moved B t (in_phase me p))
  found_to p q q' = simp append-nil at (found_quiet (in_phase me p) [] [] q q' (λ o r. rw append-nil at r))

  found_calls : (todo : List ℕ) → ph ≡ Rest → FoundAt T (calls T B t todo)
  found_calls [] rests = i
  found_calls (o ∷ todo) rests = rw append-nil at (found_quiet
      (record { phase = first_phase (T.kind o); current = o; todo = todo }) (call o ∷ []) [] (rw rests tt) (quiet_first (T.kind o)) (λ p r. returned_call h o p r))

  found_swaps : (j b : ℕ) (z : Slot) → ph ≡ Scanning j b → get_or ss j Empty ≡ z → FoundAt T (swaps B t me j b z)
  found_swaps j b Empty e f = found_to (onward j b) (rw e tt) (onward_case j b Quiet (λ l. tt) tt)
  found_swaps j b (Filled x) e f = found_find j b x e f

  found_from : (p : Phase) → ph ≡ p → FoundAt T (step_from T B t me p)
  found_from Rest e = found_calls me.todo e
  found_from CalledPut e = rw append-nil at (found_quiet
      (in_phase me (Reserved (back B))) [] (c ∷ []) (rw e tt) tt (λ o r. rw append-nil at r))
  found_from (Reserved j) e = found_store j e
  found_from Stored e = found_put_ret e
  found_from CalledTake e = found_to (pass (back B)) (rw e tt) (quiet_pass (back B))
  found_from (Scanning j b) e = found_swaps j b (get_or ss j Empty) e refl
  found_from (Holding x) e = found_take_ret x e

  pub found_step : FoundAt T (step T B t)
  unfolding step
  found_step = found_from ph refl
