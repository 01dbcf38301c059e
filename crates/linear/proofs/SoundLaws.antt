-- An order free of the five faults is a linearization: what is listed is completed, in the order's turn. Assumes nothing.
use mathlib.Core.Path.{◌≡◌, refl, sym, ap}
use mathlib.Core.Logic.{◌≢◌, ◌⊎◌, inl, inr}
use mathlib.Core.List.{List, [], ◌∷◌, ◌++◌}
use mathlib.Core.Option.{Option, none, some}
use Prim.Native.Nat.{ℕ}
use lib.IntN.{ℤ}
use Rattle.limits.specs.Lists.{All, Mem, Pw}
use Rattle.limits.specs.declared.Kind.{Kind}
use Rattle.limits.specs.declared.Kind.TheVariants.{Put as putting, Take as taking}
use Rattle.limits.specs.Operations.{Table}
use Rattle.history.specs.History.{Event, call, ret, Called, Returned, Precedes}
use Rattle.history.proofs.ListLaws.{pick, all_mem, mem_append, mem_left, mem_right}
use Rattle.history.proofs.HistoryLaws.{mem_ret, ret_mem, mem_call, call_mem, Sound}
use Rattle.linear.specs.Conditions.{MayGet, PlaysAt, Plays, Not20, Not21, Not22, Not23, Not24}
use Rattle.linear.specs.Decide.{mem?, returned?}
use Rattle.linear.specs.Linear.{Pending, responses, Removed, Completion, Legal, Linearizes}
use Rattle.linear.proofs.PermuteLaws.{perm_of}
use Rattle.linear.proofs.CompletionLaws.{removed_mem, removed_ret, removed_call, removed_prec, prec_call, call_left, prec_left, call_more, resp_mem, mem_resp, completion_apart}
use Rattle.linear.proofs.LineLaws.{names, line, line_seq, line_calls, line_call, call_line, line_ret, ret_line, pair_line, line_apart}

-- the answer of an operation is the one in the history, if it returned there
abbrev pub Agrees : List Event → ℕ × Option ℤ → Type 0
Agrees h x = (w : Option ℤ) → Mem (ret x.0 w) h → w ≡ x.1

module _ (T : Table) (h : List Event) (so : Sound T h) where
  pub record Answers (q : List ℤ) (l : List ℕ) : Type 0 where
    pub m : List (ℕ × Option ℤ)
    pub named : names m ≡ l
    pub legal : Legal T q (line m)
    pub agree : All (Agrees h) m

  -- the queue gives each operation its answer
  pub answers : (l : List ℕ) (q : List ℤ) → Plays T.kind T.sample (MayGet h) (λ r. Unit {0}) q l → Answers q l
  answers [] q p = record { m = []; named = refl; legal = tt; agree = tt }
  answers (o ∷ l) q p = go (T.kind o) refl q p (answers l)
    where
      go : (k : Kind) → T.kind o ≡ k → (q : List ℤ) → PlaysAt k (T.sample o) (MayGet h o) q (λ r. Plays T.kind T.sample (MayGet h) (λ r. Unit {0}) r l)
          → ((r : List ℤ) → Plays T.kind T.sample (MayGet h) (λ r. Unit {0}) r l → Answers r l) → Answers q (o ∷ l)
      go putting e q p ih =
          let a = ih (q ++ (T.sample o ∷ [])) p in
          record { m = (o, none) ∷ a.m; named = ap (λ n. o ∷ n) a.named; legal = rw e (q ++ (T.sample o ∷ []), (refl, refl), a.legal); agree = (λ w n. so.silent o w n e, a.agree) }
      go taking e [] p ih = absurd p
      go taking e (v ∷ q) p ih =
          let a = ih q p.1 in
          record { m = (o, some v) ∷ a.m; named = ap (λ n. o ∷ n) a.named; legal = rw e (q, (v, refl, refl), a.legal); agree = (p.0, a.agree) }

-- ---- the completion: invocations that are not listed go, listed operations that have not returned answer last

-- the history without the invocations that are not listed
abbrev kept : List ℕ → List Event → List Event
kept l [] = []
kept l (call o ∷ h) = pick (mem? o l) (call o ∷ kept l h) (kept l h)
kept l (ret o v ∷ h) = ret o v ∷ kept l h

-- that is a removal, if what is not listed may go
kept_removed : (P : ℕ → Type 0) (l : List ℕ) (g h : List Event) → ((o : ℕ) → Called h o → ¬ Mem o l → P o) → Removed P g g → Removed P (h ++ g) (kept l h ++ g)
kept_removed P l g [] f r = r
kept_removed P l g (ret o v ∷ h) f r = (kept l h ++ g, refl, kept_removed P l g h f r)
kept_removed P l g (call o ∷ h) f r = go (mem? o l) (kept_removed P l g h (λ q m. f q (inr m)) r)
  where
    go : (d : Dec (Mem o l)) → Removed P (h ++ g) (kept l h ++ g) → Removed P (call o ∷ (h ++ g)) (pick d (call o ∷ kept l h) (kept l h) ++ g)
    go (yes y) k = inr (kept l h ++ g, refl, k)
    go (no n) k = inl (f o (inl refl) n, k)

-- nothing need be removed
none_removed : (P : ℕ → Type 0) (g : List Event) → Removed P g g
none_removed P [] = refl
none_removed P (call o ∷ g) = inr (g, refl, none_removed P g)
none_removed P (ret o v ∷ g) = (g, refl, none_removed P g)

-- what stays is listed
kept_call : (l : List ℕ) (h : List Event) (o : ℕ) → Called (kept l h) o → Mem o l
kept_call l [] o m = absurd m
kept_call l (ret b v ∷ h) o m = kept_call l h o m
kept_call l (call b ∷ h) o m = go (mem? b l) m (kept_call l h o)
  where
    go : (d : Dec (Mem b l)) → Called (pick d (call b ∷ kept l h) (kept l h)) o → (Called (kept l h) o → Mem o l) → Mem o l
    go (yes y) (inl e) ih = rw e y
    go (yes y) (inr n) ih = ih n
    go (no n) k ih = ih k

-- the listed operations that have not returned, with their answers
abbrev late : List Event → List (ℕ × Option ℤ) → List (ℕ × Option ℤ)
late h [] = []
late h (x ∷ m) = pick (returned? h x.0) (late h m) (x ∷ late h m)

-- each of the late ones is a listed operation that has not returned
late_all : (P : ℕ × Option ℤ → Type 0) (h : List Event) (m : List (ℕ × Option ℤ)) → ((x : ℕ × Option ℤ) → Mem x m → Mem x.0 (names m) → ¬ Returned h x.0 → P x) → All P (late h m)
late_all P h [] f = tt
late_all P h (x ∷ m) f = go (returned? h x.0) (late_all P h m (λ y k n. f y (inr k) (inr n)))
  where
    go : (d : Dec (Returned h x.0)) → All P (late h m) → All P (pick d (late h m) (x ∷ late h m))
    go (yes y) ih = ih
    go (no n) ih = (f x (inl refl) (inl refl) n, ih)

-- and each such operation is among them
late_has : (h : List Event) (m : List (ℕ × Option ℤ)) (y : ℕ × Option ℤ) → Mem y m → ¬ Returned h y.0 → Mem y (late h m)
late_has h [] y k n = absurd k
late_has h (x ∷ m) y k n = go (returned? h x.0) k (λ j. late_has h m y j n)
  where
    go : (d : Dec (Returned h x.0)) → Mem y (x ∷ m) → (Mem y m → Mem y (late h m)) → Mem y (pick d (late h m) (x ∷ late h m))
    go (yes r) (inl e) ih = absurd (n (rw e r))
    go (yes r) (inr j) ih = ih j
    go (no _) (inl e) ih = inl e
    go (no _) (inr j) ih = inr (ih j)

-- none of them twice
late_once : (h : List Event) (m : List (ℕ × Option ℤ)) → Pw (λ a b. a ≢ b) (names m) → Pw (λ x y. x.0 ≢ y.0) (late h m)
late_once h [] on = tt
late_once h (x ∷ m) on = go (returned? h x.0) (late_once h m on.1)
  where
    go : (d : Dec (Returned h x.0)) → Pw (λ x y. x.0 ≢ y.0) (late h m) → Pw (λ x y. x.0 ≢ y.0) (pick d (late h m) (x ∷ late h m))
    go (yes y) ih = ih
    go (no n) ih = (late_all (λ y. x.0 ≢ y.0) h m (λ y _ k _. all_mem (λ b. x.0 ≢ b) (names m) on.0 y.0 k), ih)

-- listed operations keep their order
in_line : (h : List Event) (m : List (ℕ × Option ℤ)) (a b : ℕ) → a ≢ b → Mem a (names m) → Mem b (names m) → Pw (λ a b. ¬ Precedes h b a) (names m) → Precedes h a b → Precedes (line m) a b
in_line h [] a b ne ma mb pw p = absurd ma
in_line h (x ∷ m) a b ne (inl ea) (inl eb) pw p = absurd (ne (cc))
in_line h (x ∷ m) a b ne (inl ea) (inr mb) pw p = inl (ea, line_call m b mb)
in_line h (x ∷ m) a b ne (inr ma) (inl eb) pw p = absurd (all_mem (λ y. ¬ Precedes h y x.0) (names m) pw.0 a ma (rw eb at p))
in_line h (x ∷ m) a b ne (inr ma) (inr mb) pw p = inr (in_line h m a b ne ma mb pw.1 p)

module _ (T : Table) (h : List Event) (so : Sound T h) (m : List (ℕ × Option ℤ)) (legal : Legal T [] (line m)) (agree : All (Agrees h) m)
    (n20 : Not20 T (names m)) (n21 : Not21 h (names m)) (n22 : Not22 h (names m)) (n23 : Not23 h (names m)) where
  -- the responses added at the end
  abbrev end : List Event
  end = responses (late h m)

  -- the completion
  abbrev full : List Event
  full = kept (names m) h ++ end

  -- what may be removed
  abbrev Out : ℕ → Type 0
  Out = Pending (h ++ end)

  -- a response at the end is of a listed operation
  ret_end : (o : ℕ) (v : Option ℤ) → Mem (ret o v) end → Mem (ret o v) (line m)
  ret_end o v k = pair_line m (o, v) (all_mem (λ x. Mem x m) (late h m) (late_all (λ x. Mem x m) h m (λ x j _ _. j)) (o, v) (resp_mem (late h m) o v k))

  removed : Removed Out (h ++ end) full
  removed = kept_removed Out (names m) end h (λ o c n. (call_more h end o c, λ r. unlisted o n (ret_mem (h ++ end) o r))) (none_removed Out end)
    where
      unlisted : (o : ℕ) → ¬ Mem o (names m) → (v : Option ℤ) × Mem (ret o v) (h ++ end) → ⊥
      unlisted o n r = go (mem_append h end (ret o r.0) r.1)
        where
          go : Mem (ret o r.0) h ⊎ Mem (ret o r.0) end → ⊥
          go (inl k) = n (n22 o (mem_ret h o r.0 k))
          go (inr k) = n (ret_line m o r.0 (ret_end o r.0 k)).1

  -- the two lists hold the same events
  line_full_ret : (o : ℕ) (v : Option ℤ) → Mem (ret o v) (line m) → Mem (ret o v) full
  line_full_ret o v k = removed_ret Out (h ++ end) full removed o v (go (returned? h o))
    where
      go : Dec (Returned h o) → Mem (ret o v) (h ++ end)
      go (yes r) =
          let w = ret_mem h o r in
          let e : w.0 ≡ v = all_mem (Agrees h) m agree (o, v) (ret_line m o v k).0 w.0 w.1 in
          mem_left h end (ret o v) (rw e at w.1)
      go (no n) = mem_right h end (ret o v) (mem_resp (late h m) (o, v) (late_has h m (o, v) (ret_line m o v k).0 n))

  line_full : (x : Event) → Mem x (line m) → Mem x full
  line_full (ret o v) k = line_full_ret o v k
  line_full (call o) k =
      let n = call_line m o (mem_call (line m) o k) in
      call_mem full o (removed_call Out (h ++ end) full removed o (λ p. p.1 (answered n)) (call_more h end o (all_mem (Called h) (names m) n21 o n)))
    where
      answered : Mem o (names m) → Returned (h ++ end) o
      answered n =
          let r = line_ret m o n in
          mem_ret (h ++ end) o r.0 (removed_mem Out (h ++ end) full removed (ret o r.0) (line_full_ret o r.0 r.1))

  -- an invocation that stays is listed
  call_full : (o : ℕ) → Called full o → Mem o (names m)
  call_full o k = kept_call (names m) h o (call_left (late h m) (kept (names m) h) o k)

  full_line : (x : Event) → Mem x full → Mem x (line m)
  full_line (call o) k = call_mem (line m) o (line_call m o (call_full o (mem_call full o k)))
  full_line (ret o v) k = go (mem_append h end (ret o v) (removed_mem Out (h ++ end) full removed (ret o v) k))
    where
      go : Mem (ret o v) h ⊎ Mem (ret o v) end → Mem (ret o v) (line m)
      go (inl j) =
          let r = line_ret m o (n22 o (mem_ret h o v j)) in
          let e : v ≡ r.0 = all_mem (Agrees h) m agree (o, r.0) r.2 v j in
          rw e r.1
      go (inr j) = ret_end o v j

  -- it is a completion
  full_is : Completion h full
  full_is = record {
    added = late h m;
    matching = late_all (λ x. Pending h x.0) h m (λ x _ k n. (all_mem (Called h) (names m) n21 x.0 k, n));
    once = late_once h m n20.1;
    removed = removed;
    complete = λ o k. let r = line_ret m o (call_full o k) in mem_ret full o r.0 (line_full_ret o r.0 r.1);
  }

  -- what precedes in it precedes in the line
  full_keeps : (a b : ℕ) → Precedes full a b → Precedes (line m) a b
  full_keeps a b p =
      let q : Precedes h a b = prec_left (late h m) h a b (removed_prec Out (h ++ end) full removed a b p) in
      in_line h m a b (λ e. so.irr a (rw (← e) at q)) (n22 a (prec_call h a b q).0) (call_full b (prec_call full a b p).1) n23 q

  -- so the line is a linearization
  from_line : Linearizes T h (names m)
  from_line = record {
    c = full;
    s = line m;
    completion = full_is;
    sequential = line_seq m;
    legal = legal;
    permutes = perm_of (line m) full (line_apart m n20.1) (completion_apart h full full_is so.apart) line_full full_line;
    keeps = full_keeps;
    in_turn = line_calls m;
  }

-- the queue answers each listed operation; with these answers the order is a linearization
pub conditions_linearize : (T : Table) (h : List Event) (l : List ℕ) → Sound T h → Not20 T l → Not21 h l → Not22 h l → Not23 h l → Not24 T h l → Linearizes T h l
conditions_linearize T h l so a b c d e =
    let r = answers T h so l [] e in
    let n : l ≡ names r.m = sym r.named in
    rw n (from_line T h so r.m r.legal r.agree (rw n at a) (rw n at b) (rw n at c) (rw n at d))
