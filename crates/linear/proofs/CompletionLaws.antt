-- Laws of completions: invocations removed, responses added at the end. Assumes nothing.
use mathlib.Core.Path.{◌≡◌}
use mathlib.Core.Logic.{◌≢◌, inl, inr}
use mathlib.Core.List.{List, [], ◌∷◌, ◌++◌}
use mathlib.Core.Option.{Option}
use Prim.Native.Nat.{ℕ}
use lib.IntN.{ℤ}
use Rattle.limits.specs.Lists.{All, Mem, Pw}
use Rattle.history.specs.History.{Event, call, ret, Called, Returned, Precedes}
use Rattle.history.proofs.ListLaws.{clash, all_imp, all_mem, all_of_mem, pw_append}
use Rattle.history.proofs.HistoryLaws.{mem_ret, mem_call, call_mem, Apart}
use Rattle.linear.specs.Linear.{Pending, responses, Removed, Completion}

-- ---- invocations removed

module _ (P : ℕ → Type 0) where
  -- nothing new comes in
  pub removed_mem : (h c : List Event) → Removed P h c → (x : Event) → Mem x c → Mem x h
  removed_mem [] c r x m = rw r at m
  removed_mem (call o ∷ h) c (inl r) x m = inr (removed_mem h c r.1 x m)
  removed_mem (call o ∷ h) c (inr r) x m = go (rw r.1 at m) (removed_mem h r.0 r.2 x)
    where
      go : Mem x (call o ∷ r.0) → (Mem x r.0 → Mem x h) → Mem x (call o ∷ h)
      go (inl q) ih = inl q
      go (inr n) ih = inr (ih n)
  removed_mem (ret o a ∷ h) c r x m = go (rw r.1 at m) (removed_mem h r.0 r.2 x)
    where
      go : Mem x (ret o a ∷ r.0) → (Mem x r.0 → Mem x h) → Mem x (ret o a ∷ h)
      go (inl q) ih = inl q
      go (inr n) ih = inr (ih n)

  -- no response goes
  pub removed_ret : (h c : List Event) → Removed P h c → (p : ℕ) (v : Option ℤ) → Mem (ret p v) h → Mem (ret p v) c
  removed_ret [] c r p v m = absurd m
  removed_ret (call o ∷ h) c r p v (inl q) = clash (cc)
  removed_ret (call o ∷ h) c (inl r) p v (inr m) = removed_ret h c r.1 p v m
  removed_ret (call o ∷ h) c (inr r) p v (inr m) = rw r.1 (inr (removed_ret h r.0 r.2 p v m))
  removed_ret (ret o a ∷ h) c r p v (inl q) = rw r.1 (inl q)
  removed_ret (ret o a ∷ h) c r p v (inr m) = rw r.1 (inr (removed_ret h r.0 r.2 p v m))

  pub removed_called : (h c : List Event) → Removed P h c → (o : ℕ) → Called c o → Called h o
  removed_called h c r o m = mem_call h o (removed_mem h c r (call o) (call_mem c o m))

  -- an invocation that may not go stays
  pub removed_call : (h c : List Event) → Removed P h c → (p : ℕ) → ¬ P p → Called h p → Called c p
  removed_call [] c r p np m = absurd m
  removed_call (call o ∷ h) c (inl r) p np (inl q) = absurd (np (rw q r.0))
  removed_call (call o ∷ h) c (inl r) p np (inr m) = removed_call h c r.1 p np m
  removed_call (call o ∷ h) c (inr r) p np (inl q) = rw r.1 (inl q)
  removed_call (call o ∷ h) c (inr r) p np (inr m) = rw r.1 (inr (removed_call h r.0 r.2 p np m))
  removed_call (ret o a ∷ h) c r p np m = rw r.1 (removed_call h r.0 r.2 p np m)

  -- events stay apart
  rest_apart : (h d : List Event) (e : Event) → Removed P h d → All (Apart e) h → All (Apart e) d
  rest_apart h d e r a = all_of_mem (Apart e) d (λ x m. all_mem (Apart e) h a x (removed_mem h d r x m))

  pub removed_apart : (h c : List Event) → Removed P h c → Pw Apart h → Pw Apart c
  removed_apart [] c r a = rw r tt
  removed_apart (call o ∷ h) c (inl r) a = removed_apart h c r.1 a.1
  removed_apart (call o ∷ h) c (inr r) a = rw r.1 (rest_apart h r.0 (call o) r.2 a.0, removed_apart h r.0 r.2 a.1)
  removed_apart (ret o v ∷ h) c r a = rw r.1 (rest_apart h r.0 (ret o v) r.2 a.0, removed_apart h r.0 r.2 a.1)

  -- what precedes in the rest preceded before
  pub removed_prec : (h c : List Event) → Removed P h c → (a b : ℕ) → Precedes c a b → Precedes h a b
  removed_prec [] c r a b p = rw r at p
  removed_prec (call o ∷ h) c (inl r) a b p = removed_prec h c r.1 a b p
  removed_prec (call o ∷ h) c (inr r) a b p = removed_prec h r.0 r.2 a b (rw r.1 at p)
  removed_prec (ret o v ∷ h) c r a b p = go (rw r.1 at p) (removed_prec h r.0 r.2 a b)
    where
      go : Precedes (ret o v ∷ r.0) a b → (Precedes r.0 a b → Precedes h a b) → Precedes (ret o v ∷ h) a b
      go (inl q) ih = inl (q.0, removed_called h r.0 r.2 b q.1)
      go (inr q) ih = inr (ih q)

  -- and what preceded an operation that is still there precedes it
  pub prec_removed : (h c : List Event) → Removed P h c → (a b : ℕ) → ¬ P b → Precedes h a b → Precedes c a b
  prec_removed [] c r a b nb p = absurd p
  prec_removed (call o ∷ h) c (inl r) a b nb p = prec_removed h c r.1 a b nb p
  prec_removed (call o ∷ h) c (inr r) a b nb p = rw r.1 (prec_removed h r.0 r.2 a b nb p)
  prec_removed (ret o v ∷ h) c r a b nb (inl p) = rw r.1 (inl (p.0, removed_call h r.0 r.2 b nb p.1))
  prec_removed (ret o v ∷ h) c r a b nb (inr p) = rw r.1 (inr (prec_removed h r.0 r.2 a b nb p))

-- ---- responses added to the end

-- what precedes has returned, and what is preceded was called
pub prec_call : (h : List Event) (a b : ℕ) → Precedes h a b → Returned h a × Called h b
prec_call [] a b p = absurd p
prec_call (call c ∷ h) a b p = let r = prec_call h a b p in (r.0, inr r.1)
prec_call (ret c v ∷ h) a b (inl p) = (inl p.0, p.1)
prec_call (ret c v ∷ h) a b (inr p) = let r = prec_call h a b p in (inr r.0, r.1)

-- responses hold no invocation
pub no_call : (g : List (ℕ × Option ℤ)) (o : ℕ) → ¬ Called (responses g) o
no_call [] o m = m
no_call (x ∷ g) o m = no_call g o m

-- a response is one of the pairs, and each pair is a response
pub resp_mem : (g : List (ℕ × Option ℤ)) (o : ℕ) (v : Option ℤ) → Mem (ret o v) (responses g) → Mem (o, v) g
resp_mem [] o v m = m
resp_mem (x ∷ g) o v (inl e) = let eo : o ≡ x.0 = cc in let ev : v ≡ x.1 = cc in inl (rw (eo, ev))
resp_mem (x ∷ g) o v (inr m) = inr (resp_mem g o v m)

pub mem_resp : (g : List (ℕ × Option ℤ)) (x : ℕ × Option ℤ) → Mem x g → Mem (ret x.0 x.1) (responses g)
mem_resp [] x m = m
mem_resp (y ∷ g) x (inl e) = inl (rw e)
mem_resp (y ∷ g) x (inr m) = inr (mem_resp g x m)

module _ (g : List (ℕ × Option ℤ)) where
  -- the invocations are those of the history
  pub call_left : (h : List Event) (o : ℕ) → Called (h ++ responses g) o → Called h o
  call_left [] o m = absurd (no_call g o m)
  call_left (call b ∷ h) o (inl e) = inl e
  call_left (call b ∷ h) o (inr m) = inr (call_left h o m)
  call_left (ret b v ∷ h) o m = call_left h o m

  -- responses at the end precede nothing
  pub prec_left : (h : List Event) (a b : ℕ) → Precedes (h ++ responses g) a b → Precedes h a b
  prec_left [] a b p = absurd (no_call g b (prec_call (responses g) a b p).1)
  prec_left (call c ∷ h) a b p = prec_left h a b p
  prec_left (ret c v ∷ h) a b (inl p) = inl (p.0, call_left h b p.1)
  prec_left (ret c v ∷ h) a b (inr p) = inr (prec_left h a b p)

-- what was there stays
pub call_more : (h g : List Event) (o : ℕ) → Called h o → Called (h ++ g) o
call_more [] g o m = absurd m
call_more (call b ∷ h) g o (inl e) = inl e
call_more (call b ∷ h) g o (inr m) = inr (call_more h g o m)
call_more (ret b v ∷ h) g o m = call_more h g o m

pub prec_more : (h g : List Event) (a b : ℕ) → Precedes h a b → Precedes (h ++ g) a b
prec_more [] g a b p = absurd p
prec_more (call c ∷ h) g a b p = prec_more h g a b p
prec_more (ret c v ∷ h) g a b (inl p) = inl (p.0, call_more h g b p.1)
prec_more (ret c v ∷ h) g a b (inr p) = inr (prec_more h g a b p)

-- responses of different operations are apart, from each other and from those of the history
resp_all : (P : Event → Type 0) (g : List (ℕ × Option ℤ)) → All (λ x. P (ret x.0 x.1)) g → All P (responses g)
resp_all P [] a = tt
resp_all P (x ∷ g) a = (a.0, resp_all P g a.1)

resp_apart : (g : List (ℕ × Option ℤ)) → Pw (λ x y. x.0 ≢ y.0) g → Pw Apart (responses g)
resp_apart [] o = tt
resp_apart (x ∷ g) o = (resp_all (Apart (ret x.0 x.1)) g o.0, resp_apart g o.1)

cross : (h : List Event) (g : List (ℕ × Option ℤ)) → All (λ x. Pending h x.0) g → (e : Event) → Mem e h → All (Apart e) (responses g)
cross h g al (call o) m = resp_all (Apart (call o)) g (all_imp (λ x _. tt) g al)
cross h g al (ret o v) m = resp_all (Apart (ret o v)) g (all_imp (λ x p e. p.1 (rw e at (mem_ret h o v m))) g al)

-- so the events of a completion are apart
pub completion_apart : (h c : List Event) (k : Completion h c) → Pw Apart h → Pw Apart c
completion_apart h c k a =
    removed_apart (Pending (h ++ responses k.added)) (h ++ responses k.added) c k.removed
    (pw_append Apart h (responses k.added) a (resp_apart k.added k.once)
    (all_of_mem (λ x. All (Apart x) (responses k.added)) h (cross h k.added k.matching)))
