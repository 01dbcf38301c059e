-- Laws of calls, returns and precedence in a history, and of a history in which every event can stand. Assumes nothing.
-- A history grows at its end by one event; the laws say what that changes.
use mathlib.Core.Path.{◌≡◌, refl}
use mathlib.Core.Logic.{◌≢◌, ◌⊎◌, inl, inr}
use mathlib.Core.List.{List, [], ◌∷◌, ◌++◌, map, append-nil, append_assoc}
use mathlib.Core.Option.{Option}
use Prim.Native.Nat.{ℕ, zero, suc, ◌+◌, ◌*◌, ◌/◌, ◌%◌, ◌≤◌, ◌<◌}
use native.Mathlib.Nat.{not-suc-le-zero, le_of_suc-le-suc}
use native.Mathlib.Omega.{arith}
use lib.IntN.{ℤ, pos}
use lib.ListN.{length, get_or, take, length-map, get_or-map}
use Rattle.limits.specs.Lists.{All, Mem}
use Rattle.limits.specs.Operations.{Table}
use Rattle.history.specs.History.{Event, call, ret, Called, Returned, Precedes, beside, code_of, event_of, events}
use Rattle.history.specs.Standing.{CanStand, StandsAfter, Stands}
use Rattle.history.proofs.ListLaws.{all_of_mem}
use Rattle.history.proofs.HistoryLaws.{mem_call, mem_ret, Apart, Right, Sound}
use Rattle.history.proofs.PrecedenceLists.{all_get_or, all_map, pw_map, pw_map_to, sub_length, below, length_below, mem_below}

-- ---- one event more

pub called_left : (h k : List Event) (o : ℕ) → Called h o → Called (h ++ k) o
called_left [] k o c = absurd c
called_left (call p ∷ h) k o (inl e) = inl e
called_left (call p ∷ h) k o (inr c) = inr (called_left h k o c)
called_left (ret p a ∷ h) k o c = called_left h k o c

pub called_new : (h : List Event) (o : ℕ) → Called (h ++ (call o ∷ [])) o
called_new [] o = inl refl
called_new (call p ∷ h) o = inr (called_new h o)
called_new (ret p a ∷ h) o = called_new h o

pub called_call : (h : List Event) (p o : ℕ) → Called (h ++ (call p ∷ [])) o → Called h o ⊎ (o ≡ p)
called_call [] p o (inl e) = inr e
called_call [] p o (inr c) = absurd c
called_call (call q ∷ h) p o (inl e) = inl (inl e)
called_call (call q ∷ h) p o (inr c) = up (called_call h p o c)
  where
    up : Called h o ⊎ (o ≡ p) → Called (call q ∷ h) o ⊎ (o ≡ p)
    up (inl k) = inl (inr k)
    up (inr e) = inr e
called_call (ret q a ∷ h) p o c = called_call h p o c

pub called_ret : (h : List Event) (p : ℕ) (a : Option ℤ) (o : ℕ) → Called (h ++ (ret p a ∷ [])) o → Called h o
called_ret [] p a o c = c
called_ret (call q ∷ h) p a o (inl e) = inl e
called_ret (call q ∷ h) p a o (inr c) = inr (called_ret h p a o c)
called_ret (ret q b ∷ h) p a o c = called_ret h p a o c

pub returned_left : (h k : List Event) (o : ℕ) → Returned h o → Returned (h ++ k) o
returned_left [] k o c = absurd c
returned_left (call p ∷ h) k o c = returned_left h k o c
returned_left (ret p a ∷ h) k o (inl e) = inl e
returned_left (ret p a ∷ h) k o (inr c) = inr (returned_left h k o c)

pub returned_new : (h : List Event) (o : ℕ) (a : Option ℤ) → Returned (h ++ (ret o a ∷ [])) o
returned_new [] o a = inl refl
returned_new (call p ∷ h) o a = returned_new h o a
returned_new (ret p b ∷ h) o a = inr (returned_new h o a)

pub returned_call : (h : List Event) (p o : ℕ) → Returned (h ++ (call p ∷ [])) o → Returned h o
returned_call [] p o c = c
returned_call (call q ∷ h) p o c = returned_call h p o c
returned_call (ret q a ∷ h) p o (inl e) = inl e
returned_call (ret q a ∷ h) p o (inr c) = inr (returned_call h p o c)

pub returned_ret : (h : List Event) (p : ℕ) (a : Option ℤ) (o : ℕ) → Returned (h ++ (ret p a ∷ [])) o → Returned h o ⊎ (o ≡ p)
returned_ret [] p a o (inl e) = inr e
returned_ret [] p a o (inr c) = absurd c
returned_ret (call q ∷ h) p a o c = returned_ret h p a o c
returned_ret (ret q b ∷ h) p a o (inl e) = inl (inl e)
returned_ret (ret q b ∷ h) p a o (inr c) = up (returned_ret h p a o c)
  where
    up : Returned h o ⊎ (o ≡ p) → Returned (ret q b ∷ h) o ⊎ (o ≡ p)
    up (inl k) = inl (inr k)
    up (inr e) = inr e

-- the operation that the event calls or returns
abbrev pub op_of : Event → ℕ
op_of (call o) = o
op_of (ret o a) = o

pub called_event : (h : List Event) (e : Event) (o : ℕ) → Called (h ++ (e ∷ [])) o → Called h o ⊎ (o ≡ op_of e)
called_event h (call p) o c = called_call h p o c
called_event h (ret p a) o c = inl (called_ret h p a o c)

pub returned_event : (h : List Event) (e : Event) (o : ℕ) → Returned (h ++ (e ∷ [])) o → Returned h o ⊎ (o ≡ op_of e)
returned_event h (call p) o c = inl (returned_call h p o c)
returned_event h (ret p a) o c = returned_ret h p a o c

pub precedes_left : (h k : List Event) (a b : ℕ) → Precedes h a b → Precedes (h ++ k) a b
precedes_left [] k a b p = absurd p
precedes_left (call c ∷ h) k a b p = precedes_left h k a b p
precedes_left (ret c v ∷ h) k a b (inl p) = inl (p.0, called_left h k b p.1)
precedes_left (ret c v ∷ h) k a b (inr p) = inr (precedes_left h k a b p)

-- a call brings pairs with what has returned before it
pub precedes_call : (h : List Event) (p a b : ℕ) → Precedes (h ++ (call p ∷ [])) a b → Precedes h a b ⊎ (Returned h a × (b ≡ p))
precedes_call [] p a b q = absurd q
precedes_call (call c ∷ h) p a b q = precedes_call h p a b q
precedes_call (ret c v ∷ h) p a b (inl q) = here (called_call h p b q.1)
  where
    here : Called h b ⊎ (b ≡ p) → Precedes (ret c v ∷ h) a b ⊎ (Returned (ret c v ∷ h) a × (b ≡ p))
    here (inl k) = inl (inl (q.0, k))
    here (inr e) = inr (inl q.0, e)
precedes_call (ret c v ∷ h) p a b (inr q) = up (precedes_call h p a b q)
  where
    up : Precedes h a b ⊎ (Returned h a × (b ≡ p)) → Precedes (ret c v ∷ h) a b ⊎ (Returned (ret c v ∷ h) a × (b ≡ p))
    up (inl k) = inl (inr k)
    up (inr k) = inr (inr k.0, k.1)

-- a return brings none
pub precedes_ret : (h : List Event) (p : ℕ) (v : Option ℤ) (a b : ℕ) → Precedes (h ++ (ret p v ∷ [])) a b → Precedes h a b
precedes_ret [] p v a b (inl q) = absurd q.1
precedes_ret [] p v a b (inr q) = q
precedes_ret (call c ∷ h) p v a b q = precedes_ret h p v a b q
precedes_ret (ret c w ∷ h) p v a b (inl q) = inl (q.0, called_ret h p v b q.1)
precedes_ret (ret c w ∷ h) p v a b (inr q) = inr (precedes_ret h p v a b q)

-- ---- precedence

-- whatever precedes has returned
pub precedes_returned : (h : List Event) (a b : ℕ) → Precedes h a b → Returned h a
precedes_returned [] a b p = p
precedes_returned (call c ∷ h) a b p = precedes_returned h a b p
precedes_returned (ret c v ∷ h) a b (inl p) = inl p.0
precedes_returned (ret c v ∷ h) a b (inr p) = inr (precedes_returned h a b p)

-- whatever is preceded was called
pub precedes_called : (h : List Event) (a b : ℕ) → Precedes h a b → Called h b
precedes_called [] a b p = p
precedes_called (call c ∷ h) a b p = inr (precedes_called h a b p)
precedes_called (ret c v ∷ h) a b (inl p) = p.1
precedes_called (ret c v ∷ h) a b (inr p) = precedes_called h a b p

-- of two precedences one goes across: of two returns one is the earlier
pub interval : (h : List Event) (a b c d : ℕ) → Precedes h a b → Precedes h c d → Precedes h a d ⊎ Precedes h c b
interval [] a b c d p q = absurd p
interval (call e ∷ h) a b c d p q = interval h a b c d p q
interval (ret e v ∷ h) a b c d (inl p) (inl q) = inl (inl (p.0, q.1))
interval (ret e v ∷ h) a b c d (inl p) (inr q) = inl (inl (p.0, precedes_called h c d q))
interval (ret e v ∷ h) a b c d (inr p) (inl q) = inr (inl (q.0, precedes_called h a b p))
interval (ret e v ∷ h) a b c d (inr p) (inr q) = up (interval h a b c d p q)
  where
    up : Precedes h a d ⊎ Precedes h c b → Precedes (ret e v ∷ h) a d ⊎ Precedes (ret e v ∷ h) c b
    up (inl r) = inl (inr r)
    up (inr r) = inr (inr r)

-- the event calls nothing that was called
abbrev pub Fresh : List Event → Event → Type 0
Fresh h (call o) = ¬ Called h o
Fresh h (ret o a) = Unit {0}

-- what precedes a called operation is settled: a later event changes it only if it calls that operation again
pub precedes_old : (h : List Event) (e : Event) → Fresh h e → (a b : ℕ) → Called h b → Precedes (h ++ (e ∷ [])) a b → Precedes h a b
precedes_old h (call o) f a b c p = go (precedes_call h o a b p)
  where
    go : Precedes h a b ⊎ (Returned h a × (b ≡ o)) → Precedes h a b
    go (inl q) = q
    go (inr q) = absurd (f (rw q.1 at c))
precedes_old h (ret o v) f a b c p = precedes_ret h o v a b p

-- ---- a history in which every event can stand

module _ (T : Table) where
  pub stands_snoc : (old h : List Event) (e : Event) → StandsAfter T old h → CanStand T (old ++ h) e (beside e) → StandsAfter T old (h ++ (e ∷ []))
  stands_snoc old [] e s c = (rw append-nil at c, tt)
  stands_snoc old (f ∷ h) e s c = (s.0, stands_snoc (old ++ (f ∷ [])) h e s.1 (rw append_assoc c))

  stands_called_after : (old h : List Event) → StandsAfter T old h → (o : ℕ) → Returned h o → Called (old ++ h) o
  stands_called_after old [] s o c = absurd c
  stands_called_after old (call p ∷ h) s o c = rw append_assoc at (stands_called_after (old ++ (call p ∷ [])) h s.1 o c)
  stands_called_after old (ret p a ∷ h) s o (inl e) = called_left old (ret p a ∷ h) o (rw e s.0.1)
  stands_called_after old (ret p a ∷ h) s o (inr c) = rw append_assoc at (stands_called_after (old ++ (ret p a ∷ [])) h s.1 o c)

  -- what returned was called
  pub stands_called : (h : List Event) → Stands T h → (o : ℕ) → Returned h o → Called h o
  stands_called h s = stands_called_after [] h s

  stands_at_after : (old h : List Event) → StandsAfter T old h → (i : ℕ) → i < length h → CanStand T (old ++ take i h) (get_or h i (call 0)) (beside (get_or h i (call 0)))
  stands_at_after old [] s i lt = absurd (not-suc-le-zero lt)
  stands_at_after old (e ∷ h) s zero lt = rw append-nil s.0
  stands_at_after old (e ∷ h) s (suc i) lt = rw append_assoc at (stands_at_after (old ++ (e ∷ [])) h s.1 i (le_of_suc-le-suc lt))

  -- the event at each position can stand after those before it
  pub stands_at : (h : List Event) → Stands T h → (i : ℕ) → i < length h → CanStand T (take i h) (get_or h i (call 0)) (beside (get_or h i (call 0)))
  stands_at h s = stands_at_after [] h s

-- ---- codes

-- events that are apart have different codes
apart_codes : (e f : Event) → Apart e f → code_of e ≢ code_of f
apart_codes (call o) (call p) a = λ e. a (omega arith)
apart_codes (call o) (ret p w) a = λ e. absurd (omega arith)
apart_codes (ret o v) (call p) a = λ e. absurd (omega arith)
apart_codes (ret o v) (ret p w) a = λ e. a (omega arith)

-- at most two events for each operation: their codes are different numbers below twice the number of operations
pub stands_length : (T : Table) (h : List Event) → Stands T h → Sound T h → length h ≤ 2 * T.size
stands_length T h st s =
    let le = sub_length (map code_of h) (below (2 * T.size)) (pw_map code_of (λ a b. a ≢ b) h (pw_map_to apart_codes h s.apart))
    (all_map code_of (λ c. Mem c (below (2 * T.size))) h (all_of_mem (λ e. Mem (code_of e) (below (2 * T.size))) h low)) in
    omega (arith, length-map h code_of, length_below (2 * T.size))
  where
    low : (e : Event) → Mem e h → Mem (code_of e) (below (2 * T.size))
    low (call o) m = mem_below (2 * T.size) (2 * o) (omega (arith, s.small o (mem_call h o m)))
    low (ret o a) m = mem_below (2 * T.size) (2 * o + 1) (omega (arith, s.small o (stands_called T h st o (mem_ret h o a m))))

-- a right event is what its code and the sample beside it give
pub event_back : (T : Table) (e : Event) → Right T e → event_of T (code_of e) (beside e) ≡ e
event_back T (call o) r =
    let even : 2 * o % 2 ≡ 0 = omega arith in
    let half : 2 * o / 2 ≡ o = omega arith in
    rw (even, half)
event_back T (ret o a) r =
    let odd : (2 * o + 1) % 2 ≡ 1 = omega arith in
    let half : (2 * o + 1) / 2 ≡ o = omega arith in
    rw (odd, half, ← r)

-- in a right history that stands, what each code and sample give can stand at its position
pub code_stands : (T : Table) (h : List Event) → Stands T h → All (Right T) h → (i : ℕ) → i < length h
    → CanStand T (take i h) (event_of T (get_or (map code_of h) i 0) (get_or (map beside h) i (pos 0))) (get_or (map beside h) i (pos 0))
code_stands T h s r i lt =
    let c : get_or (map code_of h) i 0 ≡ code_of (get_or h i (call 0)) = get_or-map code_of h i (call 0) in
    let x : get_or (map beside h) i (pos 0) ≡ beside (get_or h i (call 0)) = get_or-map beside h i (call 0) in
    rw (c, x, event_back T (get_or h i (call 0)) (all_get_or (Right T) h (call 0) r i lt)) (stands_at T h s i lt)

-- a right history is what its codes and samples give
pub events_back : (T : Table) (h : List Event) → All (Right T) h → events T (map code_of h) (map beside h) ≡ h
events_back T [] r = refl
events_back T (e ∷ h) r = rw (event_back T e r.0, events_back T h r.1)
