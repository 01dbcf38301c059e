-- Codes, positions and events: what an event's code says of calls, returns and 'precedes'. Assumes nothing.
use mathlib.Core.Path.{◌≡◌, refl, sym, ap, ◌∙◌}
use mathlib.Core.Logic.{◌≢◌, inl, inr}
use mathlib.Core.Bool.{Bool, true, false, cond}
use mathlib.Core.List.{List, [], ◌∷◌, ◌++◌, map, append-nil, append_assoc}
use Prim.Native.Nat.{ℕ, zero, suc, ◌+◌, ◌*◌, ◌/◌, ◌%◌, ◌<◌}
use native.Mathlib.Nat.{not-suc-le-zero, le_of_suc-le-suc}
use native.Mathlib.Omega.{arith}
use borrow.Author.Tests.{eqb-true, eqb-false, eq-eqb, ne_eqb}
use lib.Dec.{eqb}
use lib.IntN.{ℤ, pos}
use lib.ListN.{length, get_or, take, length-map, get_or-map}
use Rattle.limits.specs.Lists.{All, Mem}
use Rattle.limits.specs.declared.Kind.{Kind}
use Rattle.limits.specs.declared.Kind.TheVariants.{Put as putting, Take as taking}
use Rattle.limits.specs.Operations.{Table}
use Rattle.history.specs.History.{Event, call, ret, Called, Returned, Precedes, code_of, beside, answer, event_of, events}
use Rattle.history.specs.Standing.{CanStand, StandsAfter, Stands}
use Rattle.history.proofs.HistoryLaws.{Right}

-- the code of the event at a position
abbrev pub code_at : List Event → ℕ → ℕ
code_at h j = code_of (get_or h j (call 0))

-- ---- calls, returns and 'precedes' by the codes at positions

-- a call has a position, where its code stands
pub called_at : (h : List Event) (o : ℕ) → Called h o → (j : ℕ) × (j < length h) × (code_at h j ≡ 2 * o)
called_at [] o c = absurd c
called_at (call p ∷ h) o (inl e) = (0, omega arith, omega (arith, e))
called_at (call p ∷ h) o (inr c) = let r = called_at h o c in (suc r.0, omega (arith, r.1), r.2)
called_at (ret p a ∷ h) o c = let r = called_at h o c in (suc r.0, omega (arith, r.1), r.2)

-- a code of a call at a position is a call
pub at_called : (h : List Event) (o j : ℕ) → j < length h → code_at h j ≡ 2 * o → Called h o
at_called [] o j lt e = absurd (not-suc-le-zero lt)
at_called (call p ∷ h) o zero lt e = inl (omega arith)
at_called (ret p a ∷ h) o zero lt e = absurd (omega arith)
at_called (call p ∷ h) o (suc j) lt e = inr (at_called h o j (le_of_suc-le-suc lt) e)
at_called (ret p a ∷ h) o (suc j) lt e = at_called h o j (le_of_suc-le-suc lt) e

-- the same of returns
pub returned_at : (h : List Event) (o : ℕ) → Returned h o → (j : ℕ) × (j < length h) × (code_at h j ≡ 2 * o + 1)
returned_at [] o c = absurd c
returned_at (ret p a ∷ h) o (inl e) = (0, omega arith, omega (arith, e))
returned_at (ret p a ∷ h) o (inr c) = let r = returned_at h o c in (suc r.0, omega (arith, r.1), r.2)
returned_at (call p ∷ h) o c = let r = returned_at h o c in (suc r.0, omega (arith, r.1), r.2)

pub at_returned : (h : List Event) (o j : ℕ) → j < length h → code_at h j ≡ 2 * o + 1 → Returned h o
at_returned [] o j lt e = absurd (not-suc-le-zero lt)
at_returned (ret p a ∷ h) o zero lt e = inl (omega arith)
at_returned (call p ∷ h) o zero lt e = absurd (omega arith)
at_returned (ret p a ∷ h) o (suc j) lt e = inr (at_returned h o j (le_of_suc-le-suc lt) e)
at_returned (call p ∷ h) o (suc j) lt e = at_returned h o j (le_of_suc-le-suc lt) e

-- the return event stands at an earlier position than the call event
pub record Apace (h : List Event) (a b : ℕ) : Type 0 where
  pub early : ℕ
  pub late : ℕ
  pub in_turn : early < late
  pub inside : late < length h
  pub returns : code_at h early ≡ 2 * a + 1
  pub calls : code_at h late ≡ 2 * b

later : (e : Event) (h : List Event) (a b : ℕ) → Apace h a b → Apace (e ∷ h) a b
later e h a b r =
    record { early = suc r.early; late = suc r.late; in_turn = omega (arith, r.in_turn); inside = omega (arith, r.inside); returns = r.returns; calls = r.calls }

-- what precedes has the two positions
pub precedes_at : (h : List Event) (a b : ℕ) → Precedes h a b → Apace h a b
precedes_at [] a b p = absurd p
precedes_at (call c ∷ h) a b p = later (call c) h a b (precedes_at h a b p)
precedes_at (ret c v ∷ h) a b (inr p) = later (ret c v) h a b (precedes_at h a b p)
precedes_at (ret c v ∷ h) a b (inl p) =
    let r = called_at h b p.1 in
    record { early = 0; late = suc r.0; in_turn = omega arith; inside = omega (arith, r.1); returns = omega (arith, p.0); calls = r.2 }

-- two such positions in turn precede
pub at_precedes : (h : List Event) (a b i j : ℕ) → i < j → j < length h → code_at h i ≡ 2 * a + 1 → code_at h j ≡ 2 * b → Precedes h a b
at_precedes [] a b i j lt le ei ej = absurd (not-suc-le-zero le)
at_precedes (e ∷ h) a b i zero lt le ei ej = absurd (not-suc-le-zero lt)
at_precedes (call c ∷ h) a b zero (suc j) lt le ei ej = absurd (omega arith)
at_precedes (ret c w ∷ h) a b zero (suc j) lt le ei ej = inl (omega arith, at_called h b j (le_of_suc-le-suc le) ej)
at_precedes (call c ∷ h) a b (suc i) (suc j) lt le ei ej = at_precedes h a b i j (le_of_suc-le-suc lt) (le_of_suc-le-suc le) ei ej
at_precedes (ret c w ∷ h) a b (suc i) (suc j) lt le ei ej = inr (at_precedes h a b i j (le_of_suc-le-suc lt) (le_of_suc-le-suc le) ei ej)

-- a member has a position
pub mem_at : (h : List Event) (e : Event) → Mem e h → (j : ℕ) × (j < length h) × (get_or h j (call 0) ≡ e)
mem_at [] e m = absurd m
mem_at (x ∷ h) e (inl q) = (0, omega arith, sym q)
mem_at (x ∷ h) e (inr m) = let r = mem_at h e m in (suc r.0, omega (arith, r.1), r.2)

pub at_mem : (h : List Event) (e : Event) (j : ℕ) → j < length h → get_or h j (call 0) ≡ e → Mem e h
at_mem [] e j lt q = absurd (not-suc-le-zero lt)
at_mem (x ∷ h) e zero lt q = inl (sym q)
at_mem (x ∷ h) e (suc j) lt q = inr (at_mem h e j (le_of_suc-le-suc lt) q)

-- ---- events of codes and samples

module _ (T : Table) where
  -- an even code is a call, an odd one a return
  pub event_call : (c : ℕ) (x : ℤ) → c % 2 ≡ 0 → event_of T c x ≡ call (c / 2)
  event_call c x e = rw (eq-eqb (c % 2) 0 e)

  pub event_ret : (c : ℕ) (x : ℤ) → c % 2 ≢ 0 → event_of T c x ≡ ret (c / 2) (answer (T.kind (c / 2)) x)
  event_ret c x n = rw (ne_eqb (c % 2) 0 n)

  -- a property of the event that a code gives, by the code's parity
  pub by_parity : (c : ℕ) (x : ℤ) (P : Event → Type 0) → (c % 2 ≡ 0 → P (call (c / 2))) → (c % 2 ≢ 0 → P (ret (c / 2) (answer (T.kind (c / 2)) x))) → P (event_of T c x)
  by_parity c x P f g = go (eqb (c % 2) 0) refl
    where
      go : (b : Bool) → eqb (c % 2) 0 ≡ b → P (cond b (call (c / 2)) (ret (c / 2) (answer (T.kind (c / 2)) x)))
      go true e = f (eqb-true (c % 2) 0 e)
      go false e = g (eqb-false (c % 2) 0 e)

  -- the code of the event that a code gives is that code
  pub code_event : (c : ℕ) (x : ℤ) → code_of (event_of T c x) ≡ c
  code_event c x = by_parity c x (λ e. code_of e ≡ c) (λ e. omega arith) (λ n. omega arith)

  -- the event that a code gives returns what its kind returns
  pub event_right : (c : ℕ) (x : ℤ) → Right T (event_of T c x)
  event_right c x = by_parity c x (Right T) (λ e. tt) (λ n. go (T.kind (c / 2)))
    where
      go : (k : Kind) → answer k x ≡ answer k (beside (ret (c / 2) (answer k x)))
      go putting = refl
      go taking = refl

  pub events_right : (cs : List ℕ) (xs : List ℤ) → All (Right T) (events T cs xs)
  events_right [] xs = tt
  events_right (c ∷ cs) [] = tt
  events_right (c ∷ cs) (x ∷ xs) = (event_right c x, events_right cs xs)

  -- as many events as codes
  pub events_length : (cs : List ℕ) (xs : List ℤ) → length xs ≡ length cs → length (events T cs xs) ≡ length cs
  events_length [] xs e = refl
  events_length (c ∷ cs) [] e = e
  events_length (c ∷ cs) (x ∷ xs) e = ap suc (events_length cs xs (omega arith))

  -- the event at a position
  pub event_at_lem : (cs : List ℕ) (xs : List ℤ) → length xs ≡ length cs → (j : ℕ) → j < length cs → get_or (events T cs xs) j (call 0) ≡ event_of T (get_or cs j 0) (get_or xs j (pos 0))
  event_at_lem [] xs e j lt = absurd (not-suc-le-zero lt)
  event_at_lem (c ∷ cs) [] e j lt = absurd (omega arith)
  event_at_lem (c ∷ cs) (x ∷ xs) e zero lt = refl
  event_at_lem (c ∷ cs) (x ∷ xs) e (suc j) lt = event_at_lem cs xs (omega arith) j (le_of_suc-le-suc lt)

  -- what stands with its own sample stands with the sample that belongs beside it
  stand_beside : (old : List Event) (c : ℕ) (x : ℤ) → CanStand T old (event_of T c x) x → CanStand T old (event_of T c x) (beside (event_of T c x))
  stand_beside old c x =
      by_parity c x (λ e. CanStand T old e x → CanStand T old e (beside e)) (λ e s. (s.0, s.1, s.2, refl)) (λ n s. (s.0, s.1, s.2, λ k. blank (T.kind (c / 2)) k))
    where
      blank : (k : Kind) → k ≡ putting → beside (ret (c / 2) (answer k x)) ≡ pos 0
      blank k e = rw e

  -- each event by its position, and event after event
  pub stands_each : (old : List Event) (cs : List ℕ) (xs : List ℤ)
      → ((i : ℕ) → i < length cs → CanStand T (old ++ take i (events T cs xs)) (event_of T (get_or cs i 0) (get_or xs i (pos 0))) (get_or xs i (pos 0))) → StandsAfter T old (events T cs xs)
  stands_each old [] xs f = tt
  stands_each old (c ∷ cs) [] f = tt
  stands_each old (c ∷ cs) (x ∷ xs) f = (
    stand_beside old c x (rw append-nil at (f 0 (omega arith))),
    stands_each (old ++ (event_of T c x ∷ [])) cs xs (λ i lt. rw append_assoc (f (suc i) (omega arith))),
  )

  -- ---- a history written as codes and samples, and read again

  -- an event is given again by its code and the sample beside it
  pub event_code : (e : Event) → Right T e → event_of T (code_of e) (beside e) ≡ e
  event_code (call o) r = event_call (2 * o) (pos 0) (omega arith) ∙ ap call (omega arith)
  event_code (ret o a) r =
      let q : (2 * o + 1) / 2 ≡ o = omega arith in
      event_ret (2 * o + 1) (beside (ret o a)) (λ e. omega arith) ∙ rw q (ap (ret o) (sym r))

  pub events_codes : (h : List Event) → All (Right T) h → events T (map code_of h) (map beside h) ≡ h
  events_codes [] r = refl
  events_codes (e ∷ h) r = rw (event_code e r.0, events_codes h r.1)

  -- the event at a position of a history that stands
  pub stands_at : (old h : List Event) → StandsAfter T old h → (i : ℕ) → i < length h → CanStand T (old ++ take i h) (get_or h i (call 0)) (beside (get_or h i (call 0)))
  stands_at old [] st i lt = absurd (not-suc-le-zero lt)
  stands_at old (e ∷ h) st zero lt = rw append-nil st.0
  stands_at old (e ∷ h) st (suc i) lt = rw append_assoc at (stands_at (old ++ (e ∷ [])) h st.1 i (le_of_suc-le-suc lt))

  right_at : (h : List Event) → All (Right T) h → (i : ℕ) → Right T (get_or h i (call 0))
  right_at [] r zero = tt
  right_at [] r (suc i) = tt
  right_at (e ∷ h) r zero = r.0
  right_at (e ∷ h) r (suc i) = right_at h r.1 i

  -- each event of a history that stands can stand by its code and sample
  pub codes_stand : (h : List Event) → All (Right T) h → Stands T h → (i : ℕ) → i < length (map code_of h)
      → CanStand T (take i (events T (map code_of h) (map beside h))) (event_of T (get_or (map code_of h) i 0) (get_or (map beside h) i (pos 0))) (get_or (map beside h) i (pos 0))
  codes_stand h r st i lt =
      let c : get_or (map code_of h) i 0 ≡ code_of (get_or h i (call 0)) = get_or-map code_of h i (call 0) in
      let x : get_or (map beside h) i (pos 0) ≡ beside (get_or h i (call 0)) = get_or-map beside h i (call 0) in
      rw (events_codes h r, c, x, event_code (get_or h i (call 0)) (right_at h r i)) (stands_at [] h st i (rw length-map at lt))
