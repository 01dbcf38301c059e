-- Laws of histories: calls and returns as members, events that are apart, and what every standing history has. Assumes nothing.
use mathlib.Core.Path.{◌≡◌, refl, sym}
use mathlib.Core.Logic.{◌≢◌, inl, inr}
use mathlib.Core.List.{List, [], ◌∷◌, ◌++◌}
use mathlib.Core.Option.{Option, none}
use Prim.Native.Nat.{ℕ, ◌<◌}
use lib.IntN.{ℤ}
use Rattle.limits.specs.Lists.{All, Mem, Pw}
use Rattle.limits.specs.declared.Kind.{Kind}
use Rattle.limits.specs.declared.Kind.TheVariants.{Put as putting}
use Rattle.limits.specs.Operations.{Table}
use Rattle.history.specs.History.{Event, call, ret, Called, Returned, Precedes, beside, answer}
use Rattle.history.specs.Standing.{CanStand, StandsAfter, Stands}
use Rattle.history.proofs.ListLaws.{clash, all_mem, mem_left, mem_right}

-- ---- calls and returns as members

-- by recursion over the history
pub mem_ret : (h : List Event) (o : ℕ) (v : Option ℤ) → Mem (ret o v) h → Returned h o
mem_ret [] o v m = m
mem_ret (call b ∷ h) o v (inl e) = clash (cc)
mem_ret (call b ∷ h) o v (inr m) = mem_ret h o v m
mem_ret (ret b w ∷ h) o v (inl e) = inl (cc)
mem_ret (ret b w ∷ h) o v (inr m) = inr (mem_ret h o v m)

pub ret_mem : (h : List Event) (o : ℕ) → Returned h o → (v : Option ℤ) × Mem (ret o v) h
ret_mem [] o r = absurd r
ret_mem (call b ∷ h) o r = let k = ret_mem h o r in (k.0, inr k.1)
ret_mem (ret b w ∷ h) o (inl e) = (w, inl (rw e))
ret_mem (ret b w ∷ h) o (inr r) = let k = ret_mem h o r in (k.0, inr k.1)

pub mem_call : (h : List Event) (o : ℕ) → Mem (call o) h → Called h o
mem_call [] o m = m
mem_call (call b ∷ h) o (inl e) = inl (cc)
mem_call (call b ∷ h) o (inr m) = inr (mem_call h o m)
mem_call (ret b w ∷ h) o (inl e) = clash (cc)
mem_call (ret b w ∷ h) o (inr m) = mem_call h o m

pub call_mem : (h : List Event) (o : ℕ) → Called h o → Mem (call o) h
call_mem [] o c = c
call_mem (call b ∷ h) o (inl e) = inl (rw e)
call_mem (call b ∷ h) o (inr c) = inr (call_mem h o c)
call_mem (ret b w ∷ h) o c = inr (call_mem h o c)

-- ---- two events that are not both the call, or both the return, of one operation

abbrev pub Apart : Event → Event → Type 0
Apart (call o) (call p) = o ≢ p
Apart (call o) (ret p w) = Unit {0}
Apart (ret o v) (call p) = Unit {0}
Apart (ret o v) (ret p w) = o ≢ p

-- no event is apart from itself, and being apart goes both ways
pub apart_irr : (e : Event) → ¬ Apart e e
apart_irr (call o) a = a refl
apart_irr (ret o v) a = a refl

pub apart_sym : (e f : Event) → Apart e f → Apart f e
apart_sym (call o) (call p) a = λ e. a (sym e)
apart_sym (call o) (ret p w) a = tt
apart_sym (ret o v) (call p) a = tt
apart_sym (ret o v) (ret p w) a = λ e. a (sym e)

-- an operation returns once
pub once_ret : (h : List Event) → Pw Apart h → (o : ℕ) (v w : Option ℤ) → Mem (ret o v) h → Mem (ret o w) h → v ≡ w
once_ret [] a o v w m n = absurd m
once_ret (e ∷ h) a o v w (inl p) (inl q) = cc
once_ret (e ∷ h) a o v w (inl p) (inr n) = absurd (all_mem (Apart (ret o v)) h (rw (← p) at a.0) (ret o w) n refl)
once_ret (e ∷ h) a o v w (inr m) (inl q) = absurd (all_mem (Apart (ret o w)) h (rw (← q) at a.0) (ret o v) m refl)
once_ret (e ∷ h) a o v w (inr m) (inr n) = once_ret h a.1 o v w m n

-- ---- what a history in which every event can stand has

-- a take returned a sample, a put none
abbrev pub Right : Table → Event → Type 0
Right T (call o) = Unit {0}
Right T (ret o a) = a ≡ answer (T.kind o) (beside (ret o a))

pub record Sound (T : Table) (h : List Event) : Type 0 where
  pub apart : Pw Apart h
  pub small : (o : ℕ) → Called h o → o < T.size
  pub irr : (a : ℕ) → ¬ Precedes h a a
  pub silent : (o : ℕ) (v : Option ℤ) → Mem (ret o v) h → T.kind o ≡ putting → v ≡ none

module _ (T : Table) where
  -- what is new is apart from what is old
  fresh_at : (old : List Event) (e x : Event) → CanStand T old e (beside e) → Mem x old → Apart x e
  fresh_at old (call o) (call p) st m = λ e. st.1 (rw e at (mem_call old p m))
  fresh_at old (call o) (ret p w) st m = tt
  fresh_at old (ret o v) (call p) st m = tt
  fresh_at old (ret o v) (ret p w) st m = λ e. st.2 (rw e at (mem_ret old p w m))

  fresh : (old h : List Event) → StandsAfter T old h → (x : Event) → Mem x old → All (Apart x) h
  fresh old [] st x m = tt
  fresh old (e ∷ h) st x m = (fresh_at old e x st.0 m, fresh (old ++ (e ∷ [])) h st.1 x (mem_left old (e ∷ []) x m))

  -- so every two events are apart
  all_apart : (old h : List Event) → StandsAfter T old h → Pw Apart h
  all_apart old [] st = tt
  all_apart old (e ∷ h) st = (fresh (old ++ (e ∷ [])) h st.1 e (mem_right old (e ∷ []) e (inl refl)), all_apart (old ++ (e ∷ [])) h st.1)

  -- a call that stands has an operation of the table
  all_small : (old h : List Event) → StandsAfter T old h → (o : ℕ) → Called h o → o < T.size
  all_small old [] st o m = absurd m
  all_small old (call b ∷ h) st o (inl e) = rw e st.0.0
  all_small old (call b ∷ h) st o (inr m) = all_small (old ++ (call b ∷ [])) h st.1 o m
  all_small old (ret b v ∷ h) st o m = all_small (old ++ (ret b v ∷ [])) h st.1 o m

  -- a return stands after its call, and no call stands twice
  all_irr : (old h : List Event) → StandsAfter T old h → (a : ℕ) → ¬ Precedes h a a
  all_irr old [] st a p = p
  all_irr old (call c ∷ h) st a p = all_irr (old ++ (call c ∷ [])) h st.1 a p
  all_irr old (ret c v ∷ h) st a (inl p) =
      all_mem (Apart (call c)) h (fresh old (ret c v ∷ h) st (call c) (call_mem old c st.0.1)).1 (call a) (call_mem h a p.1) (sym p.0)
  all_irr old (ret c v ∷ h) st a (inr p) = all_irr (old ++ (ret c v ∷ [])) h st.1 a p

  -- a put returns with no sample
  right_silent : (k : Kind) (a : Option ℤ) (x : ℤ) → a ≡ answer k x → k ≡ putting → a ≡ none
  right_silent k a x r e = rw e at r

  all_silent : (h : List Event) → All (Right T) h → (o : ℕ) (v : Option ℤ) → Mem (ret o v) h → T.kind o ≡ putting → v ≡ none
  all_silent h r o v m = right_silent (T.kind o) v (beside (ret o v)) (all_mem (Right T) h r (ret o v) m)

  -- the four together
  pub standing : (h : List Event) → Stands T h → All (Right T) h → Sound T h
  standing h st r = record { apart = all_apart [] h st; small = all_small [] h st; irr = all_irr [] h st; silent = all_silent h r }
