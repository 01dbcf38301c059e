-- The plan's chains are each thread's operations in table order. Assumes nothing.
--   Planned   of the plan for the operations from k on: its lists are full, and its chain for a thread is that thread's operations from k on
use mathlib.Core.Path.{◌≡◌, refl, sym, ap, ◌∙◌, subst}
use mathlib.Core.Logic.{◌≢◌}
use mathlib.Core.Bool.{Bool, true, false, cond}
use Rattle.std.specs.Prelude.{Option, Some, None}
use mathlib.Core.List.{List, [], ◌∷◌}
use Prim.Native.Nat.{ℕ, zero, suc, ◌+◌, ◌≤◌, ◌<◌}
use native.Mathlib.Decide.{ℕ_discrete}
use native.Mathlib.Nat.{add-zero, suc-add, add-suc}
use native.Mathlib.Omega.{arith}
use lib.Dec.{eqb}
use lib.ListN.{length, get_or, set, length-set, length-replicate, get_or-replicate}
use lib.Seq.{get_or-set_same, get_or-set_other}
use borrow.Author.Tests.{eq-eqb, ne_eqb}
use Rattle.limits.specs.Lists.{All}
use Rattle.limits.specs.Operations.{Table}
use Rattle.history.proofs.ListLaws.{all_imp}
use Rattle.machine.specs.Bench.{own_from}
use Rattle.stepping.specs.PlanTwin.{plan_from}
use Rattle.faithful.proofs.ShowLaws.{Heads}

-- the operations of a thread from k on are numbered from k on
own_later : (T : Table) (t k m : ℕ) → All (λ o. k ≤ o) (own_from T t k m)
unfolding own_from
own_later T t k zero = tt
own_later T t k (suc m) = go (eqb (T.thread k) t) (all_imp (λ o h. omega arith) (own_from T t (suc k) m) (own_later T t (suc k) m))
  where
    go : (b : Bool) → All (λ o. k ≤ o) (own_from T t (suc k) m) → All (λ o. k ≤ o) (cond b (k ∷ own_from T t (suc k) m) (own_from T t (suc k) m))
    go true h = (omega arith, h)
    go false h = h

-- a chain is not touched by what is set for an operation that it does not have
heads_other : (next : List (Option ℕ)) (k : ℕ) (v o : Option ℕ) (todo : List ℕ) → All (λ q. suc k ≤ q) todo → Heads next o todo → Heads (set next k v) o todo
heads_other next k v o [] later h = h
heads_other next k v o (q ∷ todo) later h =
    let ne : q ≢ k = λ e. absurd (omega (arith, later.0)) in
    (h.0, rw (get_or-set_other next k q v None ne) (heads_other next k v (get_or next q None) todo later.1 h.1))

-- `first` has each thread's first operation, `next` each operation's next one of its thread, among the m operations from k on
pub record Planned (T : Table) (k m : ℕ) (first next : List (Option ℕ)) : Type 0 where
  pub firsts : length first ≡ 16
  pub nexts : length next ≡ 128
  pub chains : (t : ℕ) → t < 16 → Heads next (get_or first t None) (own_from T t k m)

-- operation k, of thread x, in front: it becomes the first of x's chain and of no other
module _ (T : Table) (few : T.size ≤ 128) (k m x : ℕ) (small : k < T.size) (own : T.thread k ≡ x) (lx : x < 16) (first next : List (Option ℕ)) (h : Planned T (suc k) m first next) where
  abbrev next' : List (Option ℕ)
  next' = set next k (get_or first x None)

  -- the rest of every chain stands as it did
  chain_rest : (t : ℕ) → t < 16 → Heads next' (get_or first t None) (own_from T t (suc k) m)
  chain_rest t lt = heads_other next k (get_or first x None) (get_or first t None) (own_from T t (suc k) m) (own_later T t (suc k) m) (h.chains t lt)

  -- x's chain begins with k, and goes on as it did; every other is as it was
  chain_one : (t : ℕ) → t < 16 → Dec (t ≡ x) → Heads next' (get_or (set first x (Some k)) t None) (own_from T t k (suc m))
  unfolding own_from
  chain_one t lt (yes e) =
      let front : get_or (set first x (Some k)) t None ≡ Some k = ap (λ (s : ℕ). get_or (set first x (Some k)) s None) e ∙ get_or-set_same first x (Some k) None (omega (arith, h.firsts)) in
      let rest = subst (λ (s : ℕ). Heads next' (get_or first s None) (own_from T t (suc k) m)) e (chain_rest t lt) in
      rw (eq-eqb (T.thread k) t (own ∙ sym e), front)
      (refl, rw (get_or-set_same next k (get_or first x None) None (omega (arith, h.nexts))) rest)
  chain_one t lt (no ne) =
      rw (ne_eqb (T.thread k) t (λ e. ne (sym (sym own ∙ e))), get_or-set_other first x t (Some k) None ne) (chain_rest t lt)

  -- the lists keep their lengths
  planned_one : Planned T k (suc m) (set first x (Some k)) next'
  planned_one = record {
    firsts = length-set first x (Some k) ∙ h.firsts;
    nexts = length-set next k (get_or first x None) ∙ h.nexts;
    chains = λ t lt. chain_one t lt (ℕ_discrete t x);
  }

-- operation by operation, from the last to the first; before the last every chain ends at once
pub planned_from : (T : Table) → T.size ≤ 128 → (k : ℕ) (l : List ℕ) → k + length l ≡ T.size
    → ((i : ℕ) → i < length l → (T.thread (k + i) ≡ get_or l i 0) × (get_or l i 0 < 16)) → Planned T k (length l) (plan_from k l).first (plan_from k l).next
unfolding plan_from own_from
planned_from T few k [] whole named = record {
  firsts = length-replicate {A = Option ℕ} 16 None;
  nexts = length-replicate {A = Option ℕ} 128 None;
  chains = λ t lt. get_or-replicate {A = Option ℕ} 16 t None None lt;
}
planned_from T few k (x ∷ l) whole named =
    planned_one T few k (length l) x (omega arith) (rw add-zero at (named 0 (omega arith)).0) (named 0 (omega arith)).1 (plan_from (suc k) l).first (plan_from (suc k) l).next
    (planned_from T few (suc k) l (omega arith) (λ i lt. (rw (suc-add, ← add-suc) (named (suc i) (omega arith)).0, (named (suc i) (omega arith)).1)))
