-- An order played so far on a plain queue: what is left to play, operation by operation. Assumes nothing.
use Rattle.std.proofs.Common.{◌≡◌, ◌↔◌, ℕ, ◌+◌, ◌<◌, ◌≤◌, List, [], ◌∷◌, ◌++◌, length, get_or, drop, ℤ, pos, arith, length-append}
use Rattle.std.proofs.lemmas.List.{drop_more}
use Rattle.limits.specs.declared.Kind.TheVariants.{Put, Take}
use Rattle.limits.specs.declared.Table.{Table as Operations}
use Rattle.linear.specs.Conditions.{PlaysAt}
use Rattle.judge.specs.declared.History.{History}
use Rattle.judge.specs.declared.marks.Marks.{Marks}
use Rattle.judge.specs.Marks.{table_in, Gets, PlaysOn}

-- the order plays on an empty queue exactly if all but its first i operations play on q
pub record Left (t : Operations) (h : History) (m : Marks) (l : List ℕ) (i : ℕ) (q : List ℤ) : Type 0 where
  pub few : length q ≤ i
  pub same : PlaysOn t h m q (drop i l) ↔ PlaysOn t h m [] l

module _ (t : Operations) (h : History) (m : Marks) (l : List ℕ) (i : ℕ) (lt : i < length l) where
  -- the operation that is next
  abbrev o : ℕ
  o = get_or l i 0

  -- what plays is the first operation and then the rest
  here : (q : List ℤ) → PlaysOn t h m q (drop i l) ↔ PlaysAt ((table_in t).kind o) ((table_in t).sample o) (Gets h m o) q (λ r. PlaysOn t h m r (drop (i + 1) l))
  here q = rw (drop_more l i 0 lt) (λ p. p, λ p. p)

  -- a put leaves the rest on the longer queue
  pub put_leaves : (q q' : List ℤ) → Left t h m l i q → (table_in t).kind o ≡ Put → q' ≡ q ++ get_or t.sample.now o (pos 0) ∷ [] → Left t h m l (i + 1) q'
  put_leaves q q' left k a =
      let s = rw k at (here q) in
      rw a (record { few = rw length-append (omega (arith, left.few)); same = (λ p. left.same.0 (s.1 p), λ p. s.0 (left.same.1 p)) })

  -- a take leaves the rest on the shorter queue, if it may get the front
  pub take_leaves : (x : ℤ) (q : List ℤ) → Left t h m l i (x ∷ q) → (table_in t).kind o ≡ Take → Gets h m o x → Left t h m l (i + 1) q
  take_leaves x q left k g =
      let s = rw k at (here (x ∷ q)) in
      record { few = omega (arith, left.few); same = (λ p. left.same.0 (s.1 (g, p)), λ p. (s.0 (left.same.1 p)).1) }
