-- Laws of the cut and of the merge, for every history. Assumes nothing.
use mathlib.Core.Path.{◌≡◌, refl, sym, ap, ◌∙◌}
use mathlib.Core.Logic.{inl, inr}
use mathlib.Core.List.{List, [], ◌∷◌, ◌++◌}
use Prim.Native.Nat.{ℕ, zero, suc, ◌+◌, ◌<◌}
use native.Mathlib.Omega.{arith}
use lib.ListN.{length, get_or, take, drop, length-append}
use Rattle.history.specs.History.{Event, Precedes}
use Rattle.order.specs.Order.{glue, Before, before?, cut, merge}

-- a part is what the test says, so two tests that agree cut alike
glue_alike : {P Q : Type 0} (x : ℕ) (row : List ℕ) (d : Dec P) (e : Dec Q) → (P → Q) → (Q → P) → (a b : List ℕ) → glue x row d a b ≡ glue x row e a b
glue_alike x row (yes p) (yes q) f g [] b = refl
glue_alike x row (no p) (no q) f g [] b = refl
glue_alike x row (yes p) (no q) f g a b = absurd (q (f p))
glue_alike x row (no p) (yes q) f g a b = absurd (p (g q))
glue_alike x row (yes p) (yes q) f g (z ∷ a) b = refl
glue_alike x row (no p) (no q) f g (z ∷ a) b = refl

-- the two parts make the row
glue_whole : {P : Type 0} (x : ℕ) (row : List ℕ) (d : Dec P) (a b : List ℕ) → a ++ b ≡ row → (glue x row d a b).0 ++ (glue x row d a b).1 ≡ x ∷ row
glue_whole x row (yes p) [] b e = refl
glue_whole x row (no p) [] b e = refl
glue_whole x row (yes p) (z ∷ a) b e = ap (λ l. x ∷ l) e
glue_whole x row (no p) (z ∷ a) b e = ap (λ l. x ∷ l) e

-- from the empty front: x alone is the front if it has to be, else nothing is
glue_yes : {P : Type 0} (x : ℕ) (row : List ℕ) (d : Dec P) → P → glue x row d [] row ≡ (x ∷ [], row)
glue_yes x row (yes p) h = refl
glue_yes x row (no p) h = absurd (p h)

glue_no : {P : Type 0} (x : ℕ) (row : List ℕ) (d : Dec P) → ¬ P → glue x row d [] row ≡ ([], x ∷ row)
glue_no x row (yes p) h = absurd (h p)
glue_no x row (no p) h = refl

-- x stands before a front that is not empty, whatever the test says
glue_more : {P : Type 0} (x : ℕ) (row : List ℕ) (d : Dec P) (z : ℕ) (a b : List ℕ) → glue x row d (z ∷ a) b ≡ (x ∷ z ∷ a, b)
glue_more x row (yes p) z a b = refl
glue_more x row (no p) z a b = refl

module _ (h : List Event) where
  pub cut_whole : (t p : ℕ) (row : List ℕ) → (cut h t p row).0 ++ (cut h t p row).1 ≡ row
  cut_whole t p [] = refl
  cut_whole t p (q ∷ row) = glue_whole q row (before? h t p q) (cut h t p row).0 (cut h t p row).1 (cut_whole t p row)

  -- no put has to stand before the take: the front is empty
  pub cut_none : (t p : ℕ) (row : List ℕ) → ((j : ℕ) → j < length row → ¬ Before h t p (get_or row j 0)) → cut h t p row ≡ ([], row)
  cut_none t p [] free = refl
  cut_none t p (q ∷ row) free =
      ap (λ (c : List ℕ × List ℕ). glue q row (before? h t p q) c.0 c.1) (cut_none t p row (λ j lt. free (suc j) (omega arith)))
      ∙ glue_no q row (before? h t p q) (free 0 (omega arith))

  -- the last put that has to stand before the take is at n: the front ends there
  pub cut_at : (t p : ℕ) (row : List ℕ) (n : ℕ) → n < length row → Before h t p (get_or row n 0) → ((j : ℕ) → n < j → j < length row → ¬ Before h t p (get_or row j 0))
      → cut h t p row ≡ (take (suc n) row, drop (suc n) row)
  cut_at t p [] n lt b free = absurd (omega arith)
  cut_at t p (q ∷ row) zero lt b free =
      ap (λ (c : List ℕ × List ℕ). glue q row (before? h t p q) c.0 c.1) (cut_none t p row (λ j l. free (suc j) (omega arith) (omega arith)))
      ∙ glue_yes q row (before? h t p q) b
  cut_at t p (q ∷ []) (suc n) lt b free = absurd (omega arith)
  cut_at t p (q ∷ z ∷ row) (suc n) lt b free =
      ap (λ (c : List ℕ × List ℕ). glue q (z ∷ row) (before? h t p q) c.0 c.1) (cut_at t p (z ∷ row) n (omega arith) b (λ j g l. free (suc j) (omega arith) (omega arith)))
      ∙ glue_more q (z ∷ row) (before? h t p q) z (take n row) (drop n row)

  -- the merge by the two parts of its first cut
  pub merge_cut : (t p : ℕ) (row a b : List ℕ) (finds : List (ℕ × ℕ)) → cut h t p row ≡ (a, b) → merge h row ((t, p) ∷ finds) ≡ a ++ t ∷ merge h b finds
  unfolding merge
  merge_cut t p row a b finds e = ap (λ (c : List ℕ × List ℕ). c.0 ++ t ∷ merge h c.1 finds) e

  pub merge_end : (row : List ℕ) → merge h row [] ≡ row
  unfolding merge
  merge_end row = refl

  -- each put of the row and each take is listed once
  pub merge_length : (row : List ℕ) (finds : List (ℕ × ℕ)) → length (merge h row finds) ≡ length row + length finds
  unfolding merge
  merge_length row [] = omega arith
  merge_length row (f ∷ finds) =
      let a = (cut h f.0 f.1 row).0 in
      let b = (cut h f.0 f.1 row).1 in
      omega (arith, length-append a (f.0 ∷ merge h b finds), merge_length b finds, length-append a b, ap length (cut_whole f.0 f.1 row))

-- two histories in which the same operations precede each other merge alike: the merge asks for nothing else
module _ (h g : List Event) (to : (a b : ℕ) → Precedes h a b → Precedes g a b) (from : (a b : ℕ) → Precedes g a b → Precedes h a b) where
  before_to : (t p q : ℕ) → Before h t p q → Before g t p q
  before_to t p q (inl e) = inl e
  before_to t p q (inr r) = inr (to q t r)

  before_from : (t p q : ℕ) → Before g t p q → Before h t p q
  before_from t p q (inl e) = inl e
  before_from t p q (inr r) = inr (from q t r)

  cut_alike : (t p : ℕ) (row : List ℕ) → cut h t p row ≡ cut g t p row
  cut_alike t p [] = refl
  cut_alike t p (q ∷ row) =
      glue_alike q row (before? h t p q) (before? g t p q) (before_to t p q) (before_from t p q) (cut h t p row).0 (cut h t p row).1
      ∙ ap (λ (c : List ℕ × List ℕ). glue q row (before? g t p q) c.0 c.1) (cut_alike t p row)

  pub merge_alike : (row : List ℕ) (finds : List (ℕ × ℕ)) → merge h row finds ≡ merge g row finds
  merge_alike row [] = merge_end h row ∙ sym (merge_end g row)
  merge_alike row (f ∷ finds) =
      merge_cut h f.0 f.1 row (cut g f.0 f.1 row).0 (cut g f.0 f.1 row).1 finds (cut_alike f.0 f.1 row)
      ∙ ap (λ (l : List ℕ). (cut g f.0 f.1 row).0 ++ f.0 ∷ l) (merge_alike (cut g f.0 f.1 row).1 finds)
      ∙ sym (merge_cut g f.0 f.1 row (cut g f.0 f.1 row).0 (cut g f.0 f.1 row).1 finds refl)
