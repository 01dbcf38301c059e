-- Laws of the merge (document 01, the listed order): what stands in it, and which relations of two entries it keeps. Assumes nothing.
-- It knows a history and two rows, and nothing of phases or slots.
--   Cut     a row in two parts: the first ends with the last put that has to stand before the take
--   takers  the takes of the finds
use mathlib.Core.Path.{◌≡◌, refl, ap}
use mathlib.Core.Logic.{◌⊎◌, inl, inr}
use mathlib.Core.List.{List, [], ◌∷◌, ◌++◌}
use Prim.Native.Nat.{ℕ}
use Rattle.limits.specs.Lists.{All, Mem, Pw}
use Rattle.history.specs.History.{Event, Precedes}
use Rattle.history.proofs.ListLaws.{all_imp, all_imp₂, all_mem, all_of_mem, all_append, all_left, all_right, mem_append, mem_left, mem_right, pw_append, pw_left, pw_right, pw_cross}
use Rattle.history.proofs.PrecedenceLists.{pw_map_to}
use Rattle.history.proofs.PrecedenceLaws.{interval}
use Rattle.order.specs.Order.{glue, Before, before?, cut, merge}

abbrev pub takers : List (ℕ × ℕ) → List ℕ
takers [] = []
takers (f ∷ finds) = f.0 ∷ takers finds

pub takers_mem : (finds : List (ℕ × ℕ)) (e : ℕ × ℕ) → Mem e finds → Mem e.0 (takers finds)
takers_mem [] e m = m
takers_mem (f ∷ finds) e (inl q) = inl (ap (λ z. z.0) q)
takers_mem (f ∷ finds) e (inr m) = inr (takers_mem finds e m)

pub takers_all : (P : ℕ → Type 0) (finds : List (ℕ × ℕ)) → All (λ e. P e.0) finds → All P (takers finds)
takers_all P [] h = tt
takers_all P (f ∷ finds) h = (h.0, takers_all P finds h.1)

module _ (h : List Event) where
  -- ---- cutting a row

  -- the last entry has to stand before the take t, which found p
  abbrev Ends : ℕ → ℕ → List ℕ → Type 0
  Ends t p [] = Unit {0}
  Ends t p (x ∷ []) = Before h t p x
  Ends t p (x ∷ z ∷ a) = Ends t p (z ∷ a)

  pub record Cut (t p : ℕ) (row a b : List ℕ) : Type 0 where
    pub whole : a ++ b ≡ row
    pub clear : All (λ x. ¬ Before h t p x) b
    pub ends : Ends t p a

  pub cut_is : (t p : ℕ) (row : List ℕ) → Cut t p row (cut h t p row).0 (cut h t p row).1
  cut_is t p [] = record { whole = refl; clear = tt; ends = tt }
  cut_is t p (x ∷ r) = go (before? h t p x) (cut h t p r).0 (cut h t p r).1 (cut_is t p r)
    where
      go : (d : Dec (Before h t p x)) (a b : List ℕ) → Cut t p r a b → Cut t p (x ∷ r) (glue x r d a b).0 (glue x r d a b).1
      go (yes k) [] b c = record { whole = refl; clear = rw c.whole at c.clear; ends = k }
      go (no k) [] b c = record { whole = refl; clear = (k, rw c.whole at c.clear); ends = tt }
      go d (z ∷ a) b c = record { whole = ap (λ l. x ∷ l) c.whole; clear = c.clear; ends = c.ends }

  last_before : (t p x : ℕ) (a : List ℕ) → Ends t p (x ∷ a) → (z : ℕ) × Mem z (x ∷ a) × Before h t p z
  last_before t p x [] k = (x, inl refl, k)
  last_before t p x (z ∷ a) k = let r = last_before t p z a k in (r.0, inr r.1, r.2)

  -- each entry of the first part is, or stands before, one that has to stand before the take
  pub cover : (t p : ℕ) (S : ℕ → ℕ → Type 0) (a : List ℕ) → Ends t p a → Pw S a → All (λ x. (z : ℕ) × Before h t p z × ((x ≡ z) ⊎ S x z)) a
  cover t p S [] k w = tt
  cover t p S (x ∷ []) k w = ((x, k, inl refl), tt)
  cover t p S (x ∷ z ∷ a) k w = (here (last_before t p z a k), cover t p S (z ∷ a) k w.1)
    where
      here : (v : ℕ) × Mem v (z ∷ a) × Before h t p v → (v : ℕ) × Before h t p v × ((x ≡ v) ⊎ S x v)
      here r = (r.0, r.2, inr (all_mem (S x) (z ∷ a) w.0 r.0 r.1))

  -- ---- what stands in the merge

  pub all_merge : (P : ℕ → Type 0) (row : List ℕ) (finds : List (ℕ × ℕ)) → All P row → All (λ e. P e.0) finds → All P (merge h row finds)
  unfolding merge
  all_merge P row [] k l = k
  all_merge P row (e ∷ finds) k l =
      let c = cut_is e.0 e.1 row in
      let k' : All P ((cut h e.0 e.1 row).0 ++ (cut h e.0 e.1 row).1) = rw c.whole k in
      all_append P (cut h e.0 e.1 row).0 (e.0 ∷ merge h (cut h e.0 e.1 row).1 finds)
      (all_left P (cut h e.0 e.1 row).0 (cut h e.0 e.1 row).1 k')
      (l.0, all_merge P (cut h e.0 e.1 row).1 finds (all_right P (cut h e.0 e.1 row).0 (cut h e.0 e.1 row).1 k') l.1)

  pub mem_merge_take : (row : List ℕ) (finds : List (ℕ × ℕ)) (o : ℕ) → Mem o (takers finds) → Mem o (merge h row finds)
  unfolding merge
  mem_merge_take row [] o m = absurd m
  mem_merge_take row (f ∷ finds) o (inl eq) = mem_right (cut h f.0 f.1 row).0 (f.0 ∷ merge h (cut h f.0 f.1 row).1 finds) o (inl eq)
  mem_merge_take row (f ∷ finds) o (inr m) =
      mem_right (cut h f.0 f.1 row).0 (f.0 ∷ merge h (cut h f.0 f.1 row).1 finds) o (inr (mem_merge_take (cut h f.0 f.1 row).1 finds o m))

  pub mem_merge_put : (row : List ℕ) (finds : List (ℕ × ℕ)) (o : ℕ) → Mem o row → Mem o (merge h row finds)
  unfolding merge
  mem_merge_put row [] o m = m
  mem_merge_put row (f ∷ finds) o m =
      go (cut h f.0 f.1 row).0 (cut h f.0 f.1 row).1
      (mem_append (cut h f.0 f.1 row).0 (cut h f.0 f.1 row).1 o (rw (cut_is f.0 f.1 row).whole m))
      (λ b k. mem_merge_put b finds o k)
    where
      go : (a b : List ℕ) → Mem o a ⊎ Mem o b → ((b : List ℕ) → Mem o b → Mem o (merge h b finds)) → Mem o (a ++ (f.0 ∷ merge h b finds))
      go a b (inl k) ih = mem_left a (f.0 ∷ merge h b finds) o k
      go a b (inr k) ih = mem_right a (f.0 ∷ merge h b finds) o (inr (ih b k))

  pub mem_merge : (row : List ℕ) (finds : List (ℕ × ℕ)) (o : ℕ) → Mem o (merge h row finds) → Mem o row ⊎ Mem o (takers finds)
  mem_merge row finds o m = all_mem (λ q. Mem q row ⊎ Mem q (takers finds)) (merge h row finds)
      (all_merge (λ q. Mem q row ⊎ Mem q (takers finds)) row finds (all_of_mem (λ q. Mem q row ⊎ Mem q (takers finds)) row (λ q k. inl k))
      (all_of_mem (λ e. Mem e.0 row ⊎ Mem e.0 (takers finds)) finds (λ e k. inr (takers_mem finds e k)))) o m

  -- x has R to each take, and each take to x
  abbrev Both : (ℕ → ℕ → Type 0) → List (ℕ × ℕ) → ℕ → Type 0
  Both R finds x = All (λ e. R x e.0 × R e.0 x) finds

  both_first : (R : ℕ → ℕ → Type 0) (e : ℕ × ℕ) (finds : List (ℕ × ℕ)) (b : List ℕ) → All (Both R (e ∷ finds)) b → All (R e.0) b
  both_first R e finds b c = all_imp (λ x q. q.0.1) b c

  both_later : (R : ℕ → ℕ → Type 0) (e : ℕ × ℕ) (finds : List (ℕ × ℕ)) (b : List ℕ) → All (Both R (e ∷ finds)) b → All (Both R finds) b
  both_later R e finds b c = all_imp (λ x q. q.1) b c

  both_takes : (R : ℕ → ℕ → Type 0) (finds : List (ℕ × ℕ)) (x : ℕ) → Both R finds x → All (λ e. R x e.0) finds
  both_takes R finds x c = all_imp (λ f u. u.0) finds c

  -- a relation of the puts, of the takes, and of each put and take both ways, is one of the merge
  pub pw_merge : (R : ℕ → ℕ → Type 0) (row : List ℕ) (finds : List (ℕ × ℕ)) → Pw R row → Pw (λ e f. R e.0 f.0) finds
      → All (λ x. All (λ e. R x e.0 × R e.0 x) finds) row → Pw R (merge h row finds)
  unfolding merge
  pw_merge R row [] p t c = p
  pw_merge R row (e ∷ finds) p t c = step (cut h e.0 e.1 row).0 (cut h e.0 e.1 row).1 (cut_is e.0 e.1 row) (λ b w v. pw_merge R b finds w t.1 v)
    where
      parts : (a b : List ℕ) → Pw R (a ++ b) → All (Both R (e ∷ finds)) a → All (Both R (e ∷ finds)) b → Pw R (merge h b finds) → Pw R (a ++ (e.0 ∷ merge h b finds))
      parts a b q ca cb rest =
          pw_append R a (e.0 ∷ merge h b finds) (pw_left R a b q) (all_merge (R e.0) b finds (both_first R e finds b cb) t.0, rest)
          (all_imp₂ (λ x k v. (k.0.0, all_merge (R x) b finds v (both_takes R finds x k.1))) a ca (pw_cross R a b q))

      step : (a b : List ℕ) → Cut e.0 e.1 row a b → ((b : List ℕ) → Pw R b → All (Both R finds) b → Pw R (merge h b finds)) → Pw R (a ++ (e.0 ∷ merge h b finds))
      step a b k ih =
          let q : Pw R (a ++ b) = rw k.whole p in
          let u : All (Both R (e ∷ finds)) (a ++ b) = rw k.whole c in
          let cb = all_right (Both R (e ∷ finds)) a b u in
          parts a b q (all_left (Both R (e ∷ finds)) a b u) cb (ih b (pw_right R a b q) (both_later R e finds b cb))

  -- ---- order kept

  -- Bars x t: put x was found when take t found, or earlier. Then t does not precede x
  module _ (Bars : ℕ → ℕ → Type 0) (bars-not : (x t : ℕ) → Bars x t → ¬ Precedes h t x) (irr : (a : ℕ) → ¬ Precedes h a a) where
    -- x stands before z in the row of puts
    abbrev pub PutPut : ℕ → ℕ → Type 0
    PutPut x z = (¬ Precedes h z x) × ((t : ℕ) → Bars z t → Bars x t)

    -- the take of e found no later than that of f
    abbrev pub Reach : ℕ × ℕ → ℕ × ℕ → Type 0
    Reach e f = (¬ Precedes h f.0 e.0) × Bars e.1 f.0

    -- a put that stands before e's take because of z is not preceded by f's take: z is what e found, so x was found no later;
    -- or z precedes e's take, and of two precedences one goes across
    covered : (e f : ℕ × ℕ) → Reach e f → (x : ℕ) → (z : ℕ) × Before h e.0 e.1 z × ((x ≡ z) ⊎ PutPut x z) → ¬ Precedes h f.0 x
    covered e f r x w q = go w.0 w.1 w.2
      where
        bars : (z : ℕ) → z ≡ e.1 → Bars z f.0
        bars z eq = rw eq r.1

        across : (z : ℕ) → Precedes h z x ⊎ Precedes h f.0 e.0 → ¬ Precedes h z x → ⊥
        across z (inl a) n = n a
        across z (inr a) n = r.0 a

        go : (z : ℕ) → Before h e.0 e.1 z → (x ≡ z) ⊎ PutPut x z → ⊥
        go z (inl k) (inl eq) = bars-not x f.0 (rw eq (bars z k)) q
        go z (inl k) (inr p) = bars-not x f.0 (p.1 f.0 (bars z k)) q
        go z (inr k) (inl eq) = across z (interval h z e.0 f.0 x k q) (rw eq (irr z))
        go z (inr k) (inr p) = across z (interval h z e.0 f.0 x k q) p.0

    pub merged : (row : List ℕ) (finds : List (ℕ × ℕ)) → Pw PutPut row → All (λ e. Reach e e) finds → Pw Reach finds → Pw (λ a b. ¬ Precedes h b a) (merge h row finds)
    unfolding merge
    merged row [] p r t = pw_map_to (λ x y k. k.0) row p
    merged row (e ∷ finds) p r t = step (cut h e.0 e.1 row).0 (cut h e.0 e.1 row).1 (cut_is e.0 e.1 row) (λ b w. merged b finds w r.1 t.1)
      where
        step : (a b : List ℕ) → Cut e.0 e.1 row a b → ((b : List ℕ) → Pw PutPut b → Pw (λ a b. ¬ Precedes h b a) (merge h b finds))
            → Pw (λ a b. ¬ Precedes h b a) (a ++ (e.0 ∷ merge h b finds))
        step a b c ih =
            let p' : Pw PutPut (a ++ b) = rw c.whole p in
            let pa : Pw PutPut a = pw_left PutPut a b p' in
            pw_append (λ a b. ¬ Precedes h b a) a (e.0 ∷ merge h b finds) (pw_map_to (λ x y k. k.0) a pa) (
              all_merge (λ y. ¬ Precedes h y e.0) b finds (all_imp (λ x n q. n (inr q)) b c.clear) (all_imp (λ f k. k.0) finds t.0),
              ih b (pw_right PutPut a b p'),
            )
            (all_imp₂ (λ x w v. (covered e e r.0 x w, all_merge (λ y. ¬ Precedes h y x) b finds (all_imp (λ z u. u.0) b v) (all_imp (λ f u. covered e f u x w) finds t.0)))
            a (cover e.0 e.1 PutPut a c.ends pa) (pw_cross PutPut a b p'))
