-- Laws of lists by index and of lists that grow at their end, which the laws of histories, orders and benches use. Assumes nothing.
use mathlib.Core.Path.{◌≡◌, refl, sym, ap, ◌∙◌, subst}
use mathlib.Core.Logic.{◌≢◌, ◌⊎◌, inl, inr}
use mathlib.Core.List.{List, [], ◌∷◌, ◌++◌, map}
use Prim.Native.Nat.{ℕ, zero, suc, ◌≤◌, ◌<◌, zero-le}
use native.Mathlib.Decide.{ℕ_discrete}
use native.Mathlib.Nat.{not-suc-le-zero, le_of_suc-le-suc}
use native.Mathlib.Omega.{arith}
use lib.ListN.{length, get_or, set, take, length-append, get_or-append}
use lib.Seq.{get_or-set_same, get_or-set_other, get_or-append_seam}
use Rattle.limits.specs.Lists.{All, Mem, Pw}
use Rattle.history.proofs.ListLaws.{all_imp, all_imp₂, all_append, mem_append, mem_right, mem_split, mem_cut, pw_append}

module _ {A : Type 0} where
  -- ---- every entry

  pub all_snoc : (P : A → Type 0) (l : List A) (x : A) → All P l → P x → All P (l ++ (x ∷ []))
  all_snoc P l x h p = all_append P l (x ∷ []) h (p, tt)

  -- ---- membership

  pub mem_last : (l : List A) (x : A) → Mem x (l ++ (x ∷ []))
  mem_last l x = mem_right l (x ∷ []) x (inl refl)

  pub mem_snoc : (l : List A) (y x : A) → Mem x (l ++ (y ∷ [])) → Mem x l ⊎ (x ≡ y)
  mem_snoc l y x m = go (mem_append l (y ∷ []) x m)
    where
      go : Mem x l ⊎ Mem x (y ∷ []) → Mem x l ⊎ (x ≡ y)
      go (inl k) = inl k
      go (inr (inl e)) = inr e
      go (inr (inr k)) = absurd k

  -- ---- every two

  pub pw_map_to : {R S : A → A → Type 0} → ((x y : A) → R x y → S x y) → (l : List A) → Pw R l → Pw S l
  pw_map_to f [] h = tt
  pw_map_to f (x ∷ l) h = (all_imp (f x) l h.0, pw_map_to f l h.1)

  pub pw_snoc : (R : A → A → Type 0) (l : List A) (y : A) → Pw R l → All (λ x. R x y) l → Pw R (l ++ (y ∷ []))
  pw_snoc R l y h c = pw_append R l (y ∷ []) h (tt, tt) (all_imp (λ x r. (r, tt)) l c)

  -- ---- by index

  pub all_get_or : (P : A → Type 0) (l : List A) (d : A) → All P l → (i : ℕ) → i < length l → P (get_or l i d)
  all_get_or P [] d h i le = absurd (not-suc-le-zero le)
  all_get_or P (x ∷ l) d h zero le = h.0
  all_get_or P (x ∷ l) d h (suc i) le = all_get_or P l d h.1 i (le_of_suc-le-suc le)

  pub pw_get_or : (R : A → A → Type 0) (l : List A) (d : A) → Pw R l → (i j : ℕ) → i < j → j < length l → R (get_or l i d) (get_or l j d)
  pw_get_or R [] d h i j lt le = absurd (not-suc-le-zero le)
  pw_get_or R (x ∷ l) d h zero zero lt le = absurd (not-suc-le-zero lt)
  pw_get_or R (x ∷ l) d h zero (suc j) lt le = all_get_or (R x) l d h.0 j (le_of_suc-le-suc le)
  pw_get_or R (x ∷ l) d h (suc i) zero lt le = absurd (not-suc-le-zero lt)
  pw_get_or R (x ∷ l) d h (suc i) (suc j) lt le = pw_get_or R l d h.1 i j (le_of_suc-le-suc lt) (le_of_suc-le-suc le)

  pub all_of_get_or : (P : A → Type 0) (l : List A) (d : A) → ((i : ℕ) → i < length l → P (get_or l i d)) → All P l
  all_of_get_or P [] d h = tt
  all_of_get_or P (x ∷ l) d h = (h 0 (omega arith), all_of_get_or P l d (λ i lt. h (suc i) (omega arith)))

  pub all_take : (P : A → Type 0) (l : List A) (k : ℕ) → All P l → All P (take k l)
  all_take P l zero h = tt
  all_take P [] (suc k) h = tt
  all_take P (x ∷ l) (suc k) h = (h.0, all_take P l k h.1)

  pub mem_get_or : (l : List A) (d : A) (i : ℕ) → i < length l → Mem (get_or l i d) l
  mem_get_or [] d i le = absurd (not-suc-le-zero le)
  mem_get_or (x ∷ l) d zero le = inl refl
  mem_get_or (x ∷ l) d (suc i) le = inr (mem_get_or l d i (le_of_suc-le-suc le))

  -- a list without repetition has an entry at one index
  pub once_get_or : (l : List A) (d : A) → Pw (λ a b. a ≢ b) l → (i j : ℕ) → i < length l → j < length l → get_or l i d ≡ get_or l j d → i ≡ j
  once_get_or [] d h i j li lj e = absurd (not-suc-le-zero li)
  once_get_or (x ∷ l) d h zero zero li lj e = refl
  once_get_or (x ∷ l) d h zero (suc j) li lj e = absurd (all_get_or (λ b. x ≢ b) l d h.0 j (le_of_suc-le-suc lj) e)
  once_get_or (x ∷ l) d h (suc i) zero li lj e = absurd (all_get_or (λ b. x ≢ b) l d h.0 i (le_of_suc-le-suc li) (sym e))
  once_get_or (x ∷ l) d h (suc i) (suc j) li lj e = ap suc (once_get_or l d h.1 i j (le_of_suc-le-suc li) (le_of_suc-le-suc lj) e)

  -- an entry set in a list: where it is set the new one, elsewhere the old one
  pub set_case : (l : List A) (i : ℕ) (x d : A) (q : ℕ) (P : A → Type 0) → i < length l → (q ≡ i → P x) → (q ≢ i → P (get_or l q d)) → P (get_or (set l i x) q d)
  set_case l i x d q P lt same other = go (ℕ_discrete q i)
    where
      go : Dec (q ≡ i) → P (get_or (set l i x) q d)
      go (yes e) = subst P (sym (ap (λ k. get_or (set l i x) k d) e ∙ get_or-set_same l i x d lt)) (same e)
      go (no ne) = subst P (sym (get_or-set_other l i q x d ne)) (other ne)

  -- what holds of the old entry, and of the new one where it is set, holds of the entry after it
  pub set_any : (l : List A) (i : ℕ) (x d : A) (q : ℕ) (P : A → Type 0) → (q ≡ i → P x) → P (get_or l q d) → P (get_or (set l i x) q d)
  set_any [] i x d q P same old = old
  set_any (y ∷ l) zero x d zero P same old = same refl
  set_any (y ∷ l) zero x d (suc q) P same old = old
  set_any (y ∷ l) (suc i) x d zero P same old = old
  set_any (y ∷ l) (suc i) x d (suc q) P same old = set_any l i x d q P (λ e. same (ap suc e)) old

  -- ---- one entry more

  pub length_snoc : (l : List A) (x : A) → length (l ++ (x ∷ [])) ≡ suc (length l)
  length_snoc l x = omega (arith, length-append l (x ∷ []))

  pub get_or_snoc : (l : List A) (x d : A) (i : ℕ) → i < length l → get_or (l ++ (x ∷ [])) i d ≡ get_or l i d
  get_or_snoc l x d i lt = get_or-append l (x ∷ []) d i lt

  pub get_or_last : (l : List A) (x d : A) → get_or (l ++ (x ∷ [])) (length l) d ≡ x
  get_or_last l x d = get_or-append_seam l x [] d

  -- a list without repetition whose entries all stand in another is no longer than it: each takes one entry out of the other
  pub sub_length : (l m : List A) → Pw (λ a b. a ≢ b) l → All (λ x. Mem x m) l → length l ≤ length m
  sub_length [] m once sub = zero-le
  sub_length (x ∷ l) m once sub = go (mem_split m x sub.0) (λ r s. sub_length l r once.1 s)
    where
      keep : (a b : List A) (y : A) → x ≢ y → (y ≡ x) ⊎ Mem y (a ++ b) → Mem y (a ++ b)
      keep a b y ne (inl e) = absurd (ne (sym e))
      keep a b y ne (inr n) = n

      go : (a : List A) × (b : List A) × (m ≡ a ++ (x ∷ b)) → ((r : List A) → All (λ y. Mem y r) l → length l ≤ length r) → length (x ∷ l) ≤ length m
      go s ih =
          let sub' : All (λ y. Mem y (s.0 ++ (x ∷ s.1))) l = subst (λ (t : List A). All (λ y. Mem y t) l) s.2 sub.1 in
          let le = ih (s.0 ++ s.1) (all_imp₂ (λ y ne k. keep s.0 s.1 y ne (mem_cut s.0 s.1 x y k)) l once.0 sub') in
          omega (arith, ap length s.2, length-append s.0 (x ∷ s.1), length-append s.0 s.1)

module _ {A B : Type 0} (f : A → B) where
  pub all_map : (P : B → Type 0) (l : List A) → All (λ x. P (f x)) l → All P (map f l)
  all_map P [] h = tt
  all_map P (x ∷ l) h = (h.0, all_map P l h.1)

  pub pw_map : (R : B → B → Type 0) (l : List A) → Pw (λ x y. R (f x) (f y)) l → Pw R (map f l)
  pw_map R [] h = tt
  pw_map R (x ∷ l) h = (all_map (R (f x)) l h.0, pw_map R l h.1)

  pub map_append : (l m : List A) → map f (l ++ m) ≡ map f l ++ map f m
  map_append [] m = refl
  map_append (x ∷ l) m = ap (λ r. f x ∷ r) (map_append l m)

  pub mem_map : (l : List A) (x : A) → Mem x l → Mem (f x) (map f l)
  mem_map [] x h = h
  mem_map (y ∷ l) x (inl e) = inl (ap f e)
  mem_map (y ∷ l) x (inr h) = inr (mem_map l x h)

-- the numbers below n
abbrev pub below : ℕ → List ℕ
below zero = []
below (suc n) = n ∷ below n

pub length_below : (n : ℕ) → length (below n) ≡ n
length_below zero = refl
length_below (suc n) = ap suc (length_below n)

pub mem_below : (n i : ℕ) → i < n → Mem i (below n)
mem_below zero i lt = absurd (not-suc-le-zero lt)
mem_below (suc n) i lt = go (ℕ_discrete i n) (λ l. mem_below n i l)
  where
    go : Dec (i ≡ n) → (i < n → Mem i (below n)) → Mem i (below (suc n))
    go (yes e) ih = inl e
    go (no ne) ih = inr (ih (omega arith))
