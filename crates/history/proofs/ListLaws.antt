-- Laws of `All`, `Mem` and `Pw` (specs Lists of `limits`), each by recursion over the list. Assumes nothing.
use mathlib.Core.Path.{◌≡◌, refl, sym, ap, subst}
use mathlib.Core.Logic.{◌⊎◌, inl, inr}
use mathlib.Core.List.{List, [], ◌∷◌, ◌++◌}
use Prim.Native.Nat.{ℕ}
use native.Mathlib.Omega.{arith}
use Rattle.limits.specs.Lists.{All, Mem, Pw}

-- two constructors are never equal: `clash (cc)`
pub clash : {A : Type 0} → ◌≡◌ {A = ℕ} 0 1 → A
clash e = absurd (omega arith)

-- one of two values, by a decision
abbrev pub pick : {A : Type 0} {P : Type 0} → Dec P → A → A → A
pick (yes p) a b = a
pick (no p) a b = b

module _ {A : Type 0} where
  -- what follows for each entry follows for all
  pub all_imp : {P Q : A → Type 0} → ((x : A) → P x → Q x) → (l : List A) → All P l → All Q l
  all_imp f [] h = tt
  all_imp f (x ∷ l) h = (f x h.0, all_imp f l h.1)

  -- what all entries have, a member has
  pub all_mem : (P : A → Type 0) (l : List A) → All P l → (x : A) → Mem x l → P x
  all_mem P [] h x m = absurd m
  all_mem P (y ∷ l) h x (inl e) = subst P (sym e) h.0
  all_mem P (y ∷ l) h x (inr m) = all_mem P l h.1 x m

  -- a relation of the pairs changes where each element has Q
  pub all_imp₂ : {P Q R : A → Type 0} → ((x : A) → Q x → P x → R x) → (l : List A) → All Q l → All P l → All R l
  all_imp₂ f [] q h = tt
  all_imp₂ f (x ∷ l) q h = (f x q.0 h.0, all_imp₂ f l q.1 h.1)

  pub pw_imp : {Q : A → Type 0} {R S : A → A → Type 0} → ((x y : A) → Q x → Q y → R x y → S x y) → (l : List A) → All Q l → Pw R l → Pw S l
  pw_imp f [] q h = tt
  pw_imp f (x ∷ l) q h = (all_imp₂ (λ y. f x y q.0) l q.1 h.0, pw_imp f l q.1 h.1)

  -- of a list in two parts, and of each part
  pub all_append : (P : A → Type 0) (l m : List A) → All P l → All P m → All P (l ++ m)
  all_append P [] m h k = k
  all_append P (x ∷ l) m h k = (h.0, all_append P l m h.1 k)

  pub all_left : (P : A → Type 0) (l m : List A) → All P (l ++ m) → All P l
  all_left P [] m h = tt
  all_left P (x ∷ l) m h = (h.0, all_left P l m h.1)

  pub all_right : (P : A → Type 0) (l m : List A) → All P (l ++ m) → All P m
  all_right P [] m h = h
  all_right P (x ∷ l) m h = all_right P l m h.1

  -- what every member has, all entries have
  pub all_of_mem : (P : A → Type 0) (l : List A) → ((x : A) → Mem x l → P x) → All P l
  all_of_mem P [] f = tt
  all_of_mem P (x ∷ l) f = (f x (inl refl), all_of_mem P l (λ y m. f y (inr m)))

  -- a member of a list in two parts is one of either part
  pub mem_append : (l m : List A) (x : A) → Mem x (l ++ m) → Mem x l ⊎ Mem x m
  mem_append [] m x h = inr h
  mem_append (y ∷ l) m x (inl e) = inl (inl e)
  mem_append (y ∷ l) m x (inr h) = go (mem_append l m x h)
    where
      go : Mem x l ⊎ Mem x m → Mem x (y ∷ l) ⊎ Mem x m
      go (inl k) = inl (inr k)
      go (inr k) = inr k

  pub mem_left : (l m : List A) (x : A) → Mem x l → Mem x (l ++ m)
  mem_left [] m x h = absurd h
  mem_left (y ∷ l) m x (inl e) = inl e
  mem_left (y ∷ l) m x (inr h) = inr (mem_left l m x h)

  pub mem_right : (l m : List A) (x : A) → Mem x m → Mem x (l ++ m)
  mem_right [] m x h = h
  mem_right (y ∷ l) m x h = inr (mem_right l m x h)

  -- of each part, and across the two
  pub pw_append : (R : A → A → Type 0) (l m : List A) → Pw R l → Pw R m → All (λ x. All (R x) m) l → Pw R (l ++ m)
  pw_append R [] m h k c = k
  pw_append R (x ∷ l) m h k c = (all_append (R x) l m h.0 c.0, pw_append R l m h.1 k c.1)

  pub pw_left : (R : A → A → Type 0) (l m : List A) → Pw R (l ++ m) → Pw R l
  pw_left R [] m h = tt
  pw_left R (x ∷ l) m h = (all_left (R x) l m h.0, pw_left R l m h.1)

  pub pw_right : (R : A → A → Type 0) (l m : List A) → Pw R (l ++ m) → Pw R m
  pw_right R [] m h = h
  pw_right R (x ∷ l) m h = pw_right R l m h.1

  pub pw_cross : (R : A → A → Type 0) (l m : List A) → Pw R (l ++ m) → All (λ x. All (R x) m) l
  pw_cross R [] m h = tt
  pw_cross R (x ∷ l) m h = (all_right (R x) l m h.0, pw_cross R l m h.1)

  -- two relations give a third
  pub pw_imp₂ : {R S T : A → A → Type 0} → ((x y : A) → R x y → S x y → T x y) → (l : List A) → Pw R l → Pw S l → Pw T l
  pw_imp₂ f [] h k = tt
  pw_imp₂ f (x ∷ l) h k = (all_imp₂ (λ y. f x y) l h.0 k.0, pw_imp₂ f l h.1 k.1)

  -- one more entry leaves the members, and one less all but that entry
  pub mem_put : (a b : List A) (e x : A) → Mem x (a ++ b) → Mem x (a ++ (e ∷ b))
  mem_put [] b e x m = inr m
  mem_put (y ∷ a) b e x (inl q) = inl q
  mem_put (y ∷ a) b e x (inr m) = inr (mem_put a b e x m)

  pub mem_cut : (a b : List A) (e x : A) → Mem x (a ++ (e ∷ b)) → (x ≡ e) ⊎ Mem x (a ++ b)
  mem_cut [] b e x (inl q) = inl q
  mem_cut [] b e x (inr m) = inr m
  mem_cut (y ∷ a) b e x (inl q) = inr (inl q)
  mem_cut (y ∷ a) b e x (inr m) = up (mem_cut a b e x m)
    where
      up : (x ≡ e) ⊎ Mem x (a ++ b) → (x ≡ e) ⊎ Mem x (y ∷ (a ++ b))
      up (inl q) = inl q
      up (inr n) = inr (inr n)

  -- a list stands before and after a member
  pub mem_split : (c : List A) (e : A) → Mem e c → (a : List A) × (b : List A) × (c ≡ a ++ (e ∷ b))
  mem_split [] e m = absurd m
  mem_split (y ∷ c) e (inl q) = ([], c, rw q)
  mem_split (y ∷ c) e (inr m) = let r = mem_split c e m in (y ∷ r.0, r.1, ap (λ l. y ∷ l) r.2)

  -- a relation of every two, over a list with one taken out
  pub pw_cut : (R : A → A → Type 0) (a b : List A) (e : A) → Pw R (a ++ (e ∷ b)) → Pw R (a ++ b)
  pw_cut R a b e h =
      pw_append R a b (pw_left R a (e ∷ b) h) (pw_right R a (e ∷ b) h).1 (all_imp (λ x r. r.1) a (pw_cross R a (e ∷ b) h))

  -- the same of every entry
  pub all_cut : (P : A → Type 0) (a b : List A) (e : A) → All P (a ++ (e ∷ b)) → All P (a ++ b)
  all_cut P a b e h = all_append P a b (all_left P a (e ∷ b) h) (all_right P a (e ∷ b) h).1

  -- the one taken out is related to all others
  pub pw_out : (R : A → A → Type 0) → ((x y : A) → R x y → R y x) → (a b : List A) (e : A) → Pw R (a ++ (e ∷ b)) → All (R e) (a ++ b)
  pw_out R sy a b e h = all_append (R e) a b (all_imp (λ x r. sy x e r.0) a (pw_cross R a (e ∷ b) h)) (pw_right R a (e ∷ b) h).0
