-- What a queue hands to the merge, and what the listed order then has: order kept, none twice, its exact set, its play on a plain queue. Assumes nothing.
--   Rows    the finds, the other stored puts, and what has to hold of the two rows in the history
--   Plays   a plain queue of samples plays an order
use mathlib.Core.Path.{◌≡◌, refl, sym, ap, ◌∙◌}
use mathlib.Core.Logic.{◌≢◌, ◌⊎◌, inl, inr}
use mathlib.Core.List.{List, [], ◌∷◌, ◌++◌, map, append_assoc, append-nil}
use Prim.Native.Nat.{ℕ}
use lib.IntN.{ℤ}
use Rattle.limits.specs.Lists.{All, Mem, Pw}
use Rattle.limits.specs.declared.Kind.{Kind}
use Rattle.limits.specs.declared.Kind.TheVariants.{Put as putting, Take as taking}
use Rattle.limits.specs.Operations.{Table}
use Rattle.history.specs.History.{Event, Precedes}
use Rattle.history.proofs.ListLaws.{all_imp, all_mem, all_of_mem, all_left, all_right, pw_imp, pw_imp₂}
use Rattle.history.proofs.PrecedenceLists.{map_append}
use Rattle.order.specs.Order.{cut, merge, found_puts, listed_order}
use Rattle.order.proofs.MergeOrderLaws.{takers, takers_mem, takers_all, Cut, cut_is, pw_merge, mem_merge, mem_merge_put, mem_merge_take, merged}

pub record Rows (h : List Event) (finds : List (ℕ × ℕ)) (others : List ℕ) : Type 0 where
  -- nothing precedes itself
  pub irr : (a : ℕ) → ¬ Precedes h a a
  -- R1: no put of the row is preceded by a later one
  pub put_put : Pw (λ p q. ¬ Precedes h q p) (found_puts finds ++ others)
  -- R2: no take is preceded by a later one
  pub take_take : Pw (λ e f. ¬ Precedes h f.0 e.0) finds
  -- R3: no take precedes the put that it found, nor one that was found before
  pub take_own : All (λ e. ¬ Precedes h e.0 e.1) finds
  pub take_put : Pw (λ e f. ¬ Precedes h f.0 e.1) finds
  -- none stands twice
  pub puts_once : Pw (λ p q. p ≢ q) (found_puts finds ++ others)
  pub takes_once : Pw (λ e f. e.0 ≢ f.0) finds
  pub apart : All (λ p. All (λ e. p ≢ e.0) finds) (found_puts finds ++ others)

-- ---- put x was found by take t, or by one before t

abbrev UpTo : List (ℕ × ℕ) → ℕ → ℕ → Type 0
UpTo [] x t = ⊥
UpTo (e ∷ finds) x t = ((x ≡ e.1) × Mem t (takers (e ∷ finds))) ⊎ UpTo finds x t

upto_take : (finds : List (ℕ × ℕ)) (x t : ℕ) → UpTo finds x t → Mem t (takers finds)
upto_take [] x t b = b
upto_take (e ∷ finds) x t (inl b) = b.1
upto_take (e ∷ finds) x t (inr b) = inr (upto_take finds x t b)

upto_self : (finds : List (ℕ × ℕ)) → All (λ e. UpTo finds e.1 e.0) finds
upto_self [] = tt
upto_self (e ∷ finds) = (inl (refl, inl refl), all_imp (λ f b. inr b) finds (upto_self finds))

in_takers : (finds : List (ℕ × ℕ)) → All (λ f. Mem f.0 (takers finds)) finds
in_takers finds = all_of_mem (λ f. Mem f.0 (takers finds)) finds (λ f m. takers_mem finds f m)

upto_later : (finds : List (ℕ × ℕ)) → Pw (λ e f. UpTo finds e.1 f.0) finds
upto_later [] = tt
upto_later (e ∷ finds) = (all_imp (λ f m. inl (refl, inr m)) finds (in_takers finds), pw_imp (λ f g _ _ b. inr b) finds (in_takers finds) (upto_later finds))

upto_mono : (finds : List (ℕ × ℕ)) (others : List ℕ) → Pw (λ x z. x ≢ z) (found_puts finds ++ others)
    → Pw (λ x z. (t : ℕ) → UpTo finds z t → UpTo finds x t) (found_puts finds ++ others)
upto_mono [] others a = pw_imp₂ (λ x z _ _ t b. absurd b) others a a
upto_mono (e ∷ finds) others a =
    (all_imp head (found_puts finds ++ others) a.0, pw_imp tail (found_puts finds ++ others) a.0 (upto_mono finds others a.1))
  where
    head : (z : ℕ) → e.1 ≢ z → (t : ℕ) → UpTo (e ∷ finds) z t → UpTo (e ∷ finds) e.1 t
    head z ne t (inl b) = absurd (ne (sym b.0))
    head z ne t (inr b) = inl (refl, inr (upto_take finds z t b))

    tail : (x z : ℕ) → e.1 ≢ x → e.1 ≢ z → ((t : ℕ) → UpTo finds z t → UpTo finds x t) → (t : ℕ) → UpTo (e ∷ finds) z t → UpTo (e ∷ finds) x t
    tail x z nx nz k t (inl b) = absurd (nz (sym b.0))
    tail x z nx nz k t (inr b) = inr (k t b)

upto_not : (h : List Event) (finds : List (ℕ × ℕ)) → All (λ e. ¬ Precedes h e.0 e.1) finds → Pw (λ e f. ¬ Precedes h f.0 e.1) finds
    → (x t : ℕ) → UpTo finds x t → ¬ Precedes h t x
upto_not h [] s p x t b = absurd b
upto_not h (e ∷ finds) s p x t (inl b) =
    rw b.0 (all_mem (λ z. ¬ Precedes h z e.1) (takers (e ∷ finds)) (s.0, takers_all (λ z. ¬ Precedes h z e.1) finds p.0) t b.1)
upto_not h (e ∷ finds) s p x t (inr b) = upto_not h finds s.1 p.1 x t b

module _ (h : List Event) (finds : List (ℕ × ℕ)) (others : List ℕ) (r : Rows h finds others) where
  -- in the listed order no later operation precedes an earlier one
  pub order_keeps : Pw (λ a b. ¬ Precedes h b a) (listed_order h finds others)
  order_keeps = merged h (UpTo finds) (upto_not h finds r.take_own r.take_put) r.irr (found_puts finds ++ others) finds
      (pw_imp₂ (λ x z a b. (a, b)) (found_puts finds ++ others) r.put_put (upto_mono finds others r.puts_once))
      (all_imp (λ e b. (r.irr e.0, b)) finds (upto_self finds))
      (pw_imp₂ (λ e f a b. (a, b)) finds r.take_take (upto_later finds))

  -- none stands twice
  pub order_once : Pw (λ a b. a ≢ b) (listed_order h finds others)
  order_once = pw_merge h (λ a b. a ≢ b) (found_puts finds ++ others) finds r.puts_once r.takes_once
      (all_imp (λ x k. all_imp (λ e ne. (ne, λ eq. ne (sym eq))) finds k) (found_puts finds ++ others) r.apart)

-- what stands in it: the puts of the row and the takes, and nothing else
module _ (h : List Event) (finds : List (ℕ × ℕ)) (others : List ℕ) where
  pub order_put : (o : ℕ) → Mem o (found_puts finds ++ others) → Mem o (listed_order h finds others)
  order_put o m = mem_merge_put h (found_puts finds ++ others) finds o m

  pub order_take : (o : ℕ) → Mem o (takers finds) → Mem o (listed_order h finds others)
  order_take o m = mem_merge_take h (found_puts finds ++ others) finds o m

  pub order_only : (o : ℕ) → Mem o (listed_order h finds others) → Mem o (found_puts finds ++ others) ⊎ Mem o (takers finds)
  order_only o m = mem_merge h (found_puts finds ++ others) finds o m

-- ---- a plain queue

-- one operation of sample x, with q in the queue: a put stands last; a take meets the first, and that is what it gets
abbrev pub PlaysAt : (ℕ → ℤ → Type 0) → Kind → ℕ → ℤ → List ℤ → (List ℤ → Type 0) → Type 0
PlaysAt Gets putting o x q next = next (q ++ (x ∷ []))
PlaysAt Gets taking o x q next = (y : ℤ) × (r : List ℤ) × (q ≡ y ∷ r) × Gets o y × next r

-- played one by one, from a queue that holds q, each take gets what it got, and `rest` stays
abbrev pub Plays : Table → (ℕ → ℤ → Type 0) → List ℤ → List ℕ → List ℤ → Type 0
Plays T Gets q [] rest = q ≡ rest
Plays T Gets q (o ∷ order) rest = PlaysAt Gets (T.kind o) o (T.sample o) q (λ r. Plays T Gets r order rest)

module _ (T : Table) (Gets : ℕ → ℤ → Type 0) where
  plays_puts : (a q : List ℕ) (l : List ℕ) (rest : List ℤ) → All (λ p. T.kind p ≡ putting) a → Plays T Gets (map T.sample (q ++ a)) l rest → Plays T Gets (map T.sample q) (a ++ l) rest
  plays_puts [] q l rest k p = rw append-nil at p
  plays_puts (x ∷ a) q l rest k p =
      let n : Plays T Gets (map T.sample q ++ (T.sample x ∷ [])) (a ++ l) rest =
      rw (map_append T.sample q (x ∷ [])) at (plays_puts a (q ++ (x ∷ [])) l rest k.1 (rw append_assoc p)) in
      rw k.0 n

  -- each take gets the sample of the put that it found: that put is the front of the queue, since all before it were found and taken before
  pub plays_merge : (h : List Event) (row : List ℕ) (finds : List (ℕ × ℕ)) (q left : List ℕ) → q ++ row ≡ found_puts finds ++ left
      → All (λ p. T.kind p ≡ putting) row → All (λ e. (T.kind e.0 ≡ taking) × Gets e.0 (T.sample e.1)) finds
      → Plays T Gets (map T.sample q) (merge h row finds) (map T.sample left)
  unfolding merge
  plays_merge h row [] q left w k g =
      rw append-nil at (plays_puts row q [] (map T.sample left) k (ap (map T.sample) w))
  plays_merge h row (e ∷ finds) q left w k g = step (cut h e.0 e.1 row).0 (cut h e.0 e.1 row).1 (cut_is h e.0 e.1 row)
      (λ r b v kb. plays_merge h b finds r left v kb g.1)
    where
      step : (a b : List ℕ) → Cut h e.0 e.1 row a b
          → ((r b : List ℕ) → r ++ b ≡ found_puts finds ++ left → All (λ p. T.kind p ≡ putting) b → Plays T Gets (map T.sample r) (merge h b finds) (map T.sample left))
          → Plays T Gets (map T.sample q) (a ++ (e.0 ∷ merge h b finds)) (map T.sample left)
      step a b c ih =
          let k' : All (λ p. T.kind p ≡ putting) (a ++ b) = rw c.whole k in
          plays_puts a q (e.0 ∷ merge h b finds) (map T.sample left) (all_left (λ p. T.kind p ≡ putting) a b k')
          (rw g.0.0 (front (q ++ a) (append_assoc q a b ∙ ap (λ l. q ++ l) c.whole ∙ w) (all_right (λ p. T.kind p ≡ putting) a b k')))
        where
          front : (v : List ℕ) → v ++ b ≡ e.1 ∷ (found_puts finds ++ left) → All (λ p. T.kind p ≡ putting) b
              → PlaysAt Gets taking e.0 (T.sample e.0) (map T.sample v) (λ r. Plays T Gets r (merge h b finds) (map T.sample left))
          front [] eq kb = absurd ((rw eq at c.clear).0 (inl refl))
          front (z ∷ r) eq kb =
              let same : z ≡ e.1 = cc in
              (T.sample z, map T.sample r, refl, rw same g.0.1, ih r b (cc) kb)

  -- the listed order plays from the empty queue, and the other stored puts stay
  pub order_plays : (h : List Event) (finds : List (ℕ × ℕ)) (others : List ℕ) → All (λ p. T.kind p ≡ putting) (found_puts finds ++ others)
      → All (λ e. (T.kind e.0 ≡ taking) × Gets e.0 (T.sample e.1)) finds → Plays T Gets [] (listed_order h finds others) (map T.sample others)
  order_plays h finds others k g = plays_merge h (found_puts finds ++ others) finds [] others refl k g

  -- what a take gets may be said otherwise
  pub plays_imp : (Gets' : ℕ → ℤ → Type 0) → ((o : ℕ) (x : ℤ) → Gets o x → Gets' o x) → (q : List ℤ) (l : List ℕ) (rest : List ℤ) → Plays T Gets q l rest → Plays T Gets' q l rest
  plays_imp Gets' f q [] rest p = p
  plays_imp Gets' f q (o ∷ l) rest p = go (T.kind o) p (λ r. plays_imp Gets' f r l rest)
    where
      go : (k : Kind) → PlaysAt Gets k o (T.sample o) q (λ r. Plays T Gets r l rest) → ((r : List ℤ) → Plays T Gets r l rest → Plays T Gets' r l rest)
          → PlaysAt Gets' k o (T.sample o) q (λ r. Plays T Gets' r l rest)
      go putting p ih = ih (q ++ (T.sample o ∷ [])) p
      go taking p ih = (p.0, p.1, p.2, f o p.0 p.3, ih p.1 p.4)
