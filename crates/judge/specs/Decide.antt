-- Which event can stand, decided, so that refusal 10 computes. Nothing here has to be believed: a decision carries its proof.
use Rattle.std.specs.Prelude.{◌≡◌, refl, List, ℕ, zero, suc, ◌<◌, ℤ, pos, get_or, take}
use Rattle.std.proofs.Math.Decide.{ℕ_discrete, dec_lt}
use Rattle.std.proofs.Common.{arith}
use Rattle.limits.specs.declared.Kind.{Kind}
use Rattle.limits.specs.declared.Kind.TheVariants.{Put, Take}
use Rattle.limits.specs.Operations.{Table}
use Rattle.history.specs.History.{Event, call, ret, Returned, event_of, events}
use Rattle.history.specs.Decide.{both?, called?}
use Rattle.history.specs.Standing.{CanStand}
use Rattle.linear.specs.Decide.{not?, implies?, through?, int?, returned?}
use Rattle.judge.specs.Stand.{StandsAt}

pub below_next : (P : ℕ → Type 0) (n : ℕ) → ((i : ℕ) → i < n → P i) × P n → (i : ℕ) → i < suc n → P i
below_next P n h i lt = go (ℕ_discrete i n)
  where
    go : Dec (i ≡ n) → P i
    go (yes e) = rw e h.1
    go (no ne) = h.0 i (omega arith)

pub below_none : (P : ℕ → Type 0) (i : ℕ) → i < 0 → P i
below_none P i lt = absurd (omega arith)

pub below_split : (P : ℕ → Type 0) (n : ℕ) → ((i : ℕ) → i < suc n → P i) → ((i : ℕ) → i < n → P i) × P n
below_split P n h = (λ i lt. h i (omega arith), h n (omega arith))

abbrev pub below? : (P : ℕ → Type 0) → ((i : ℕ) → Dec (P i)) → (n : ℕ) → Dec ((i : ℕ) → i < n → P i)
below? P d zero = yes (below_none P)
below? P d (suc n) = through? (below_next P n) (below_split P n) (both? (below? P d n) (d n))

pub put_take : Take ≡ Put → ⊥
put_take e = let z : ◌≡◌ {A = ℕ} 0 1 = cc in omega arith

abbrev pub put? : (k : Kind) → Dec (k ≡ Put)
put? Put = yes refl
put? Take = no put_take

abbrev pub four? : {A B C D : Type 0} → Dec A → Dec B → Dec C → Dec D → Dec (A × B × C × D)
four? a b c d = through? (λ r. (r.0, r.1.0, r.1.1.0, r.1.1.1)) (λ r. (r.0, (r.1, (r.2, r.3)))) (both? a (both? b (both? c d)))

abbrev pub can_stand? : (T : Table) (old : List Event) (e : Event) (x : ℤ) → Dec (CanStand T old e x)
can_stand? T old (call o) x =
    four? (dec_lt o T.size) (not? (called? old o))
    (below? (λ p. T.thread p ≡ T.thread o → Returned old p) (λ p. implies? (ℕ_discrete (T.thread p) (T.thread o)) (returned? old p)) o) (int? x (pos 0))
can_stand? T old (ret o a) x = four? (dec_lt o T.size) (called? old o) (not? (returned? old o)) (implies? (put? (T.kind o)) (int? x (pos 0)))

unfoldable pub stands? : (T : Table) (cs : List ℕ) (xs : List ℤ) (i : ℕ) → Dec (StandsAt T cs xs i)
stands? T cs xs i = can_stand? T (take i (events T cs xs)) (event_of T (get_or cs i 0) (get_or xs i (pos 0))) (get_or xs i (pos 0))
