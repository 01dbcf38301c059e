-- Laws of permutations of histories: the same events stand in both, and two lists of events apart with the same members are one. Assumes nothing.
use mathlib.Core.Path.{◌≡◌, refl, ap}
use mathlib.Core.Logic.{◌⊎◌, inl, inr}
use mathlib.Core.List.{List, [], ◌∷◌, ◌++◌}
use Rattle.limits.specs.Lists.{All, Mem, Pw}
use Rattle.history.specs.History.{Event}
use Rattle.history.proofs.ListLaws.{all_mem, all_of_mem, mem_right, mem_put, mem_cut, mem_split, pw_cut, pw_out}
use Rattle.history.proofs.HistoryLaws.{Apart, apart_irr, apart_sym}
use Rattle.linear.specs.Linear.{Permutes}

-- the members are the same, by recursion over the first list
pub perm_mem : (s c : List Event) → Permutes s c → (x : Event) → Mem x s → Mem x c
perm_mem [] c p x m = absurd m
perm_mem (e ∷ s) c p x (inl q) = rw (p.2, q) (mem_right p.0 (e ∷ p.1) e (inl refl))
perm_mem (e ∷ s) c p x (inr m) = rw p.2 (mem_put p.0 p.1 e x (perm_mem s (p.0 ++ p.1) p.3 x m))

pub mem_perm : (s c : List Event) → Permutes s c → (x : Event) → Mem x c → Mem x s
mem_perm [] c p x m = rw p at m
mem_perm (e ∷ s) c p x m = go (mem_cut p.0 p.1 e x (rw p.2 at m)) (mem_perm s (p.0 ++ p.1) p.3 x)
  where
    go : (x ≡ e) ⊎ Mem x (p.0 ++ p.1) → (Mem x (p.0 ++ p.1) → Mem x s) → Mem x (e ∷ s)
    go (inl q) ih = inl q
    go (inr n) ih = inr (ih n)

-- so what all of one have, all of the other have
pub perm_all : (P : Event → Type 0) (s c : List Event) → Permutes s c → All P c → All P s
perm_all P s c p h = all_of_mem P s (λ x m. all_mem P c h x (perm_mem s c p x m))

-- taking an event out leaves the rest apart
pub perm_apart : (s c : List Event) → Permutes s c → Pw Apart c → Pw Apart s
perm_apart [] c p h = tt
perm_apart (e ∷ s) c p h =
    let g : Pw Apart (p.0 ++ (e ∷ p.1)) = rw p.2 at h in
    (perm_all (Apart e) s (p.0 ++ p.1) p.3 (pw_out Apart apart_sym p.0 p.1 e g), perm_apart s (p.0 ++ p.1) p.3 (pw_cut Apart p.0 p.1 e g))

-- two lists without repetition that hold the same events
pub perm_of : (s c : List Event) → Pw Apart s → Pw Apart c → ((x : Event) → Mem x s → Mem x c) → ((x : Event) → Mem x c → Mem x s) → Permutes s c
perm_of [] [] hs hc f g = refl
perm_of [] (y ∷ c) hs hc f g = absurd (g y (inl refl))
perm_of (e ∷ s) c hs hc f g =
    let r = mem_split c e (f e (inl refl)) in
    let k : Pw Apart (r.0 ++ (e ∷ r.1)) = rw r.2 at hc in (
      r.0,
      r.1,
      r.2,
      perm_of s (r.0 ++ r.1) hs.1 (pw_cut Apart r.0 r.1 e k) (λ x m. into x m (mem_cut r.0 r.1 e x (rw r.2 at (f x (inr m)))))
          (λ x m. out x m (all_mem (Apart e) (r.0 ++ r.1) (pw_out Apart apart_sym r.0 r.1 e k) x m) (g x (rw r.2 (mem_put r.0 r.1 e x m)))),
    )
  where
    into : {B : Type 0} (x : Event) → Mem x s → (x ≡ e) ⊎ B → B
    into x m (inl q) = absurd (apart_irr e (all_mem (Apart e) s hs.0 e (rw q at m)))
    into x m (inr b) = b

    out : {B : Type 0} (x : Event) → B → Apart e x → Mem x (e ∷ s) → Mem x s
    out x b ap (inl q) = absurd (apart_irr e (rw q at ap))
    out x b ap (inr m) = m
