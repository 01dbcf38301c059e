-- Laws of the window that a queue shows: its length, a sample behind it, and the one at its front. Assumes nothing.
use Rattle.std.proofs.Common.{◌≡◌, ◌≢◌, ℕ, zero, suc, ◌+◌, ◌-◌, ◌%◌, ◌<◌, List, [], ◌∷◌, ◌++◌, ℤ, pos, length, get_or, set, refl, ap, arith, get_or-set_same, get_or-set_other}
use Rattle.judge.specs.Queue.{window}

pub window_length : (l : List ℤ) (f n : ℕ) → length (window l f n) ≡ n
unfolding window
window_length l f zero = refl
window_length l f (suc n) = ap suc (window_length l (suc f) n)

-- a store just behind the window is seen once the window grows by one
window_store : (l : List ℤ) (f n : ℕ) (x : ℤ) (e : ℕ) → e ≡ (f + n) % 128 → n < 128 → length l ≡ 128 → window (set l e x) f (suc n) ≡ window l f n ++ (x ∷ [])
unfolding window
window_store l f zero x e p few long = let q : f % 128 ≡ e = omega arith in let lt : e < length l = omega arith in rw (q, get_or-set_same l e x (pos 0) lt)
window_store l f (suc n) x e p few long =
    let ne : f % 128 ≢ e = omega arith in
    rw (get_or-set_other l e (f % 128) x (pos 0) ne, window_store l (suc f) n x e (omega arith) (omega arith) long)

-- the same, as the code counts
pub window_push : (l : List ℤ) (f n : ℕ) (x : ℤ) → n < 128 → length l ≡ 128 → window (set l ((f + n) % 128) x) f (n + 1) ≡ window l f n ++ (x ∷ [])
window_push l f n x few long = let s : n + 1 ≡ suc n = omega arith in rw s (window_store l f n x ((f + n) % 128) refl few long)

-- a place counts by its rest alone
window_turn : (l : List ℤ) (e f n : ℕ) → e % 128 ≡ f % 128 → window l e n ≡ window l f n
unfolding window
window_turn l e f zero p = refl
window_turn l e f (suc n) p = rw (p, window_turn l (suc e) (suc f) n (omega arith))

-- the front of a window that is not empty, and the rest
pub window_pop : (l : List ℤ) (f n : ℕ) → f < 128 → n ≢ 0 → window l f n ≡ get_or l f (pos 0) ∷ window l ((f + 1) % 128) (n - 1)
unfolding window
window_pop l f zero lt ne = absurd (ne refl)
window_pop l f (suc n) lt ne =
    let a : suc n - 1 ≡ n = omega arith in
    let b : f % 128 ≡ f = omega arith in
    rw (a, b, window_turn l (suc f) ((f + 1) % 128) n (omega arith))

-- an empty window
pub window_none : (l : List ℤ) (f n : ℕ) → n ≡ 0 → window l f n ≡ []
unfolding window
window_none l f n e = rw e
