-- Up to where the row is listed before a take: the latest of the puts listed already, the found put's end and the take's need. Assumes nothing.
--   Reaching   of the row's puts behind the first k, none from r on has to stand before the take t, which found y, and the one before r has to
use mathlib.Core.Path.{◌≡◌, ap, ◌∙◌}
use mathlib.Core.Logic.{inl, inr}
use mathlib.Core.List.{List, map}
use Prim.Native.Nat.{ℕ, suc, ◌+◌, ◌-◌, ◌≤◌, ◌<◌, max}
use native.Mathlib.Omega.{arith}
use native.Mathlib.Decide.{dec_lt}
use lib.ListN.{length, take, drop, length-drop}
use lib.Seq.{get_or-drop, drop-drop}
use Rattle.history.specs.History.{Event}
use Rattle.order.specs.Order.{Before, cut}
use Rattle.order.specs.Listing.{bare}
use Rattle.order.specs.Weaving.{at, Ends, Needs}
use Rattle.order.proofs.MergeLaws.{cut_none, cut_at}
use Rattle.order.proofs.NotingLaws.{needs_most, needs_from}

pub record Reaching (h : List Event) (t y : ℕ) (row : List ℕ) (k r : ℕ) : Type 0 where
  pub low : k ≤ r
  pub high : r ≤ length row
  pub clear : (q : ℕ) → r ≤ q → q < length row → ¬ Before h t y (at row q)
  pub last : k < r → Before h t y (at row (r - 1))

module _ (codes row ends needs : List ℕ) (d : Ends row ends (length row)) (n : Needs codes ends needs (length codes))
    (small : (q : ℕ) → at row q < 256) (t y : ℕ) (lt : t < 256) (k : ℕ) (within : k ≤ length row) where
  -- each put that has to stand before the take has its end at r or before, and the one that ends at r has to
  pub reaching : (r : ℕ) → r ≡ max (max k (at ends y)) (at needs t) → Reaching (map bare codes) t y row k r
  reaching r e = record { low = omega arith; high = high; clear = clear; last = last }
    where
      high : r ≤ length row
      high = go (dec_lt 0 (at needs t))
        where
          go : Dec (0 < at needs t) → r ≤ length row
          go (yes x) = let p = needs_from codes ends needs n t x in omega (arith, d.most y, d.most p.0, p.2)
          go (no x) = omega (arith, d.most y)

      clear : (q : ℕ) → r ≤ q → q < length row → ¬ Before (map bare codes) t y (at row q)
      clear q le l (inl same) = omega (arith, d.beyond q l, ap (at ends) same)
      clear q le l (inr p) = omega (arith, d.beyond q l, needs_most codes ends needs n t (at row q) (small q) lt p)

      last : k < r → Before (map bare codes) t y (at row (r - 1))
      last x = go (dec_lt (at ends y) r)
        where
          go : Dec (at ends y < r) → Before (map bare codes) t y (at row (r - 1))
          go (no z) = let here : r ≡ at ends y = omega arith in rw here (inl (d.place y (omega arith)))
          go (yes z) =
              let p = needs_from codes ends needs n t (omega arith) in
              let here : r ≡ at ends p.0 = omega (arith, p.2) in
              rw (here, d.place p.0 (omega arith)) (inr p.1)

-- the row's rest is cut there
pub reach_cut : (h : List Event) (t y : ℕ) (row : List ℕ) (k r : ℕ) → Reaching h t y row k r → cut h t y (drop k row) ≡ (take (r - k) (drop k row), drop r row)
reach_cut h t y row k r w = go (dec_lt k r)
  where
    free : (j : ℕ) → r ≤ k + j → j < length (drop k row) → ¬ Before h t y (at (drop k row) j)
    free j le l b = w.clear (k + j) le (omega (arith, length-drop k row)) (rw (get_or-drop k row j 0) at b)

    go : Dec (k < r) → cut h t y (drop k row) ≡ (take (r - k) (drop k row), drop r row)
    go (no z) =
        let here : r ≡ k = omega (arith, w.low) in
        let none : k - k ≡ 0 = omega arith in
        rw (here, none) (cut_none h t y (drop k row) (λ j l. free j (omega arith) l))
    go (yes z) =
        let n = r - k - 1 in
        let many : r - k ≡ suc n = omega arith in
        let here : k + n ≡ r - 1 = omega arith in
        let there : k + suc n ≡ r = omega arith in
        let same : at (drop k row) n ≡ at row (r - 1) = get_or-drop k row n 0 ∙ ap (at row) here in
        rw many
        (cut_at h t y (drop k row) n (omega (arith, length-drop k row, w.high)) (rw same (w.last z)) (λ j g l. free j (omega arith) l)
        ∙ ap (λ (l : List ℕ). (take (suc n) (drop k row), l)) (drop-drop (suc n) k row ∙ ap (λ (j : ℕ). drop j row) there))
