-- Laws of the merge in place. Assumes nothing.
--   Woven   the takes below i are merged, with the row's first k puts, which stand before them; the row's rest still stands where it stood
use mathlib.Core.Path.{◌≡◌, sym, ap, ◌∙◌}
use mathlib.Core.List.{List, [], ◌∷◌, ◌++◌, map, append_assoc}
use Prim.Native.Nat.{ℕ, suc, ◌+◌, ◌-◌, ◌≤◌, ◌<◌}
use native.Mathlib.Omega.{arith}
use native.Mathlib.Numerals.{add-one}
use lib.ListN.{length, set, take, drop, length-append, length-drop, length-set, length-take, take-append-drop, drop_of_length-le}
use lib.Seq.{paste, sets, drop_at, length-take-le, drop-cons, drop-drop, drop-set-lt, take-suc-set}
use Rattle.std.proofs.lemmas.List.Edits.{length-paste, take-paste, drop-paste}
use borrow.Rule.Slice.PartMut.{put_mid}
use Rattle.std.proofs.lemmas.Slice.{take-put_mid, drop-put_mid}
use Rattle.history.specs.History.{Event}
use Rattle.order.specs.Order.{merge}
use Rattle.order.specs.Listing.{bare, pairs, listing}
use Rattle.order.specs.Weaving.{at}
use Rattle.order.proofs.MergeLaws.{merge_cut, merge_end}
use Rattle.order.proofs.ListingLaws.{pairs_puts, pairs_length, listed_length}
use Rattle.order.proofs.ReachingLaws.{Reaching, reach_cut}
use Rattle.order.proofs.StoreLaws.{sets_front}

-- ---- the merge, take by take

-- two lists that are the same from k on are the same from any later place on
drop_later : (k r : ℕ) (l m : List ℕ) → k ≤ r → drop k l ≡ drop k m → drop r l ≡ drop r m
drop_later k r l m h e =
    let s : k + (r - k) ≡ r = omega arith in
    ap (λ (j : ℕ). drop j l) (sym s) ∙ sym (drop-drop (r - k) k l) ∙ ap (drop (r - k)) e ∙ drop-drop (r - k) k m ∙ ap (λ (j : ℕ). drop j m) s

-- the row stood behind the room for the takes; `now` is the order as it is
pub record Woven (h : List Event) (takes puts row now : List ℕ) (k i out : ℕ) : Type 0 where
  pub long : length now ≡ length takes + length row
  pub turns : i ≤ length takes
  pub sum : out ≡ i + k
  pub within : k ≤ length row
  pub rest : drop (length takes + k) now ≡ drop k row
  pub still : take out now ++ merge h (drop k row) (pairs (drop i takes) (drop i puts)) ≡ merge h row (pairs takes puts)

module _ (h : List Event) (takes puts row now : List ℕ) (k i out : ℕ) (w : Woven h takes puts row now k i out) where
  -- the next take goes behind the puts that stand before it; both overwrite only entries that are listed already or free
  pub woven_next : (r t y : ℕ) (moved : List ℕ) → i < length takes → i < length puts → t ≡ at takes i → y ≡ at puts i → Reaching h t y row k r
      → moved ≡ paste now out (drop (length takes + k) now) (length takes + r - (length takes + k))
      → Woven h takes puts row (set moved (out + (r - k)) t) r (i + 1) (out + (r - k) + 1)
  woven_next r t y moved it ip tis yis g laid =
      record {
        long = length-set moved place t ∙ size;
        turns = omega arith;
        sum = omega (arith, w.sum, g.low);
        within = g.high;
        rest = drop-set-lt (m + r) moved place t (omega (arith, w.sum, g.low)) ∙ drop_later place (m + r) moved now (omega (arith, w.sum, g.low)) behind ∙ drop_from r g.low;
        still = ap (λ (l : List ℕ). l ++ merge h (drop r row) (pairs (drop (i + 1) takes) (drop (i + 1) puts))) front
            ∙ append_assoc (take out now ++ p) (t ∷ []) (merge h (drop r row) (pairs (drop (i + 1) takes) (drop (i + 1) puts)))
            ∙ append_assoc (take out now) p (t ∷ merge h (drop r row) (pairs (drop (i + 1) takes) (drop (i + 1) puts)))
            ∙ ap (λ (l : List ℕ). take out now ++ l) (sym turn) ∙ w.still;
      }
    where
      m : ℕ
      m = length takes

      place : ℕ
      place = out + (r - k)

      p : List ℕ
      p = take (r - k) (drop k row)

      pasted : moved ≡ paste now out (drop (m + k) now) (r - k)
      pasted = let n : m + r - (m + k) ≡ r - k = omega arith in laid ∙ ap (paste now out (drop (m + k) now)) n

      plenty : r - k ≤ length (drop (m + k) now)
      plenty = omega (arith, length-drop (m + k) now, w.long, g.high)

      size : length moved ≡ m + length row
      size = ap length pasted ∙ length-paste now out (drop (m + k) now) (r - k) (omega (arith, w.sum, w.long, g.low, g.high)) plenty ∙ w.long

      before : out ≤ length now
      before = omega (arith, w.sum, w.long, w.within)

      behind : drop place moved ≡ drop place now
      behind = ap (drop place) pasted ∙ drop-paste now out (drop (m + k) now) (r - k) before plenty

      drop_from : (j : ℕ) → k ≤ j → drop (m + j) now ≡ drop j row
      drop_from j le =
          let s : m + k + (j - k) ≡ m + j = omega arith in
          let u : k + (j - k) ≡ j = omega arith in
          ap (λ (n : ℕ). drop n now) (sym s) ∙ sym (drop-drop (j - k) (m + k) now) ∙ ap (drop (j - k)) w.rest ∙ drop-drop (j - k) k row ∙ ap (λ (n : ℕ). drop n row) u

      front : take (place + 1) (set moved place t) ≡ take out now ++ p ++ (t ∷ [])
      front =
          rw add-one
          (take-suc-set moved place t (omega (arith, size, w.sum, g.low, g.high))
          ∙ ap (λ (l : List ℕ). l ++ (t ∷ []))
          (ap (take place) pasted ∙ take-paste now out (drop (m + k) now) (r - k) before plenty ∙ ap (λ (l : List ℕ). take out now ++ take (r - k) l) w.rest))

      turn : merge h (drop k row) (pairs (drop i takes) (drop i puts)) ≡ p ++ t ∷ merge h (drop r row) (pairs (drop (i + 1) takes) (drop (i + 1) puts))
      turn =
          rw (add-one, drop-cons takes i 0 it, drop-cons puts i 0 ip, ← tis, ← yis)
          (merge_cut h t y (drop k row) p (drop r row) (pairs (drop (suc i) takes) (drop (suc i) puts)) (reach_cut h t y row k r g))

  -- once all takes stand, the puts left over already stand behind them
  pub woven_end : length takes ≤ i → now ≡ merge h row (pairs takes puts)
  woven_end last =
      let here : out ≡ length takes + k = omega (arith, w.sum, w.turns) in
      sym (take-append-drop out now)
      ∙ ap (λ (l : List ℕ). take out now ++ l) (ap (λ (j : ℕ). drop j now) here ∙ w.rest ∙ sym (merge_end h (drop k row))
      ∙ ap (λ (l : List (ℕ × ℕ)). merge h (drop k row) l) (ap (λ (l : List ℕ). pairs l (drop i puts)) (sym (drop_of_length-le takes {i = i} (omega arith)))))
      ∙ w.still

-- ---- the row laid out behind the room for the takes

module _ (order puts others first second : List ℕ) (m : ℕ) (e : first ≡ puts) (f : second ≡ others) (fits : m + length puts + length others ≤ length order) where
  -- the puts that were found, and the others behind them, each written over a part
  abbrev once : List ℕ
  once = put_mid m (m + length puts - m) order first

  abbrev twice : List ℕ
  twice = put_mid (m + length puts) (m + length puts + length others - (m + length puts)) once second

  once_long : length once ≡ length order
  once_long = simp (length-append, length-take, length-drop) (omega (arith, ap length e))

  pub laid_row : drop m (take (m + length puts + length others) twice) ≡ puts ++ others
  laid_row =
      let long : length (take m order) ≡ m = length-take-le m order (omega arith) in
      ap (drop m)
      (take-put_mid (m + length puts) (m + length puts + length others - (m + length puts)) once second (m + length puts + length others) (omega (arith, ap length f)) (omega (arith, once_long))
      ∙ ap (λ (l : List ℕ). l ++ second) (take-put_mid m (m + length puts - m) order first (m + length puts) (omega (arith, ap length e)) (omega arith))
      ∙ append_assoc (take m order) first second)
      ∙ drop_at (take m order) (first ++ second) m long
      ∙ (λ i. e i ++ f i)

  pub laid_rest : drop (m + length puts + length others) twice ≡ drop (m + length puts + length others) order
  laid_rest =
      drop-put_mid (m + length puts) (m + length puts + length others - (m + length puts)) once second (m + length puts + length others) (omega arith) (omega (arith, once_long)) (omega (arith, ap length f))
      ∙ drop-put_mid m (m + length puts - m) order first (m + length puts + length others) (omega arith) (omega arith) (omega (arith, ap length e))

pub listing_long : (codes takes puts others : List ℕ) → length takes ≡ length puts → length takes + length puts + length others ≡ length (listing codes takes puts others)
unfolding listing
listing_long codes takes puts others same =
    omega (arith, listed_length (map bare codes) (pairs takes puts) others, pairs_length takes puts (sym same))

-- merged there, it is the listing
pub listing_laid : (codes takes puts others order row merged rest : List ℕ) → length takes ≡ length puts → length takes + length puts + length others ≤ length order
    → row ≡ puts ++ others → merged ≡ merge (map bare codes) row (pairs takes puts) → rest ≡ drop (length takes + length puts + length others) order
    → merged ++ rest ≡ sets order 0 (listing codes takes puts others)
unfolding listing
listing_laid codes takes puts others order row merged rest same fits r d behind =
    (λ i. (d ∙ ap (λ (l : List ℕ). merge (map bare codes) l (pairs takes puts)) (r ∙ ap (λ (l : List ℕ). l ++ others) (sym (pairs_puts takes puts (sym same))))) i ++ behind i)
    ∙ sym (sets_front order (listing codes takes puts others) (length takes + length puts + length others) (sym (listing_long codes takes puts others same)) fits)
