-- Laws of the listing, for its callers. Assumes nothing.
--   takes_of, puts_of             the two columns of the finds
--   precedes_to, precedes_from    the codes of a history tell which operation precedes which
--   listed_codes                  so they give the listed order of the history
--   pairs_columns                 the two columns of the finds give the finds back
--   pairs_puts, found_column      found puts are the second column
--   listing_codes                 what `list_order` lists, from a history's codes and the columns of its finds
--   listed_in_room                its answer and the order afterwards, where the order has room
--   listed_length                 each find gives two entries, each other put one
--   list_order_only               two answers, with the orders afterwards, that meet the contract of `list_order` are the same
use Rattle.std.specs.Prelude.{Option, Some}
use mathlib.Core.Path.{◌≡◌, refl, sym, ap, ◌∙◌}
use mathlib.Core.List.{List, [], ◌∷◌, ◌++◌, map}
use Prim.Native.Nat.{ℕ, zero, suc, ◌+◌, ◌≤◌}
use native.Mathlib.Omega.{arith}
use borrow.Author.Tests.{le-leb}
use lib.ListN.{length, length-append, length-map}
use lib.Seq.{sets}
use Rattle.history.specs.History.{Event, Precedes, code_of}
use Rattle.order.specs.Order.{found_puts, listed_order}
use Rattle.order.specs.Listing.{bare, pairs, listing, listing_answer, listing_after}
use Rattle.history.proofs.CodeLaws.{code_at, precedes_at, at_precedes}
use Rattle.order.proofs.PrecedesLaws.{code_bare}
use Rattle.order.proofs.FitLaws.{fits_same, answer_done}
use Rattle.order.proofs.MergeLaws.{merge_length, merge_alike}

abbrev pub takes_of : List (ℕ × ℕ) → List ℕ
takes_of finds = map (λ (f : ℕ × ℕ). f.0) finds

abbrev pub puts_of : List (ℕ × ℕ) → List ℕ
puts_of finds = map (λ (f : ℕ × ℕ). f.1) finds

-- 'precedes' looks at no sample, and a code is its event but for the sample
code_same : (h : List Event) (j : ℕ) → code_at (map bare (map code_of h)) j ≡ code_at h j
code_same [] j = refl
code_same (e ∷ h) zero = code_bare (code_of e)
code_same (e ∷ h) (suc j) = code_same h j

pub precedes_to : (h : List Event) (a b : ℕ) → Precedes h a b → Precedes (map bare (map code_of h)) a b
precedes_to h a b p =
    let w = precedes_at h a b p in
    at_precedes (map bare (map code_of h)) a b w.early w.late w.in_turn (omega (arith, length-map h code_of, length-map (map code_of h) bare, w.inside))
    (code_same h w.early ∙ w.returns) (code_same h w.late ∙ w.calls)

pub precedes_from : (h : List Event) (a b : ℕ) → Precedes (map bare (map code_of h)) a b → Precedes h a b
precedes_from h a b p =
    let w = precedes_at (map bare (map code_of h)) a b p in
    at_precedes h a b w.early w.late w.in_turn (omega (arith, length-map h code_of, length-map (map code_of h) bare, w.inside))
    (sym (code_same h w.early) ∙ w.returns) (sym (code_same h w.late) ∙ w.calls)

-- the merge asks of a history only what precedes what
pub listed_codes : (h : List Event) (finds : List (ℕ × ℕ)) (others : List ℕ) → listed_order h finds others ≡ listed_order (map bare (map code_of h)) finds others
listed_codes h finds others = merge_alike h (map bare (map code_of h)) (precedes_to h) (precedes_from h) (found_puts finds ++ others) finds

-- entry by entry
pub pairs_columns : (finds : List (ℕ × ℕ)) → pairs (takes_of finds) (puts_of finds) ≡ finds
pairs_columns [] = refl
pairs_columns (f ∷ finds) = ap (λ (l : List (ℕ × ℕ)). f ∷ l) (pairs_columns finds)

pub found_column : (finds : List (ℕ × ℕ)) → found_puts finds ≡ puts_of finds
found_column [] = refl
found_column (f ∷ finds) = ap (λ (l : List ℕ). f.1 ∷ l) (found_column finds)

pub pairs_puts : (takes puts : List ℕ) → length puts ≡ length takes → found_puts (pairs takes puts) ≡ puts
pairs_puts [] [] e = refl
pairs_puts [] (p ∷ puts) e = absurd (omega arith)
pairs_puts (t ∷ takes) [] e = absurd (omega arith)
pairs_puts (t ∷ takes) (p ∷ puts) e = ap (λ (l : List ℕ). p ∷ l) (pairs_puts takes puts (omega arith))

pub pairs_length : (takes puts : List ℕ) → length puts ≡ length takes → length (pairs takes puts) ≡ length takes
pairs_length [] puts e = refl
pairs_length (t ∷ takes) [] e = absurd (omega arith)
pairs_length (t ∷ takes) (p ∷ puts) e = omega (arith, pairs_length takes puts (omega arith))

-- the columns give the finds, and the codes give what precedes what
pub listing_codes : (h : List Event) (finds : List (ℕ × ℕ)) (others : List ℕ)
    → listing (map code_of h) (takes_of finds) (puts_of finds) others ≡ listed_order h finds others
unfolding listing
listing_codes h finds others = ap (λ (l : List (ℕ × ℕ)). listed_order (map bare (map code_of h)) l others) (pairs_columns finds) ∙ sym (listed_codes h finds others)

found_length : (finds : List (ℕ × ℕ)) → length (found_puts finds) ≡ length finds
found_length [] = refl
found_length (f ∷ finds) = omega (arith, found_length finds)

-- the row holds each found put and each other put once, and the merge adds the takes
pub listed_length : (h : List Event) (finds : List (ℕ × ℕ)) (others : List ℕ) → length (listed_order h finds others) ≡ length finds + length finds + length others
listed_length h finds others = omega (arith, merge_length h (found_puts finds ++ others) finds, length-append (found_puts finds) others, found_length finds)

-- the columns are equally long, so the rows fit
pub listed_in_room : (h : List Event) (finds : List (ℕ × ℕ)) (others order : List ℕ) → length finds + length finds + length others ≤ length order
    → (Some (length (listed_order h finds others)) ≡ listing_answer (map code_of h) (takes_of finds) (puts_of finds) others (length order))
    × (sets order 0 (listed_order h finds others) ≡ listing_after (map code_of h) (takes_of finds) (puts_of finds) others order)
listed_in_room h finds others order room =
    let takes = takes_of finds in
    let puts = puts_of finds in
    let t : length takes ≡ length finds = length-map finds (λ (f : ℕ × ℕ). f.0) in
    let p : length puts ≡ length finds = length-map finds (λ (f : ℕ × ℕ). f.1) in
    let e = sym (listing_codes h finds others) in
    answer_done (map code_of h) takes puts others order (sets order 0 (listed_order h finds others)) (length (listed_order h finds others))
    (fits_same (length takes) (length puts) (length others) (length order) (t ∙ sym p) ∙ le-leb (length puts + length others + length takes) (length order) (omega arith))
    (ap length e) (ap (sets order 0) e)

-- both are given by an equation
pub list_order_only : (codes takes puts others order : List ℕ) (r s : Option ℕ) (after later : List ℕ)
    → r ≡ listing_answer codes takes puts others (length order) → after ≡ listing_after codes takes puts others order
    → s ≡ listing_answer codes takes puts others (length order) → later ≡ listing_after codes takes puts others order → (r ≡ s) × (after ≡ later)
list_order_only codes takes puts others order r s after later a b c d = (a ∙ sym c, b ∙ sym d)
