-- Laws of `rows_fit`, and of the two answers that it decides. Assumes nothing.
use Rattle.std.specs.Prelude.{None, Some}
use mathlib.Core.Path.{◌≡◌}
use mathlib.Core.Bool.{true, false}
use mathlib.Core.List.{List}
use Prim.Native.Nat.{ℕ, ◌+◌, ◌≤◌}
use native.Mathlib.Omega.{arith}
use Rattle.std.proofs.lemmas.Bool.Decides.{nat_tests}
use lib.Dec.{leb}
use lib.ListN.{length}
use lib.Seq.{sets}
use Rattle.order.specs.Listing.{rows_fit, listing, listing_answer, listing_after}

-- as many puts as takes: the room decides
pub fits_same : (takes puts others room : ℕ) → takes ≡ puts → rows_fit takes puts others room ≡ leb (puts + others + takes) room
fits_same takes puts others room e = grind (arith, nat_tests)

-- what rows that fit have
pub fits_true : (takes puts others room : ℕ) → rows_fit takes puts others room ≡ true → (takes ≡ puts) × (puts + others + takes ≤ room)
fits_true takes puts others room e = grind (arith, nat_tests)

-- ---- the two ways out of `list_order`

pub answer_unfit : (codes takes puts others order : List ℕ) → rows_fit (length takes) (length puts) (length others) (length order) ≡ false
    → (None ≡ listing_answer codes takes puts others (length order)) × (order ≡ listing_after codes takes puts others order)
unfolding listing_answer listing_after
answer_unfit codes takes puts others order e = (simp e, simp e)

pub answer_done : (codes takes puts others order after : List ℕ) (n : ℕ) → rows_fit (length takes) (length puts) (length others) (length order) ≡ true
    → n ≡ length (listing codes takes puts others) → after ≡ sets order 0 (listing codes takes puts others)
    → (Some n ≡ listing_answer codes takes puts others (length order)) × (after ≡ listing_after codes takes puts others order)
unfolding listing_answer listing_after
answer_done codes takes puts others order after n e long laid = (rw (e, long), rw (e, laid))
