-- Each answer is the only one that meets its statement, and a text of 12,288 bytes is never refused for room. Assumes nothing.
use Rattle.std.specs.Prelude.{Ok, Result}
use mathlib.Core.Path.{◌≡◌, sym, ◌∙◌}
use mathlib.Core.Bool.{true}
use mathlib.Core.List.{List, ◌++◌}
use Prim.Native.Nat.{ℕ, ◌≤◌}
use native.Mathlib.Omega.{arith}
use borrow.Author.Tests.{le-leb}
use lib.Dec.{leb}
use lib.ListN.{length, drop}
use Rattle.limits.specs.declared.Refusal.{Refusal}
use Rattle.limits.specs.Operations.{Input}
use Rattle.limits.specs.Refusals.{input_refusal}
use Rattle.lines.specs.Lines.{refused_line}
use Rattle.listing.specs.Listing.{listing_text, listing_fit, ListSays, RefusalSays}

-- both answers and both texts are equal to one value
pub refusal_only : (refusal : Refusal) (text : List ℕ) (r s : Result ℕ Refusal) (a b : List ℕ) → RefusalSays refusal text r a → RefusalSays refusal text s b → (r ≡ s) × (a ≡ b)
refusal_only refusal text r s a b p q = (p.answer ∙ sym q.answer, p.bytes ∙ sym q.bytes)

-- the line of a refusal is written whole into every text of 64 bytes
pub refusal_fits : (refusal : Refusal) (text : List ℕ) (r : Result ℕ Refusal) (a : List ℕ) → 64 ≤ length text → RefusalSays refusal text r a
    → (r ≡ Ok (length (refused_line refusal))) × (a ≡ refused_line refusal ++ drop (length (refused_line refusal)) text)
refusal_fits refusal text r a room says =
    let b : leb (length (refused_line refusal)) (length text) ≡ true = le-leb (length (refused_line refusal)) (length text) (omega (arith, says.short)) in
    (rw b at says.answer, rw b at says.bytes)

module _ (i : Input) (text : List ℕ) where
  pub list_only : (r s : Result ℕ Refusal) (a b : List ℕ) → ListSays i text r a → ListSays i text s b
      → (r ≡ s) × (a ≡ b)
  list_only r s a b p q = (p.answer ∙ sym q.answer, p.bytes ∙ sym q.bytes)

  -- the listing of an accepted input is written whole into every text of 12,288 bytes
  pub list_fits : (r : Result ℕ Refusal) (a : List ℕ) → input_refusal i ≡ Ok tt → 12288 ≤ length text
      → ListSays i text r a
      → (r ≡ Ok (length (listing_text i)))
      × (a ≡ listing_text i ++ drop (length (listing_text i)) text)
  unfolding listing_fit
  list_fits r a pass room says =
      let w = listing_text i in
      let b : leb (length w) (length text) ≡ true = le-leb (length w) (length text) (omega (arith, says.short pass)) in
      (rw (pass, b) at says.answer, rw (pass, b) at says.bytes)
