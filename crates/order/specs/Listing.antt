-- Nothing in this file has to be believed by a reader of the claims: what `list_order` answers, from event codes and rows of operation numbers.
-- Its result is the listed order of Order.antt (document 01, 'History, order, and what a run writes'). Assumes nothing.
--   bare            the event that a code gives, without its sample: 'precedes' asks for no more
--   pairs           the finds: each take with the put beside it
--   listing         the listed order of the history that the codes give
--   rows_fit        each take has its put, and the lent order has room for all of them
--   listing_answer  how many entries the order got, or that the rows do not fit
--   listing_after   the lent order afterwards: the listing first, every later entry as it was; wholly as it was if the rows do not fit
use Rattle.std.specs.Prelude.{Bool, false, cond, List, [], ◌∷◌, map, ℕ, ◌+◌, ◌/◌, ◌%◌, eqb, leb, length, None, Option, Some}
use Rattle.std.proofs.Math.Option.{none}
use Rattle.std.proofs.lemmas.List.Edits.{sets}
use Rattle.history.specs.History.{Event, call, ret}
use Rattle.order.specs.Order.{listed_order}

abbrev pub bare : ℕ → Event
bare c = cond (eqb (c % 2) 0) (call (c / 2)) (ret (c / 2) none)

abbrev pub pairs : List ℕ → List ℕ → List (ℕ × ℕ)
pairs [] puts = []
pairs (t ∷ takes) [] = []
pairs (t ∷ takes) (p ∷ puts) = (t, p) ∷ pairs takes puts

unfoldable pub listing : List ℕ → List ℕ → List ℕ → List ℕ → List ℕ
listing codes takes puts others = listed_order (map bare codes) (pairs takes puts) others

-- by the lengths of the three rows and of the lent order
abbrev pub rows_fit : ℕ → ℕ → ℕ → ℕ → Bool
rows_fit takes puts others room = cond (eqb takes puts) (leb (puts + others + takes) room) false

unfoldable pub listing_answer : List ℕ → List ℕ → List ℕ → List ℕ → ℕ → Option ℕ
listing_answer codes takes puts others room =
    cond (rows_fit (length takes) (length puts) (length others) room) (Some (length (listing codes takes puts others))) None

unfoldable pub listing_after : List ℕ → List ℕ → List ℕ → List ℕ → List ℕ → List ℕ
listing_after codes takes puts others order =
    cond (rows_fit (length takes) (length puts) (length others) (length order)) (sets order 0 (listing codes takes puts others)) order
