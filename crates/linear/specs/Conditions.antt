-- The five conditions on a proposed order (document 01, 'The judge'). Assumes nothing.
-- Each is stated as what an order has that is free of the fault; an order is a list of operation numbers.
--   MayGet h o v    o, if it has returned, returned v
--   Plays           a plain queue that holds q, the front first, plays the order, and what it holds at last has End
--   Not20 .. Not24  the order is free of the fault of that number
use Rattle.std.specs.Prelude.{◌≡◌, ◌≢◌, List, [], ◌∷◌, ◌++◌, ℕ, ◌<◌, ℤ}
use Rattle.std.proofs.Math.Option.{Option, some}
use Rattle.limits.specs.Lists.{All, Mem, Pw}
use Rattle.limits.specs.declared.Kind.{Kind}
use Rattle.limits.specs.declared.Kind.TheVariants.{Put as putting, Take as taking}
use Rattle.limits.specs.Operations.{Table}
use Rattle.history.specs.History.{Event, ret, Called, Returned, Precedes}

abbrev pub MayGet : List Event → ℕ → ℤ → Type 0
MayGet h o v = (a : Option ℤ) → Mem (ret o a) h → a ≡ some v

-- one operation: a put's sample goes to the back; a take meets a sample, one that it may get
abbrev pub PlaysAt : Kind → ℤ → (ℤ → Type 0) → List ℤ → (List ℤ → Type 0) → Type 0
PlaysAt putting x Get q Next = Next (q ++ (x ∷ []))
PlaysAt taking x Get [] Next = ⊥
PlaysAt taking x Get (v ∷ q) Next = Get v × Next q

abbrev pub Plays : (ℕ → Kind) → (ℕ → ℤ) → (ℕ → ℤ → Type 0) → (List ℤ → Type 0) → List ℤ → List ℕ → Type 0
Plays kind sample Get End q [] = End q
Plays kind sample Get End q (o ∷ l) = PlaysAt (kind o) (sample o) (Get o) q (λ r. Plays kind sample Get End r l)

-- 20: an entry is no operation number, or stands twice
abbrev pub Not20 : Table → List ℕ → Type 0
Not20 T l = All (λ o. o < T.size) l × Pw (λ a b. a ≢ b) l

-- 21: a listed operation was never called
abbrev pub Not21 : List Event → List ℕ → Type 0
Not21 h l = All (Called h) l

-- 22: a returned operation is missing
abbrev pub Not22 : List Event → List ℕ → Type 0
Not22 h l = (o : ℕ) → Returned h o → Mem o l

-- 23: A precedes B, both are listed, B stands first
abbrev pub Not23 : List Event → List ℕ → Type 0
Not23 h l = Pw (λ b a. ¬ Precedes h a b) l

-- 24: on a plain queue that starts empty, a take meets no sample, or a returned take meets another sample than it returned.
-- An unreturned take gets what is at the front, and anything may stay in the queue
abbrev pub Not24 : Table → List Event → List ℕ → Type 0
Not24 T h l = Plays T.kind T.sample (MayGet h) (λ r. Unit {0}) [] l
