-- Linearizations of a history, sentence by sentence after source document 002, section 2.1, over a plain queue whose takes never answer 'empty'.
-- Assumes nothing. An invocation is `call o`, a response `ret o a`; they match if they belong to the same operation.
--   Sequential, Complete, Pending, Completion   of histories
--   Serves, Legal                               of a plain queue
--   Permutes, invoked                           of two histories; the operations that one invokes in turn
--   Linearizes T h order                        the order lists, in turn, the operations of a linearization of h
use Rattle.std.specs.Prelude.{◌≡◌, ◌≢◌, ◌⊎◌, List, [], ◌∷◌, ◌++◌, ℕ, ℤ}
use Rattle.std.proofs.Math.Option.{Option, none, some}
use Rattle.limits.specs.Lists.{All, Pw}
use Rattle.limits.specs.declared.Kind.{Kind}
use Rattle.limits.specs.declared.Kind.TheVariants.{Put as putting, Take as taking}
use Rattle.limits.specs.Operations.{Table}
use Rattle.history.specs.History.{Event, call, ret, Called, Returned, Precedes}

-- 'sequential if every invocation event, except possibly the last, is immediately followed by its matching response event'
abbrev pub Sequential : List Event → Type 0
Sequential [] = Unit {0}
Sequential (ret o a ∷ h) = ⊥
Sequential (call o ∷ []) = Unit {0}
Sequential (call o ∷ call p ∷ h) = ⊥
Sequential (call o ∷ ret p a ∷ h) = (o ≡ p) × Sequential h

-- 'complete if every invocation event has a matching response event'
abbrev pub Complete : List Event → Type 0
Complete h = (o : ℕ) → Called h o → Returned h o

-- 'pending in a history if there is no matching response event to it'
abbrev pub Pending : List Event → ℕ → Type 0
Pending h o = Called h o × (¬ Returned h o)

-- the responses (o, a), in turn
abbrev pub responses : List (ℕ × Option ℤ) → List Event
responses [] = []
responses (x ∷ l) = ret x.0 x.1 ∷ responses l

-- c is h with the invocations of some operations removed, each of which has P
abbrev pub Removed : (ℕ → Type 0) → List Event → List Event → Type 0
Removed P [] c = c ≡ []
Removed P (ret o a ∷ h) c = (d : List Event) × (c ≡ ret o a ∷ d) × Removed P h d
Removed P (call o ∷ h) c = (P o × Removed P h c) ⊎ ((d : List Event) × (c ≡ call o ∷ d) × Removed P h d)

-- 'a complete history gained by adding some matching response events to the end of H and removing some pending invocation events within H'
pub record Completion (h c : List Event) : Type 0 where
  pub added : List (ℕ × Option ℤ)
  pub matching : All (λ x. Pending h x.0) added
  pub once : Pw (λ x y. x.0 ≢ y.0) added
  pub removed : Removed (Pending (h ++ responses added)) (h ++ responses added) c
  pub complete : Complete c

-- a plain queue that holds q, the front first, answers a and then holds r
abbrev pub Serves : Kind → ℤ → List ℤ → Option ℤ → List ℤ → Type 0
Serves putting x q a r = (a ≡ none) × (r ≡ q ++ (x ∷ []))
Serves taking x q a r = (v : ℤ) × (a ≡ some v) × (q ≡ v ∷ r)

-- 'legal' for the plain queue: it serves the operations in turn, holding q at first
abbrev pub Legal : Table → List ℤ → List Event → Type 0
Legal T q [] = Unit {0}
Legal T q (call o ∷ h) = Legal T q h
Legal T q (ret o a ∷ h) = (r : List ℤ) × Serves (T.kind o) (T.sample o) q a r × Legal T r h

-- s is a permutation of c
abbrev pub Permutes : List Event → List Event → Type 0
Permutes [] c = c ≡ []
Permutes (e ∷ s) c = (a : List Event) × (b : List Event) × (c ≡ a ++ (e ∷ b)) × Permutes s (a ++ b)

-- the operations invoked, in turn
abbrev pub invoked : List Event → List ℕ
invoked [] = []
invoked (call o ∷ h) = o ∷ invoked h
invoked (ret o a ∷ h) = invoked h

-- 'there exists a complete history C in Compl(H) and a legal sequential history S such that (1) S is a permutation of C;
-- (2) for any two operations, if one precedes the other in C, then in S'
pub record Linearizes (T : Table) (h : List Event) (order : List ℕ) : Type 0 where
  pub c : List Event
  pub s : List Event
  pub completion : Completion h c
  pub sequential : Sequential s
  pub legal : Legal T [] s
  pub permutes : Permutes s c
  pub keeps : (a b : ℕ) → Precedes c a b → Precedes s a b
  pub in_turn : invoked s ≡ order
