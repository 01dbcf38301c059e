-- Operations with their answers, one after another: what every complete sequential history is. Assumes nothing.
use mathlib.Core.Path.{◌≡◌, refl, sym, ap, ◌∙◌}
use mathlib.Core.Logic.{◌≢◌, ◌⊎◌, inl, inr}
use mathlib.Core.List.{List, [], ◌∷◌}
use mathlib.Core.Option.{Option, some}
use Prim.Native.Nat.{ℕ}
use lib.IntN.{ℤ}
use Rattle.limits.specs.Lists.{All, Mem, Pw}
use Rattle.limits.specs.declared.Kind.{Kind}
use Rattle.limits.specs.declared.Kind.TheVariants.{Put as putting, Take as taking}
use Rattle.limits.specs.Operations.{Table}
use Rattle.history.specs.History.{Event, call, ret, Called, Returned, Precedes}
use Rattle.history.proofs.ListLaws.{clash, all_mem, all_of_mem, all_imp, pw_imp}
use Rattle.history.proofs.HistoryLaws.{Apart, call_mem}
use Rattle.linear.specs.Linear.{Sequential, Complete, Serves, Legal, invoked}
use Rattle.linear.proofs.CompletionLaws.{prec_call}

-- the operations of pairs (operation, answer)
abbrev pub names : List (ℕ × Option ℤ) → List ℕ
names [] = []
names (x ∷ m) = x.0 ∷ names m

-- each operation called and at once answered
abbrev pub line : List (ℕ × Option ℤ) → List Event
line [] = []
line (x ∷ m) = call x.0 ∷ ret x.0 x.1 ∷ line m

-- a line is sequential, and invokes its operations in turn
pub line_seq : (m : List (ℕ × Option ℤ)) → Sequential (line m)
line_seq [] = tt
line_seq (x ∷ m) = (refl, line_seq m)

pub line_calls : (m : List (ℕ × Option ℤ)) → invoked (line m) ≡ names m
line_calls [] = refl
line_calls (x ∷ m) = ap (λ l. x.0 ∷ l) (line_calls m)

-- its invocations are those of its operations
pub line_call : (m : List (ℕ × Option ℤ)) (o : ℕ) → Mem o (names m) → Called (line m) o
line_call [] o h = h
line_call (x ∷ m) o (inl e) = inl e
line_call (x ∷ m) o (inr h) = inr (line_call m o h)

pub call_line : (m : List (ℕ × Option ℤ)) (o : ℕ) → Called (line m) o → Mem o (names m)
call_line [] o h = h
call_line (x ∷ m) o (inl e) = inl e
call_line (x ∷ m) o (inr h) = inr (call_line m o h)

-- its responses are its pairs
pub line_ret : (m : List (ℕ × Option ℤ)) (o : ℕ) → Mem o (names m) → (v : Option ℤ) × Mem (ret o v) (line m) × Mem (o, v) m
line_ret [] o h = absurd h
line_ret (x ∷ m) o (inl e) = (x.1, inr (inl (rw e)), inl (rw e))
line_ret (x ∷ m) o (inr h) = let r = line_ret m o h in (r.0, inr (inr r.1), inr r.2)

pub ret_line : (m : List (ℕ × Option ℤ)) (o : ℕ) (v : Option ℤ) → Mem (ret o v) (line m) → Mem (o, v) m × Mem o (names m)
ret_line [] o v h = absurd h
ret_line (x ∷ m) o v (inl e) = clash (cc)
ret_line (x ∷ m) o v (inr (inl e)) = let eo : o ≡ x.0 = cc in let ev : v ≡ x.1 = cc in (inl (rw (eo, ev)), inl eo)
ret_line (x ∷ m) o v (inr (inr h)) = let r = ret_line m o v h in (inr r.0, inr r.1)

pub pair_line : (m : List (ℕ × Option ℤ)) (x : ℕ × Option ℤ) → Mem x m → Mem (ret x.0 x.1) (line m)
pair_line [] x j = j
pair_line (y ∷ m) x (inl e) = inr (inl (rw e))
pair_line (y ∷ m) x (inr j) = inr (inr (pair_line m x j))

-- what each invocation and response of an operation has, all events have
pub line_all : (P : Event → Type 0) (m : List (ℕ × Option ℤ)) → ((o : ℕ) (v : Option ℤ) → Mem o (names m) → P (call o) × P (ret o v)) → All P (line m)
line_all P [] f = tt
line_all P (x ∷ m) f = ((f x.0 x.1 (inl refl)).0, ((f x.0 x.1 (inl refl)).1, line_all P m (λ o v h. f o v (inr h))))

-- its events are apart exactly if its operations are different
pub line_apart : (m : List (ℕ × Option ℤ)) → Pw (λ a b. a ≢ b) (names m) → Pw Apart (line m)
line_apart [] h = tt
line_apart (x ∷ m) h = (
  (tt, line_all (Apart (call x.0)) m (λ o v n. (all_mem (λ b. x.0 ≢ b) (names m) h.0 o n, tt))),
  (line_all (Apart (ret x.0 x.1)) m (λ o v n. (tt, all_mem (λ b. x.0 ≢ b) (names m) h.0 o n)), line_apart m h.1),
)

pub apart_names : (m : List (ℕ × Option ℤ)) → Pw Apart (line m) → Pw (λ a b. a ≢ b) (names m)
apart_names [] h = tt
apart_names (x ∷ m) h = (all_of_mem (λ b. x.0 ≢ b) (names m) (λ o n. all_mem (Apart (call x.0)) (line m) h.0.1 (call o) (call_mem (line m) o (line_call m o n))), apart_names m h.1.1)

-- every complete sequential history is such a line
pub lined : (s : List Event) → Sequential s → Complete s → Pw Apart s → (m : List (ℕ × Option ℤ)) × (s ≡ line m)
lined [] sq co di = ([], refl)
lined (ret o v ∷ s) sq co di = absurd sq
lined (call o ∷ []) sq co di = absurd (co o (inl refl))
lined (call o ∷ (call p ∷ s)) sq co di = absurd sq
lined (call o ∷ (ret p v ∷ s)) sq co di =
    let r = lined s sq.1 (λ q n. go q n (co q (inr n))) di.1.1 in
    ((o, v) ∷ r.0, two sq.0 r.1)
  where
    go : (q : ℕ) → Called s q → (q ≡ p) ⊎ Returned s q → Returned s q
    go q n (inl e) = absurd (all_mem (Apart (call o)) s di.0.1 (call q) (call_mem s q n) (sq.0 ∙ sym e))
    go q n (inr k) = k

    two : {a b : List Event} → o ≡ p → a ≡ b → ◌≡◌ {A = List Event} (call o ∷ ret p v ∷ a) (call o ∷ ret o v ∷ b)
    two e f = cc

-- in a line nothing precedes what stands before it
pub line_keeps : (m : List (ℕ × Option ℤ)) → Pw (λ a b. a ≢ b) (names m) → Pw (λ a b. ¬ Precedes (line m) b a) (names m)
line_keeps [] on = tt
line_keeps (x ∷ m) on =
    (all_imp (λ b ne p. go b ne p) (names m) on.0, pw_imp (λ a b na nb k p. up a b nb k p) (names m) on.0 (line_keeps m on.1))
  where
    absent : Called (line m) x.0 → ⊥
    absent k = all_mem (λ b. x.0 ≢ b) (names m) on.0 x.0 (call_line m x.0 k) refl

    go : (b : ℕ) → x.0 ≢ b → ¬ Precedes (line (x ∷ m)) b x.0
    go b ne (inl p) = absent p.1
    go b ne (inr p) = absent (prec_call (line m) b x.0 p).1

    up : (a b : ℕ) → x.0 ≢ b → ¬ Precedes (line m) b a → ¬ Precedes (line (x ∷ m)) b a
    up a b nb k (inl p) = nb (sym p.0)
    up a b nb k (inr p) = k p

-- the queue leaves no answer free
serves_one : (k : Kind) (x : ℤ) (q : List ℤ) (v w : Option ℤ) (r s : List ℤ) → Serves k x q v r → Serves k x q w s → (v ≡ w) × (r ≡ s)
serves_one putting x q v w r s a b = (a.0 ∙ sym b.0, a.1 ∙ sym b.1)
serves_one taking x q v w r s a b =
    let e : a.0 ≡ b.0 = cc (a.2, b.2) in
    let f : r ≡ s = cc (a.2, b.2) in
    (a.1 ∙ ap some e ∙ sym b.1, f)

-- so an order and a legal queue name one line
pub line_one : (T : Table) (m n : List (ℕ × Option ℤ)) (q : List ℤ) → names m ≡ names n → Legal T q (line m) → Legal T q (line n) → line m ≡ line n
line_one T [] [] q e a b = refl
line_one T [] (y ∷ n) q e a b = clash (cc)
line_one T (x ∷ m) [] q e a b = clash (cc)
line_one T (x ∷ m) (y ∷ n) q e a b =
    let e₀ : x.0 ≡ y.0 = cc in
    let e₁ : names m ≡ names n = cc in
    let k = serves_one (T.kind y.0) (T.sample y.0) q x.1 y.1 a.0 b.0 (rw e₀ at a.1) b.1 in
    two e₀ k.0 (line_one T m n b.0 e₁ (rw k.1 at a.2) b.2)
  where
    two : x.0 ≡ y.0 → x.1 ≡ y.1 → line m ≡ line n → line (x ∷ m) ≡ line (y ∷ n)
    two p q r = cc
