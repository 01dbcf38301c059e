-- A linearization is free of the five faults, and an order names only one. Assumes nothing.
use mathlib.Core.Path.{◌≡◌, sym, ap, ◌∙◌}
use mathlib.Core.List.{List, [], ◌∷◌, ◌++◌}
use mathlib.Core.Option.{Option}
use Prim.Native.Nat.{ℕ, ◌<◌}
use lib.IntN.{ℤ}
use Rattle.limits.specs.Lists.{All, Mem, Pw}
use Rattle.limits.specs.declared.Kind.{Kind}
use Rattle.limits.specs.declared.Kind.TheVariants.{Put as putting, Take as taking}
use Rattle.limits.specs.Operations.{Table}
use Rattle.history.specs.History.{Event, call, ret, Called, Returned, Precedes}
use Rattle.history.proofs.ListLaws.{all_of_mem, mem_left, pw_imp}
use Rattle.history.proofs.HistoryLaws.{mem_ret, ret_mem, mem_call, call_mem, Apart, once_ret, Sound}
use Rattle.linear.specs.Conditions.{MayGet, PlaysAt, Plays, Not20, Not21, Not22, Not23, Not24}
use Rattle.linear.specs.Linear.{Pending, responses, Removed, Serves, Legal, invoked, Linearizes}
use Rattle.linear.proofs.PermuteLaws.{perm_mem, mem_perm, perm_apart}
use Rattle.linear.proofs.CompletionLaws.{removed_mem, removed_called, removed_ret, prec_removed, call_left, prec_more, completion_apart}
use Rattle.linear.proofs.LineLaws.{names, line, lined, line_calls, line_call, line_ret, ret_line, pair_line, apart_names, line_keeps, line_one}
use Rattle.linear.proofs.SoundLaws.{Agrees}

-- a legal line is played, its answers agreeing with the history
played : (T : Table) (h : List Event) (m : List (ℕ × Option ℤ)) (q : List ℤ) → Legal T q (line m) → All (Agrees h) m → Plays T.kind T.sample (MayGet h) (λ r. Unit {0}) q (names m)
played T h [] q le ag = tt
played T h (x ∷ m) q le ag = go (T.kind x.0) le.1 (played T h m le.0 le.2 ag.1)
  where
    go : (k : Kind) → Serves k (T.sample x.0) q x.1 le.0 → Plays T.kind T.sample (MayGet h) (λ r. Unit {0}) le.0 (names m)
        → PlaysAt k (T.sample x.0) (MayGet h x.0) q (λ r. Plays T.kind T.sample (MayGet h) (λ r. Unit {0}) r (names m))
    go putting sv p = rw sv.1 at p
    go taking sv p = rw sv.2 (λ a j. ag.0 a j ∙ sv.1, p)

-- the sequential history of a linearization is a line
seq_line : (T : Table) (h : List Event) (l : List ℕ) → Sound T h → (z : Linearizes T h l) → (m : List (ℕ × Option ℤ)) × (z.s ≡ line m)
seq_line T h l so z =
    lined z.s z.sequential (λ o k. back o (ret_mem z.c o (z.completion.complete o (mem_call z.c o (perm_mem z.s z.c z.permutes (call o) (call_mem z.s o k))))))
    (perm_apart z.s z.c z.permutes (completion_apart h z.c z.completion so.apart))
  where
    back : (o : ℕ) → (v : Option ℤ) × Mem (ret o v) z.c → Returned z.s o
    back o r = mem_ret z.s o r.0 (mem_perm z.s z.c z.permutes (ret o r.0) r.1)

-- the order names its operations
named : (T : Table) (h : List Event) (l : List ℕ) (z : Linearizes T h l) (m : List (ℕ × Option ℤ)) → z.s ≡ line m → l ≡ names m
named T h l z m e = sym z.in_turn ∙ ap invoked e ∙ line_calls m

module _ (T : Table) (h : List Event) (so : Sound T h) (L : List ℕ) (z : Linearizes T h L) (m : List (ℕ × Option ℤ)) (is : z.s ≡ line m) where
  -- the history with the responses added
  abbrev more : List Event
  more = h ++ responses z.completion.added

  abbrev gone : Removed (Pending more) more z.c
  gone = z.completion.removed

  -- the line, the completion and the history hold the same events, but for what was removed and added
  to_c : (x : Event) → Mem x (line m) → Mem x z.c
  to_c x k = perm_mem z.s z.c z.permutes x (rw is k)

  of_c : (x : Event) → Mem x z.c → Mem x (line m)
  of_c x k = rw is at (mem_perm z.s z.c z.permutes x k)

  c_call : (o : ℕ) → Called z.c o → Called h o
  c_call o k = call_left z.completion.added h o (removed_called (Pending more) more z.c gone o k)

  h_ret : (o : ℕ) (v : Option ℤ) → Mem (ret o v) h → Mem (ret o v) (line m)
  h_ret o v k = of_c (ret o v) (removed_ret (Pending more) more z.c gone o v (mem_left h (responses z.completion.added) (ret o v) k))

  m_apart : Pw Apart (line m)
  m_apart = rw is at (perm_apart z.s z.c z.permutes (completion_apart h z.c z.completion so.apart))

  m_called : (o : ℕ) → Mem o (names m) → Called h o
  m_called o k = c_call o (mem_call z.c o (to_c (call o) (call_mem (line m) o (line_call m o k))))

  -- so the five conditions hold, one by one
  to_20 : Not20 T (names m)
  to_20 = (all_of_mem (λ o. o < T.size) (names m) (λ o k. so.small o (m_called o k)), apart_names m m_apart)

  to_21 : Not21 h (names m)
  to_21 = all_of_mem (Called h) (names m) m_called

  to_22 : Not22 h (names m)
  to_22 o r = let k = ret_mem h o r in (ret_line m o k.0 (h_ret o k.0 k.1)).1

  -- a listed operation does not hang
  stays : (o : ℕ) → Mem o (names m) → ¬ Pending more o
  stays o k p =
      let r = line_ret m o k in
      p.1 (mem_ret more o r.0 (removed_mem (Pending more) more z.c gone (ret o r.0) (to_c (ret o r.0) r.1)))

  -- what precedes in the history precedes in the line
  h_prec : (a b : ℕ) → Mem b (names m) → Precedes h a b → Precedes (line m) a b
  h_prec a b k p =
      rw is at (z.keeps a b (prec_removed (Pending more) more z.c gone a b (stays b k) (prec_more h (responses z.completion.added) a b p)))

  to_23 : Not23 h (names m)
  to_23 = pw_imp (λ a b ka kb n p. n (h_prec b a ka p)) (names m) (all_of_mem (λ o. Mem o (names m)) (names m) (λ o k. k)) (line_keeps m (apart_names m m_apart))

  to_agree : All (Agrees h) m
  to_agree = all_of_mem (Agrees h) m (λ x k w j. once_ret (line m) m_apart x.0 w x.1 (h_ret x.0 w j) (pair_line m x k))

  to_24 : Not24 T h (names m)
  to_24 = played T h m [] (rw is at z.legal) to_agree

-- the five conditions together
pub record Passes (T : Table) (h : List Event) (l : List ℕ) : Type 0 where
  pub not20 : Not20 T l
  pub not21 : Not21 h l
  pub not22 : Not22 h l
  pub not23 : Not23 h l
  pub not24 : Not24 T h l

-- a linearization is a line, and its order names that line
pub linearizes_conditions : (T : Table) (h : List Event) (l : List ℕ) → Sound T h → Linearizes T h l → Passes T h l
linearizes_conditions T h l so z =
    let r = seq_line T h l so z in
    rw (named T h l z r.0 r.1) (record {
      not20 = to_20 T h so l z r.0 r.1;
      not21 = to_21 T h so l z r.0 r.1;
      not22 = to_22 T h so l z r.0 r.1;
      not23 = to_23 T h so l z r.0 r.1;
      not24 = to_24 T h so l z r.0 r.1;
    })

-- completion and queue leave nothing free: an order names one sequential history
pub linearizes_one : (T : Table) (h : List Event) (l : List ℕ) → Sound T h → (y z : Linearizes T h l) → y.s ≡ z.s
linearizes_one T h l so y z =
    let a = seq_line T h l so y in
    let b = seq_line T h l so z in
    a.1 ∙ line_one T a.0 b.0 [] (sym (named T h l y a.0 a.1) ∙ named T h l z b.0 b.1) (rw a.1 at y.legal) (rw b.1 at z.legal) ∙ sym b.1
