-- Laws of the reader's answers: each way out of its last functions, by the definitions of Answers. Assumes nothing.
use Rattle.std.specs.Prelude.{Err, Ok, Result}
use Rattle.limits.specs.Refusals.{Fit}
use Rattle.runfile.specs.declared.Sizes.{Sizes}
use mathlib.Core.Path.{◌≡◌, refl, sym, ◌∙◌, ap, subst}
use mathlib.Core.Bool.{Bool, true, false}
use mathlib.Core.List.{List, ◌++◌, append-nil}
use Prim.Native.Nat.{ℕ, ◌+◌, ◌-◌, ◌≤◌, ◌<◌}
use native.Mathlib.Omega.{arith}
use lib.Dec.{leb}
use lib.IntN.{ℤ}
use lib.ListN.{length, take, drop, take-append-drop, drop_of_length-le}
use lib.Seq.{sets, length-sets, take_all, take-append_seam, length-take-le}
use borrow.Author.Tests.{leb-true, leb-false, le-leb, lt-leb}
use Rattle.numerals.proofs.PrintLaws.{sets_append, sets_out}
use Rattle.limits.specs.declared.Refusal.{Refusal}
use Rattle.limits.specs.declared.Refusal.TheVariants.{Text}
use Rattle.limits.specs.Operations.{Input, input_of}
use Rattle.reader.specs.declared.Lent.{Lent}
use Rattle.limits.specs.Lists.{over}
use Rattle.limits.specs.Refusals.{input_refusal}
use Rattle.runfile.specs.Reading.{File, file, wrong, read_of}
use Rattle.runfile.specs.Answers.{input_in, file_fit, read_fit, ReadSays}
use Rattle.reader.specs.Twins.{ParsedSays, SettleSays, fit_in, Settles}
use Rattle.limits.proofs.PassLaws.{input_passed}
use Rattle.runfile.proofs.InputLaws.{input_cut}
use Rattle.runfile.proofs.FitLaws.{over_sets, fit_refused}
use Rattle.runfile.specs.Reading.{sizes}

-- ---- entries stored from the start on
-- where they are more than the list has, only the first of them stand
full_sets : {A : Type 0} (vs l : List A) → length l ≤ length vs → sets l 0 vs ≡ take (length l) vs
full_sets {A = A} vs l h =
    let n = length l in
    let front = take n vs in
    let m : length front ≡ n = length-take-le n vs h in
    let e : length l ≤ 0 + length front = omega arith in
    let f : length l ≤ length front = omega arith in
    ap (sets l 0) (sym (take-append-drop n vs)) ∙ sym (sets_append l 0 front (drop n vs))
    ∙ sets_out (sets l 0 front) (0 + length front) (drop n vs) (rw (length-sets l 0 front) e)
    ∙ over_sets front l (omega arith) ∙ ap (λ (t : List A). front ++ t) (drop_of_length-le l f) ∙ append-nil front

-- the stored ones, as far as a list of n entries reaches
pub front_sets : {A : Type 0} (vs l : List A) (n c o : ℕ) → length l ≡ n → c ≡ length vs → o ≡ c - (c - n) → take o (sets l 0 vs) ≡ take n vs
front_sets {A = A} vs l n c o e d q = go (leb (length vs) n) refl
  where
    go : (b : Bool) → leb (length vs) n ≡ b → take o (sets l 0 vs) ≡ take n vs
    go true t =
        let h = leb-true (length vs) n t in
        let k : o ≡ length vs = omega arith in
        (λ i. take (k i) (over_sets vs l (omega arith) i)) ∙ take-append_seam vs (drop (length vs) l) ∙ sym (take_all n vs h)
    go false t =
        let h = leb-false (length vs) n t in
        let k : o ≡ n = omega arith in
        (λ i. take (k i) (full_sets vs l (omega arith) i)) ∙ ap (λ (j : ℕ). take n (take j vs)) e ∙ take_all n (take n vs) (rw (length-take-le n vs (omega arith)) (omega arith))

-- ---- the answer to a reading
module _ (f : File) (l : Lent) where
  pub settle_refused : (x : Refusal) → fit_in l f ≡ Err x → Settles f l l (Err x)
  settle_refused x e = record { answer = sym e; threads = rw e; kinds = rw e; samples = rw e; steps = rw e }

  pub settle_run : (m : Lent) → fit_in l f ≡ Ok tt → m.thread.now ≡ over (input_in f).thread l.thread.now → m.kind.now ≡ over (input_in f).kind l.kind.now
      → m.sample.now ≡ over (input_in f).sample l.sample.now → m.schedule.now ≡ over (input_in f).schedule l.schedule.now → Settles f l m (Ok tt)
  settle_run m e et ek ex es = record { answer = sym e; threads = rw e et; kinds = rw e ek; samples = rw e ex; steps = rw e es }

module _ (f : File) (l m : Lent) where
  abbrev i : Input
  i = input_in f

  -- what was settled is answered, with the numbers of what was settled or with the refusal
  pub settled_ok : Settles f l m (Ok tt)
      → SettleSays f l.thread.now l.kind.now l.sample.now l.schedule.now (Ok (sizes i.threads i.slots (length i.thread) (length i.schedule))) m.thread.now m.kind.now m.sample.now m.schedule.now
  settled_ok s = record { answer = rw (sym s.answer); threads = s.threads; kinds = s.kinds; samples = s.samples; steps = s.steps }

  pub settled_err : (x : Refusal) → Settles f l m (Err x)
      → SettleSays f l.thread.now l.kind.now l.sample.now l.schedule.now (Err x) m.thread.now m.kind.now m.sample.now m.schedule.now
  settled_err x s = record { answer = rw (sym s.answer); threads = s.threads; kinds = s.kinds; samples = s.samples; steps = s.steps }

-- ---- a reading with more operations or entries than a run may have is answered as with one too many
module _ (n m : ℕ) (ts ks : List ℕ) (xs : List ℤ) (ss : List ℕ) (hk : length ks ≡ length ts) (hx : length xs ≡ length ts) where
  abbrev cut : File
  cut = file n m (take 129 ts) (take 129 ks) (take 129 xs) (take 4097 ss)

  -- what passes is not cut
  cut_same : input_refusal (input_of n m ts ks xs ss) ≡ Ok tt → cut ≡ file n m ts ks xs ss
  cut_same e =
      let p = input_passed (input_of n m ts ks xs ss) e in
      let few = p.few in
      let short = p.short in
      λ i. file n m (take_all 129 ts (omega arith) i) (take_all 129 ks (omega arith) i) (take_all 129 xs (omega arith) i) (take_all 4097 ss (omega arith) i)

  module _ (thread₀ kind₀ : List ℕ) (sample₀ : List ℤ) (schedule₀ : List ℕ) (r : Result Sizes Refusal) (thread kind : List ℕ) (sample : List ℤ) (schedule : List ℕ) where
    pub settle_cut : SettleSays cut thread₀ kind₀ sample₀ schedule₀ r thread kind sample schedule → SettleSays (file n m ts ks xs ss) thread₀ kind₀ sample₀ schedule₀ r thread kind sample schedule
    settle_cut h = go (input_refusal (input_of n m ts ks xs ss)) refl
      where
        go : (f : Fit) → input_refusal (input_of n m ts ks xs ss) ≡ f → SettleSays (file n m ts ks xs ss) thread₀ kind₀ sample₀ schedule₀ r thread kind sample schedule
        go (Ok tt) e = subst (λ (f : File). SettleSays f thread₀ kind₀ sample₀ schedule₀ r thread kind sample schedule) (cut_same e) h
        go (Err x) e =
            let a = length thread₀ in
            let b = length kind₀ in
            let c = length sample₀ in
            let d = length schedule₀ in
            let q = fit_refused a b c d n m (take 129 ts) (take 129 ks) (take 129 xs) (take 4097 ss) x (sym (input_cut n m ts ks xs ss hk hx) ∙ e) in
            let p = fit_refused a b c d n m ts ks xs ss x e in
            record {
              answer = rw p (rw q at h.answer);
              threads = rw p (rw q at h.threads);
              kinds = rw p (rw q at h.kinds);
              samples = rw p (rw q at h.samples);
              steps = rw p (rw q at h.steps);
            }

-- ---- the whole reader
pub fit_long : (s : List ℕ) (a b c d : ℕ) → 65536 < length s → read_fit s a b c d ≡ Err Text
unfolding read_fit
fit_long s a b c d h = rw (lt-leb (length s) 65536 h)

module _ (s thread₀ kind₀ : List ℕ) (sample₀ : List ℤ) (schedule₀ : List ℕ) where
  module _ (short : length s ≤ 65536) where
    -- the answer to a text that is not too long is the one to its reading
    read_settled : (r : Result Sizes Refusal) (thread kind : List ℕ) (sample : List ℤ) (schedule : List ℕ) → SettleSays (read_of s) thread₀ kind₀ sample₀ schedule₀ r thread kind sample schedule → ReadSays s thread₀ kind₀ sample₀ schedule₀ r thread kind sample schedule
    unfolding read_fit
    read_settled r thread kind sample schedule h =
        let b = le-leb (length s) 65536 short in
        record { answer = rw b h.answer; threads = rw b h.threads; kinds = rw b h.kinds; samples = rw b h.samples; steps = rw b h.steps }

    pub read_wrong : (r : Refusal) (zt zk : List ℕ) (zx : List ℤ) (zs ts ks : List ℕ) (xs : List ℤ) (ss : List ℕ) → ParsedSays (read_of s) (Err r) zt zk zx zs ts ks xs ss
        → ReadSays s thread₀ kind₀ sample₀ schedule₀ (Err r) thread₀ kind₀ sample₀ schedule₀
    unfolding file_fit
    read_wrong r zt zk zx zs ts ks xs ss h = read_settled (Err r) thread₀ kind₀ sample₀ schedule₀ (go (read_of s) h)
      where
        go : (f : File) → ParsedSays f (Err r) zt zk zx zs ts ks xs ss → SettleSays f thread₀ kind₀ sample₀ schedule₀ (Err r) thread₀ kind₀ sample₀ schedule₀
        go (file n m a b c d) w = absurd w
        go (wrong k) w = record { answer = ap Err w; threads = refl; kinds = refl; samples = refl; steps = refl }

    pub read_held : (t u c d o q : ℕ) (zt zk : List ℕ) (zx : List ℤ) (zs ts ks : List ℕ) (xs : List ℤ) (ss : List ℕ)
        → length zt ≡ 129 → length zk ≡ 129 → length zx ≡ 129 → length zs ≡ 4097
        → ParsedSays (read_of s) (Ok (sizes t u c d)) zt zk zx zs ts ks xs ss → o ≡ c - (c - 129) → q ≡ d - (d - 4097)
        → (r : Result Sizes Refusal) (thread kind : List ℕ) (sample : List ℤ) (schedule : List ℕ)
        → SettleSays (file t u (take o ts) (take o ks) (take o xs) (take q ss)) thread₀ kind₀ sample₀ schedule₀ r thread kind sample schedule
        → ReadSays s thread₀ kind₀ sample₀ schedule₀ r thread kind sample schedule
    read_held t u c d o q zt zk zx zs ts ks xs ss lt lk lx ls h eo eq r thread kind sample schedule w = read_settled r thread kind sample schedule (go (read_of s) h)
      where
        go : (f : File) → ParsedSays f (Ok (sizes t u c d)) zt zk zx zs ts ks xs ss → SettleSays f thread₀ kind₀ sample₀ schedule₀ r thread kind sample schedule
        go (file n m at ak ax sch) p =
            let ct = p.1.1.0 in
            let hk = p.1.1.1.1.0 in
            let hx = p.1.1.1.1.1.0 in
            let l = p.1.1.1.1.1.1 in
            let fronts : file t u (take o ts) (take o ks) (take o xs) (take q ss) ≡ file n m (take 129 at) (take 129 ak) (take 129 ax) (take 4097 sch) =
            λ i. file (p.0 i) (p.1.0 i)
            ((ap (take o) l.0 ∙ front_sets at zt 129 c o lt ct eo) i)
            ((ap (take o) l.1.0 ∙ front_sets ak zk 129 c o lk (ct ∙ sym hk) eo) i)
            ((ap (take o) l.1.1.0 ∙ front_sets ax zx 129 c o lx (ct ∙ sym hx) eo) i)
            ((ap (take q) l.1.1.1 ∙ front_sets sch zs 4097 d q ls p.1.1.1.0 eq) i) in
            settle_cut n m at ak ax sch hk hx thread₀ kind₀ sample₀ schedule₀ r thread kind sample schedule
            (subst (λ (f : File). SettleSays f thread₀ kind₀ sample₀ schedule₀ r thread kind sample schedule) fronts w)
        go (wrong k) p = absurd p

-- the same where the lent lists are a struct
module _ (s : List ℕ) (l m : Lent) (short : length s ≤ 65536) (t u c d o q : ℕ) (zt zk : List ℕ) (zx : List ℤ) (zs ts ks : List ℕ) (xs : List ℤ) (ss : List ℕ)
    (lt : length zt ≡ 129) (lk : length zk ≡ 129) (lx : length zx ≡ 129) (ls : length zs ≡ 4097) (ht : length ts ≡ length zt) (hs : length ss ≡ length zs)
    (h : ParsedSays (read_of s) (Ok (sizes t u c d)) zt zk zx zs ts ks xs ss) (eo : o ≡ c - (c - 129)) (eq : q ≡ d - (d - 4097)) where
  abbrev held : File
  held = file t u (take o ts) (take o ks) (take o xs) (take q ss)

  abbrev Says : Result Sizes Refusal → Type 0
  Says r = ReadSays s l.thread.now l.kind.now l.sample.now l.schedule.now r m.thread.now m.kind.now m.sample.now m.schedule.now

  says : (r : Result Sizes Refusal) → SettleSays held l.thread.now l.kind.now l.sample.now l.schedule.now r m.thread.now m.kind.now m.sample.now m.schedule.now → Says r
  says r w =
      read_held s l.thread.now l.kind.now l.sample.now l.schedule.now short t u c d o q zt zk zx zs ts ks xs ss lt lk lx ls h eo eq r m.thread.now m.kind.now m.sample.now m.schedule.now w

  -- what was settled of a reading, as far as the arrays reach, is the answer
  pub read_accepts : Settles held l m (Ok tt) → Says (Ok (sizes t u o q))
  read_accepts w =
      let a : length (take o ts) ≡ o = length-take-le o ts (omega arith) in
      let b : length (take q ss) ≡ q = length-take-le q ss (omega arith) in
      subst (λ (z : Sizes). Says (Ok z)) (λ i. sizes t u (a i) (b i)) (says _ (settled_ok held l m w))

  pub read_refuses : (x : Refusal) → Settles held l m (Err x) → Says (Err x)
  read_refuses x w = says (Err x) (settled_err held l m x w)
