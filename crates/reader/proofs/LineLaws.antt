-- Laws of the reading line by line: each way out of the reader's functions, by the definitions. Assumes nothing.
--   Left, LeftOps   what the lines read so far leave to be read: what was read is stored, from a on stands the rest, whose first line is k
use Rattle.limits.specs.declared.Kind.{Kind}
use Rattle.limits.specs.Parts.{kind_number}
use Rattle.std.specs.Prelude.{Err, None, Ok, Option, Some}
use Rattle.runfile.specs.declared.Operation.{Operation}
use mathlib.Core.Path.{◌≡◌, refl, sym, ◌∙◌, ap, subst}
use mathlib.Core.List.{List, [], ◌∷◌, ◌++◌, append-nil, append_assoc}
use Prim.Native.Nat.{ℕ, suc, ◌+◌, ◌-◌, ◌≤◌, ◌<◌}
use native.Mathlib.Omega.{arith}
use lib.ListN.{length, take, drop, set, length-drop, length-append, drop_of_length-le}
use lib.Seq.{sets}
use lib.IntN.{ℤ}
use mir.Syntax.{w32}
use mir.Val.{SFits, to_z, of_z}
use mir.ValLaws.{to_z-of_z}
use Rattle.numerals.specs.Reading.{number_of, sample_of}
use Rattle.numerals.proofs.PrintLaws.{sets_snoc}
use Rattle.numerals.proofs.NumeralRound.{SampleIs, sample_is, cond_elim}
use Rattle.limits.specs.declared.Refusal.TheVariants as X
use Rattle.runfile.specs.Spelling.{threads_word, slots_word, put_word, take_word, step_word}
use Rattle.runfile.specs.Reading.{parts, same, number_after, take_of, put_of, operation_of, File, file, wrong, add_threads, add_slots, add_op, add_step, or_wrong, or_steps, steps_from, ops_from, slots_then, threads_then}
use Rattle.runfile.specs.Twins.{until}
use Rattle.reader.specs.Twins.{NoPair, LineSays, HeadSays, under_ops, under_steps, Done, OpsSays, StepsSay}
use Rattle.runfile.proofs.PartsLaws.{together, together_parts, HasPart, parts_some, parts_cut, parts_last}
use Rattle.runfile.proofs.TurnLaws.{steps_turn, ops_turn, slots_turn, threads_turn}
use Rattle.runfile.specs.Reading.{operation}

-- ---- where there is no such line
pub no_pair : (w l : List ℕ) (ps : List (List ℕ)) → HasPart ps → number_after w (parts 9 l) ≡ None → NoPair w (l ∷ ps)
no_pair w l [] h e = absurd h
no_pair w l (p ∷ ps) h e = e

no_threads : (ps : List (List ℕ)) → NoPair threads_word ps → threads_then ps ≡ wrong 1
no_threads [] h = refl
no_threads (l ∷ []) h = refl
no_threads (l ∷ m ∷ ls) h = rw h

no_slots : (ps : List (List ℕ)) → NoPair slots_word ps → slots_then ps ≡ wrong 2
no_slots [] h = refl
no_slots (l ∷ []) h = refl
no_slots (l ∷ m ∷ ls) h = rw h

no_steps : (k : ℕ) (ps : List (List ℕ)) → NoPair step_word ps → 0 < length (together 10 ps) → steps_from k ps ≡ wrong k
no_steps k [] h g = refl
no_steps k ([] ∷ []) h g = absurd (omega arith)
no_steps k ((c ∷ l) ∷ []) h g = refl
no_steps k (l ∷ m ∷ ls) h g = rw h

-- ---- one line, found by its line feed
module _ (w s : List ℕ) (a e : ℕ) (eq : e ≡ a + until 10 (drop a s)) (low : a ≤ length s) where
  pub line_unended : length s ≤ e → LineSays w s a None
  line_unended h = subst (NoPair w) (sym (parts_last 10 s a e eq low h)) tt

  module _ (h : e < length s) where
    cut : parts 10 (drop a s) ≡ take (e - a) (drop a s) ∷ parts 10 (drop (e + 1) s)
    cut = parts_cut 10 s a e eq (omega (arith, eq)) h

    pub line_bad : number_after w (parts 9 (take (e - a) (drop a s))) ≡ None → LineSays w s a None
    line_bad b = subst (NoPair w) (sym cut) (no_pair w (take (e - a) (drop a s)) (parts 10 (drop (e + 1) s)) (parts_some 10 (drop (e + 1) s)) b)

    pub line_is : (n : ℕ) → number_after w (parts 9 (take (e - a) (drop a s))) ≡ Some n → LineSays w s a (Some (n, e + 1))
    line_is n b = (take (e - a) (drop a s), (cut, (b, (omega (arith, eq), omega arith))))

-- ---- the first two lines
module _ (s : List ℕ) where
  pub head_first : LineSays threads_word s 0 None → HeadSays s (Err (X.Line 1))
  head_first h = (1, (no_threads (parts 10 s) h, refl))

  module _ (n f : ℕ) (h : LineSays threads_word s 0 (Some (n, f))) where
    first : threads_then (parts 10 s) ≡ add_threads n (slots_then (parts 10 (drop f s)))
    first =
        ap threads_then h.1.0 ∙ threads_turn h.0 (parts 10 (drop f s)) (parts_some 10 (drop f s))
        ∙ ap (λ (r : Option ℕ). or_wrong 1 r (λ n. add_threads n (slots_then (parts 10 (drop f s))))) h.1.1.0

    pub head_second : LineSays slots_word s f None → HeadSays s (Err (X.Line 2))
    head_second g = (2, (first ∙ ap (add_threads n) (no_slots (parts 10 (drop f s)) g), refl))

    pub head_at : (m a : ℕ) → LineSays slots_word s f (Some (m, a)) → HeadSays s (Ok (record { threads = n; slots = m; place = a }))
    head_at m a g = (
      first ∙ ap (add_threads n) (ap slots_then g.1.0 ∙ slots_turn g.0 (parts 10 (drop a s)) (parts_some 10 (drop a s))
          ∙ ap (λ (r : Option ℕ). or_wrong 2 r (λ n. add_slots n (ops_from 3 (parts 10 (drop a s))))) g.1.1.0),
      (g.1.1.1.1, omega (arith, h.1.1.1.0, g.1.1.1.0)),
    )

under_snoc : (ss : List ℕ) (t : ℕ) (f : File) → under_steps (ss ++ (t ∷ [])) f ≡ under_steps ss (add_step t f)
under_snoc ss t (file a b thread kind sample schedule) = ap (file a b thread kind sample) (append_assoc ss (t ∷ []) schedule)
under_snoc ss t (wrong k) = refl

under_none : (f : File) → under_steps [] f ≡ f
under_none (file a b thread kind sample schedule) = refl
under_none (wrong k) = refl

pub record Left (s : List ℕ) (from first : ℕ) (out₀ out : List ℕ) (a k count : ℕ) : Type 0 where
  pub ss : List ℕ
  pub many : count ≡ length ss
  pub stored : out ≡ sets out₀ 0 ss
  pub reading : steps_from first (parts 10 (drop from s)) ≡ under_steps ss (steps_from k (parts 10 (drop a s)))

pub left_start : (s : List ℕ) (from first : ℕ) (out : List ℕ) → Left s from first out out from first 0
left_start s from first out = record { ss = []; many = refl; stored = refl; reading = sym (under_none (steps_from first (parts 10 (drop from s)))) }

module _ (s : List ℕ) (from first : ℕ) (out₀ out : List ℕ) (a k count : ℕ) (left : Left s from first out₀ out a k count) where
  -- the next line is none of the schedule's, or has no line feed
  pub left_bad : a < length s → LineSays step_word s a None → StepsSay (steps_from first (parts 10 (drop from s))) (Err (X.Line k)) out₀ out
  left_bad l h =
      let some : 0 < length (together 10 (parts 10 (drop a s))) = rw (together_parts 10 (drop a s), length-drop a s) (omega arith) in
      subst (λ (f : File). StepsSay f (Err (X.Line k)) out₀ out) (sym (left.reading ∙ ap (under_steps left.ss) (no_steps k (parts 10 (drop a s)) h some))) refl

  -- one entry more
  pub left_next : (t next : ℕ) (out' : List ℕ) → LineSays step_word s a (Some (t, next)) → out' ≡ set out count t → Left s from first out₀ out' next (k + 1) (count + 1)
  left_next t next out' h o =
      let ss = left.ss in
      let c : count ≡ 0 + length ss = omega (arith, left.many) in
      let k₁ : suc k ≡ k + 1 = omega arith in
      let rest = steps_from (suc k) (parts 10 (drop next s)) in
      let one : steps_from k (parts 10 (drop a s)) ≡ add_step t rest =
      ap (steps_from k) h.1.0 ∙ steps_turn k h.0 (parts 10 (drop next s)) (parts_some 10 (drop next s))
      ∙ ap (λ (r : Option ℕ). or_wrong k r (λ t. add_step t rest)) h.1.1.0 in
      record {
        ss = ss ++ (t ∷ []);
        many = rw length-append (omega (arith, left.many));
        stored = o ∙ (λ i. set (left.stored i) (c i) t) ∙ sets_snoc out₀ 0 ss t;
        reading =
            left.reading ∙ ap (under_steps ss) one ∙ sym (under_snoc ss t rest)
            ∙ ap (λ (j : ℕ). under_steps (ss ++ (t ∷ [])) (steps_from j (parts 10 (drop next s)))) k₁;
      }

  -- nothing is left
  pub left_end : length s ≤ a → StepsSay (steps_from first (parts 10 (drop from s))) (Ok count) out₀ out
  left_end l =
      let none : steps_from k (parts 10 (drop a s)) ≡ file 0 0 [] [] [] [] = rw (drop_of_length-le s l) in
      subst (λ (f : File). StepsSay f (Ok count) out₀ out) (sym (left.reading ∙ ap (under_steps left.ss) none ∙ ap (file 0 0 [] [] []) (append-nil left.ss))) (left.many, left.stored)

-- ---- the operations
-- a sample that a line holds stands in 32 bits as itself
abbrev SampleFits : Option Operation → Type 0
SampleFits (Some o) = SFits w32 o.sample
SampleFits None = Unit {0}

pub op_fits : (ps : List (List ℕ)) → SampleFits (operation_of ps)
op_fits [] = tt
op_fits (w ∷ []) = tt
op_fits (w ∷ t ∷ []) = cond_elim SampleFits (same w take_word) (take_of (number_of t)) None (λ _. go (number_of t)) (λ _. tt)
  where
    go : (n : Option ℕ) → SampleFits (take_of n)
    go (Some v) = record { sfits = omega arith }
    go None = tt
op_fits (w ∷ t ∷ x ∷ []) = cond_elim SampleFits (same w put_word) (put_of (number_of t) (sample_of x)) None (λ _. go (number_of t) (sample_of x) (sample_is x)) (λ _. tt)
  where
    go : (n : Option ℕ) (y : Option ℤ) → SampleIs y x → SampleFits (put_of n y)
    go (Some v) (Some y) h = h.1
    go (Some v) None h = tt
    go None y h = tt
op_fits (w ∷ t ∷ x ∷ f ∷ fs) = tt

pub op_exact : (ps : List (List ℕ)) (t : ℕ) (k : Kind) (x : ℤ) → operation_of ps ≡ Some (operation t k x) → to_z w32 (of_z w32 x) ≡ x
op_exact ps t k x e = to_z-of_z w32 x (subst SampleFits e (op_fits ps))

under_ops_snoc : (ts ks : List ℕ) (xs : List ℤ) (t k : ℕ) (x : ℤ) (f : File) → under_ops (ts ++ (t ∷ [])) (ks ++ (k ∷ [])) (xs ++ (x ∷ [])) f ≡ under_ops ts ks xs (add_op t k x f)
under_ops_snoc ts ks xs t k x (file a b thread kind sample schedule) =
    λ i. file a b (append_assoc ts (t ∷ []) thread i) (append_assoc ks (k ∷ []) kind i) (append_assoc xs (x ∷ []) sample i) schedule
under_ops_snoc ts ks xs t k x (wrong j) = refl

under_ops_none : (f : File) → under_ops [] [] [] f ≡ f
under_ops_none (file a b thread kind sample schedule) = refl
under_ops_none (wrong k) = refl

pub record LeftOps (s : List ℕ) (from first : ℕ) (thread₀ kind₀ : List ℕ) (sample₀ : List ℤ) (thread kind : List ℕ) (sample : List ℤ) (a k count : ℕ) : Type 0 where
  pub done : Done thread₀ kind₀ sample₀ thread kind sample count
  pub reading : ops_from first (parts 10 (drop from s)) ≡ under_ops done.ts done.ks done.xs (ops_from k (parts 10 (drop a s)))

pub ops_start : (s : List ℕ) (from first : ℕ) (thread kind : List ℕ) (sample : List ℤ) → LeftOps s from first thread kind sample thread kind sample from first 0
ops_start s from first thread kind sample =
    record {
      done = record { ts = []; ks = []; xs = []; many = refl; many_kinds = refl; many_samples = refl; threads = refl; kinds = refl; samples = refl };
      reading = sym (under_ops_none (ops_from first (parts 10 (drop from s))));
    }

module _ (s : List ℕ) (from first : ℕ) (thread₀ kind₀ : List ℕ) (sample₀ : List ℤ) (thread kind : List ℕ) (sample : List ℤ) (a k count : ℕ)
    (left : LeftOps s from first thread₀ kind₀ sample₀ thread kind sample a k count) (low : a ≤ length s) (ka : k ≤ a + 1) (e : ℕ) (eq : e ≡ a + until 10 (drop a s)) where
  abbrev done₀ : Done thread₀ kind₀ sample₀ thread kind sample count
  done₀ = left.done

  ended_at : ops_from k (parts 10 (drop a s)) ≡ steps_from k (parts 10 (drop a s)) → OpsSays s from first thread₀ kind₀ sample₀ thread kind sample count a k
  ended_at q = record { done = done₀; reading = left.reading ∙ ap (under_ops done₀.ts done₀.ks done₀.xs) q; inside = low; lines = ka }

  pub ops_unended : length s ≤ e → OpsSays s from first thread₀ kind₀ sample₀ thread kind sample count a k
  ops_unended h = ended_at (rw (parts_last 10 s a e eq low h))

  module _ (h : e < length s) where
    abbrev line : List ℕ
    line = take (e - a) (drop a s)

    abbrev rest : List (List ℕ)
    rest = parts 10 (drop (e + 1) s)

    cut_here : parts 10 (drop a s) ≡ line ∷ rest
    cut_here = parts_cut 10 s a e eq (omega (arith, eq)) h

    turn : ops_from k (parts 10 (drop a s)) ≡ or_steps (operation_of (parts 9 line)) (ops_from (suc k) rest) (steps_from k (line ∷ rest))
    turn = ap (ops_from k) cut_here ∙ ops_turn k line rest (parts_some 10 (drop (e + 1) s))

    -- the next line holds no operation
    pub ops_end : operation_of (parts 9 line) ≡ None → OpsSays s from first thread₀ kind₀ sample₀ thread kind sample count a k
    ops_end b = ended_at (turn ∙ ap (λ (o : Option Operation). or_steps o (ops_from (suc k) rest) (steps_from k (line ∷ rest))) b ∙ sym (ap (steps_from k) cut_here))

    -- one operation more
    pub ops_next : (t : ℕ) (c : Kind) (x : ℤ) (thread' kind' : List ℕ) (sample' : List ℤ) → operation_of (parts 9 line) ≡ Some (operation t c x)
        → thread' ≡ set thread count t → kind' ≡ set kind count (kind_number c) → sample' ≡ set sample count (to_z w32 (of_z w32 x))
        → LeftOps s from first thread₀ kind₀ sample₀ thread' kind' sample' (e + 1) (k + 1) (count + 1)
    ops_next t c x thread' kind' sample' b et ek ex =
        let ct : count ≡ 0 + length done₀.ts = omega (arith, done₀.many) in
        let ck : count ≡ 0 + length done₀.ks = omega (arith, done₀.many, done₀.many_kinds) in
        let cx : count ≡ 0 + length done₀.xs = omega (arith, done₀.many, done₀.many_samples) in
        let k₁ : suc k ≡ k + 1 = omega arith in
        let more : ops_from k (parts 10 (drop a s)) ≡ add_op t (kind_number c) x (ops_from (suc k) rest) = turn ∙ ap (λ (o : Option Operation). or_steps o (ops_from (suc k) rest) (steps_from k (line ∷ rest))) b in
        record {
          done = record {
            ts = done₀.ts ++ (t ∷ []);
            ks = done₀.ks ++ (kind_number c ∷ []);
            xs = done₀.xs ++ (x ∷ []);
            many = rw length-append (omega (arith, done₀.many));
            many_kinds = simp length-append (omega (arith, done₀.many_kinds));
            many_samples = simp length-append (omega (arith, done₀.many_samples));
            threads = et ∙ (λ i. set (done₀.threads i) (ct i) t) ∙ sets_snoc thread₀ 0 done₀.ts t;
            kinds = ek ∙ (λ i. set (done₀.kinds i) (ck i) (kind_number c)) ∙ sets_snoc kind₀ 0 done₀.ks (kind_number c);
            samples = ex ∙ (λ i. set (done₀.samples i) (cx i) (op_exact (parts 9 line) t c x b i)) ∙ sets_snoc sample₀ 0 done₀.xs x;
          };
          reading =
              left.reading ∙ ap (under_ops done₀.ts done₀.ks done₀.xs) more
              ∙ sym (under_ops_snoc done₀.ts done₀.ks done₀.xs t (kind_number c) x (ops_from (suc k) rest))
              ∙ ap (λ (j : ℕ). under_ops (done₀.ts ++ (t ∷ [])) (done₀.ks ++ (kind_number c ∷ [])) (done₀.xs ++ (x ∷ [])) (ops_from j rest)) k₁;
        }
