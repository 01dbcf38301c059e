-- The lines before a wrong line are the first of some run file. Assumes nothing.
--   Start i ps text   operations and steps that a run file can hold, such that the first i lines of their text, put into `text`, are the first of ps
use Rattle.limits.specs.declared.Kind.{Kind}
use Rattle.limits.specs.Parts.{kind_number}
use Rattle.std.specs.Prelude.{None, Option, Some}
use Rattle.runfile.specs.declared.Operation.{Operation}
use mathlib.Core.Path.{◌≡◌, refl, sym, ◌∙◌, ap, subst}
use mathlib.Core.List.{List, [], ◌∷◌, ◌++◌, append_assoc}
use Prim.Native.Nat.{ℕ, zero, suc, ◌+◌, ◌≤◌}
use native.Mathlib.Omega.{arith}
use lib.IntN.{ℤ}
use Rattle.runfile.specs.Spelling.{threads_word, slots_word, step_word, pair_line, op_line, ended, ops_text, steps_text}
use Rattle.runfile.specs.Wrong.{wrong}
use Rattle.runfile.specs.Reading.{parts, number_after, operation_of, add_threads, add_slots, add_step, or_wrong, or_steps, at_end, steps_from, ops_from, slots_then, threads_then}
use Rattle.runfile.specs.Twins.{Free}
use Rattle.runfile.proofs.PartsLaws.{HasPart, parts_some, parts_append}
use Rattle.runfile.proofs.InputLaws.{GoodOps, GoodSteps}
use Rattle.runfile.proofs.TextLaws.{AllFit}
use Rattle.runfile.proofs.ReadRound.{free_pair, free_op, step_first}
use Rattle.runfile.proofs.TextRound.{PairIs, pair_is, OpIs, op_is}
use Rattle.runfile.proofs.LinesLaws.{Agree}
use Rattle.runfile.proofs.PastLaws.{keeps_threads, keeps_slots, keeps_op, keeps_step}
use Rattle.runfile.specs.Reading.{operation}

pub record Start (i : ℕ) (ps : List (List ℕ)) (text : List ℕ → List ℕ) : Type 0 where
  pub thread : List ℕ
  pub kind : List ℕ
  pub sample : List ℤ
  pub schedule : List ℕ
  pub ops : GoodOps 256 thread kind sample
  pub samples : AllFit sample
  pub steps : GoodSteps 256 schedule
  pub agree : Agree i ps (parts 10 (text (ops_text thread kind sample ++ steps_text schedule)))

-- ---- of no line every run file has the first ones; a line more in front of both is one more
start_none : (ps : List (List ℕ)) (text : List ℕ → List ℕ) → HasPart ps → Start 0 ps text
start_none ps text h = record { thread = []; kind = []; sample = []; schedule = []; ops = tt; samples = tt; steps = tt; agree = (h, parts_some 10 (text [])) }

start_line : (i : ℕ) (l w : List ℕ) (ps : List (List ℕ)) (text : List ℕ → List ℕ) → w ≡ l → Free 10 w → Start i ps text → Start (suc i) (l ∷ ps) (λ body. ended w (text body))
start_line i l w ps text e free h = record {
  thread = h.thread;
  kind = h.kind;
  sample = h.sample;
  schedule = h.schedule;
  ops = h.ops;
  samples = h.samples;
  steps = h.steps;
  agree = subst (Agree (suc i) (l ∷ ps)) (sym (parts_append 10 w (text (ops_text h.thread h.kind h.sample ++ steps_text h.schedule)) free)) (sym e, h.agree);
}

-- ---- a line after line j is wrong only where line j is as written and ended
not_end : (i j k : ℕ) (l : List ℕ) → k ≡ j + suc i → at_end j l ≡ wrong k → ⊥
not_end i j k [] e w = let z : ◌≡◌ {A = ℕ} 0 1 = cc in omega arith
not_end i j k (c ∷ l) e w = let z : j ≡ k = cc in omega arith

not_here : (i j k : ℕ) → k ≡ j + suc i → wrong j ≡ wrong k → ⊥
not_here i j k e w = let z : j ≡ k = cc in omega arith

-- ---- the schedule
steps_start : (i j k : ℕ) (ps : List (List ℕ)) → HasPart ps → k ≡ j + i → steps_from j ps ≡ wrong k → (ss : List ℕ) × GoodSteps 256 ss × Agree i ps (parts 10 (steps_text ss))
steps_start zero j k ps h e w = ([], tt, (h, tt))
steps_start (suc i) j k [] h e w = absurd h
steps_start (suc i) j k (l ∷ []) h e w = absurd (not_end i j k l e w)
steps_start (suc i) j k (l ∷ m ∷ ls) h e w = go (number_after step_word (parts 9 l)) (pair_is step_word l) (steps_start i (suc j) k (m ∷ ls) tt (omega arith)) w
  where
    go : (r : Option ℕ) → PairIs step_word r l → (steps_from (suc j) (m ∷ ls) ≡ wrong k → (ss : List ℕ) × GoodSteps 256 ss × Agree i (m ∷ ls) (parts 10 (steps_text ss)))
        → or_wrong j r (λ t. add_step t (steps_from (suc j) (m ∷ ls))) ≡ wrong k → (ss : List ℕ) × GoodSteps 256 ss × Agree (suc i) (l ∷ m ∷ ls) (parts 10 (steps_text ss))
    go (Some t) p ih q =
        let r = ih ((keeps_step t).at (steps_from (suc j) (m ∷ ls)) k q) in
        (t ∷ r.0, (omega (arith, p.1), r.1), subst (Agree (suc i) (l ∷ m ∷ ls)) (sym (step_first t (steps_text r.0))) (sym p.0, r.2))
    go None p ih q = absurd (not_here i j k e q)

-- ---- the operations
start_steps : (i : ℕ) (ps : List (List ℕ)) → (ss : List ℕ) × GoodSteps 256 ss × Agree i ps (parts 10 (steps_text ss)) → Start i ps (λ body. body)
start_steps i ps r = record { thread = []; kind = []; sample = []; schedule = r.0; ops = tt; samples = tt; steps = r.1; agree = r.2 }

start_op : (i t : ℕ) (k : Kind) (x : ℤ) (l : List ℕ) (ps : List (List ℕ)) → OpIs (Some (operation t k x)) l → Start i ps (λ body. body) → Start (suc i) (l ∷ ps) (λ body. body)
start_op i t k x l ps p h =
    let more = ops_text h.thread h.kind h.sample ++ steps_text h.schedule in
    let line : parts 10 ((ended (op_line t (kind_number k) x) (ops_text h.thread h.kind h.sample)) ++ steps_text h.schedule) ≡ op_line t (kind_number k) x ∷ parts 10 more =
    ap (parts 10) (append_assoc (op_line t (kind_number k) x) (10 ∷ ops_text h.thread h.kind h.sample) (steps_text h.schedule)) ∙ parts_append 10 (op_line t (kind_number k) x) more (free_op t (kind_number k) x) in
    record {
      thread = t ∷ h.thread;
      kind = kind_number k ∷ h.kind;
      sample = x ∷ h.sample;
      schedule = h.schedule;
      ops = (p.1.0, h.ops);
      samples = (p.1.1, h.samples);
      steps = h.steps;
      agree = subst (Agree (suc i) (l ∷ ps)) (sym line) (sym p.0, h.agree);
    }

ops_start : (i j k : ℕ) (ps : List (List ℕ)) → HasPart ps → k ≡ j + i → ops_from j ps ≡ wrong k → Start i ps (λ body. body)
ops_start zero j k ps h e w = start_none ps (λ body. body) h
ops_start (suc i) j k [] h e w = absurd h
ops_start (suc i) j k (l ∷ []) h e w = absurd (not_end i j k l e w)
ops_start (suc i) j k (l ∷ m ∷ ls) h e w = go (operation_of (parts 9 l)) (op_is l) (ops_start i (suc j) k (m ∷ ls) tt (omega arith)) w
  where
    go : (o : Option Operation) → OpIs o l → (ops_from (suc j) (m ∷ ls) ≡ wrong k → Start i (m ∷ ls) (λ body. body)) → or_steps o (ops_from (suc j) (m ∷ ls)) (steps_from j (l ∷ m ∷ ls)) ≡ wrong k
        → Start (suc i) (l ∷ m ∷ ls) (λ body. body)
    go (Some o) p ih q = start_op i o.thread o.kind o.sample l (m ∷ ls) p (ih ((keeps_op o.thread (kind_number o.kind) o.sample).at (ops_from (suc j) (m ∷ ls)) k q))
    go None p ih q = start_steps (suc i) (l ∷ m ∷ ls) (steps_start (suc i) j k (l ∷ m ∷ ls) tt e q)

-- ---- the first two lines
slots_start : (i k : ℕ) (ps : List (List ℕ)) → HasPart ps → k ≡ 2 + i → slots_then ps ≡ wrong k → (n : ℕ) × (n ≤ 255) × Start i ps (ended (pair_line slots_word n))
slots_start zero k ps h e w = (0, omega arith, start_none ps (ended (pair_line slots_word 0)) h)
slots_start (suc i) k [] h e w = absurd h
slots_start (suc i) k (l ∷ []) h e w = absurd (not_here i 2 k e w)
slots_start (suc i) k (l ∷ m ∷ ls) h e w = go (number_after slots_word (parts 9 l)) (pair_is slots_word l) w
  where
    go : (r : Option ℕ) → PairIs slots_word r l → or_wrong 2 r (λ n. add_slots n (ops_from 3 (m ∷ ls))) ≡ wrong k → (n : ℕ) × (n ≤ 255) × Start (suc i) (l ∷ m ∷ ls) (ended (pair_line slots_word n))
    go (Some n) p q =
        let r = ops_start i 3 k (m ∷ ls) tt (omega arith) ((keeps_slots n).at (ops_from 3 (m ∷ ls)) k q) in
        (n, p.1, start_line i l (pair_line slots_word n) (m ∷ ls) (λ body. body) p.0 (free_pair slots_word (refl, (refl, (refl, (refl, (refl, tt))))) n) r)
    go None p q = absurd (not_here i 2 k e q)

pub threads_start : (i k : ℕ) (ps : List (List ℕ)) → HasPart ps → k ≡ 1 + i → threads_then ps ≡ wrong k
    → (n : ℕ) × (n ≤ 255) × (m : ℕ) × (m ≤ 255) × Start i ps (λ body. ended (pair_line threads_word n) (ended (pair_line slots_word m) body))
threads_start zero k ps h e w = (0, omega arith, 0, omega arith, start_none ps (λ body. ended (pair_line threads_word 0) (ended (pair_line slots_word 0) body)) h)
threads_start (suc i) k [] h e w = absurd h
threads_start (suc i) k (l ∷ []) h e w = absurd (not_here i 1 k e w)
threads_start (suc i) k (l ∷ m ∷ ls) h e w = go (number_after threads_word (parts 9 l)) (pair_is threads_word l) w
  where
    go : (r : Option ℕ) → PairIs threads_word r l → or_wrong 1 r (λ n. add_threads n (slots_then (m ∷ ls))) ≡ wrong k
        → (n : ℕ) × (n ≤ 255) × (c : ℕ) × (c ≤ 255) × Start (suc i) (l ∷ m ∷ ls) (λ body. ended (pair_line threads_word n) (ended (pair_line slots_word c) body))
    go (Some n) p q =
        let r = slots_start i k (m ∷ ls) tt (omega arith) ((keeps_threads n).at (slots_then (m ∷ ls)) k q) in
        let free = free_pair threads_word (refl, (refl, (refl, (refl, (refl, (refl, (refl, tt))))))) n in
        (n, p.1, r.0, r.1, start_line i l (pair_line threads_word n) (m ∷ ls) (ended (pair_line slots_word r.0)) p.0 free r.2)
    go None p q = absurd (not_here i 1 k e q)
