-- Laws of the writer: a line put after a text, line by line, and the writer's answers. Assumes nothing.
--   Lines   the lines put so far, and those that are left
use Rattle.std.specs.Prelude.{Err, Ok, Result}
use mathlib.Core.Path.{◌≡◌, refl, sym, ◌∙◌, ap, subst}
use mathlib.Core.Bool.{Bool, true, false}
use mathlib.Core.List.{List, [], ◌∷◌, ◌++◌, append_assoc, append-nil}
use Prim.Native.Nat.{ℕ, suc, ◌+◌, ◌≤◌, ◌<◌}
use native.Mathlib.Omega.{arith}
use lib.Dec.{leb, ltb}
use borrow.Author.Tests.{ltb-true, ltb-false, le-leb, lt-leb}
use mir.Syntax.{w32}
use mir.Val.{SFits}
use lib.IntN.{ℤ, pos}
use lib.ListN.{length, get_or, drop, drop_of_length-le}
use lib.Seq.{drop-cons, sets}
use Rattle.numerals.specs.declared.Page.{Page}
use Rattle.numerals.specs.Places.{Wrote}
use Rattle.numerals.proofs.PrintLaws.{wrote_none, wrote_then, wrote_as}
use Rattle.limits.specs.declared.Refusal.{Refusal}
use Rattle.limits.specs.declared.Refusal.TheVariants.{Room}
use Rattle.limits.specs.Operations.{Input}
use Rattle.limits.specs.Refusals.{input_refusal}
use Rattle.runfile.specs.RunText.{Fitting, run_text}
use Rattle.runfile.specs.Spelling.{threads_word, slots_word, step_word, pair_line, op_line, ended, ops_text, steps_text, spelled}
use Rattle.runfile.specs.Answers.{write_fit, WriteSays}
use Rattle.limits.specs.Lists.{over}
use Rattle.limits.proofs.PassLaws.{input_passed}
use Rattle.runfile.proofs.FitLaws.{over_sets}
use Rattle.runfile.proofs.TextLaws.{all_fit, text_short}
use Rattle.runfile.proofs.SpellingLaws.{run_spelled}

-- a line and what follows it
pub ended_then : (l rest : List ℕ) → ended l [] ++ rest ≡ ended l rest
ended_then l rest = append_assoc l (10 ∷ []) rest

-- ---- lines put one after another; whole is the text of them all, left that of those still to come
pub record Lines (whole left : List ℕ) (p q : Page) : Type 0 where
  pub done : List ℕ
  pub put : Wrote p done q
  pub rest : whole ≡ done ++ left

pub lines_start : (whole : List ℕ) (p : Page) → Lines whole whole p p
lines_start whole p = record { done = []; put = wrote_none p; rest = refl }

-- one line more
pub lines_next : {whole left : List ℕ} {p q r : Page} (l left' : List ℕ) → Lines whole left p q → left ≡ ended l left' → Wrote q (ended l []) r → Lines whole left' p r
lines_next l left' x e y =
    record {
      done = x.done ++ ended l [];
      put = wrote_then x.put y;
      rest = x.rest ∙ ap (λ (t : List ℕ). x.done ++ t) (e ∙ sym (ended_then l left')) ∙ sym (append_assoc x.done (ended l []) left');
    }

pub lines_end : {whole left : List ℕ} {p q : Page} → left ≡ [] → Lines whole left p q → Wrote p whole q
lines_end e x = wrote_as (sym (x.rest ∙ ap (λ (t : List ℕ). x.done ++ t) e ∙ append-nil x.done)) x.put

-- the lines left after i operations, and after i entries
pub ops_left : (thread kind : List ℕ) (sample : List ℤ) (i : ℕ) → length kind ≡ length thread → length sample ≡ length thread → i < length thread
    → ops_text (drop i thread) (drop i kind) (drop i sample) ≡ ended (op_line (get_or thread i 0) (get_or kind i 0) (get_or sample i (pos 0))) (ops_text (drop (i + 1) thread) (drop (i + 1) kind) (drop (i + 1) sample))
ops_left thread kind sample i hk hx h =
    let j : suc i ≡ i + 1 = omega arith in
    (λ k. ops_text (drop-cons thread i 0 h k) (drop-cons kind i 0 (omega arith) k) (drop-cons sample i (pos 0) (omega arith) k))
    ∙ ap (λ (n : ℕ). ended (op_line (get_or thread i 0) (get_or kind i 0) (get_or sample i (pos 0))) (ops_text (drop n thread) (drop n kind) (drop n sample))) j

pub steps_left : (schedule : List ℕ) (i : ℕ) → i < length schedule → steps_text (drop i schedule) ≡ ended (pair_line step_word (get_or schedule i 0)) (steps_text (drop (i + 1) schedule))
steps_left schedule i h =
    let j : suc i ≡ i + 1 = omega arith in
    ap steps_text (drop-cons schedule i 0 h) ∙ ap (λ (n : ℕ). ended (pair_line step_word (get_or schedule i 0)) (steps_text (drop n schedule))) j

pub no_ops_left : (thread kind : List ℕ) (sample : List ℤ) (i : ℕ) → length thread ≤ i → ops_text (drop i thread) (drop i kind) (drop i sample) ≡ []
no_ops_left thread kind sample i h = ap (λ (t : List ℕ). ops_text t (drop i kind) (drop i sample)) (drop_of_length-le thread h)

pub no_steps_left : (schedule : List ℕ) (i : ℕ) → length schedule ≤ i → steps_text (drop i schedule) ≡ []
no_steps_left schedule i h = ap steps_text (drop_of_length-le schedule h)

-- ---- the samples that were written fit
pub fit_next : (sample : List ℤ) (i : ℕ) → ((j : ℕ) → j < i → SFits w32 (get_or sample j (pos 0))) → SFits w32 (get_or sample i (pos 0)) → (j : ℕ) → j < i + 1 → SFits w32 (get_or sample j (pos 0))
fit_next sample i low here j h = go (ltb j i) refl
  where
    go : (b : Bool) → ltb j i ≡ b → SFits w32 (get_or sample j (pos 0))
    go true e = low j (ltb-true j i e)
    go false e = let q : i ≡ j = omega (arith, ltb-false j i e) in subst (λ (k : ℕ). SFits w32 (get_or sample k (pos 0))) q here

-- ---- the whole text, and the writer's answers
pub run_text_spelled : (threads slots : ℕ) (thread kind : List ℕ) (sample : List ℤ) (schedule : List ℕ)
    → ended (pair_line threads_word threads) [] ++ (ended (pair_line slots_word slots) [] ++ (ops_text thread kind sample ++ steps_text schedule)) ≡ spelled threads slots thread kind sample schedule
unfolding spelled
run_text_spelled threads slots thread kind sample schedule =
    let a = pair_line threads_word threads in
    let b = pair_line slots_word slots in
    let rest = ops_text thread kind sample ++ steps_text schedule in
    ap (λ (t : List ℕ). ended a [] ++ t) (ended_then b rest) ∙ ended_then a (ended b rest)

module _ (i : Input) (pass : input_refusal i ≡ Ok tt) where
  abbrev whole : List ℕ
  whole = spelled i.threads i.slots i.thread i.kind i.sample i.schedule

  -- the place after the text is its length, since that is small
  text_size : {p q : Page} → p.at ≡ 0 → Wrote p whole q → Fitting i.sample → length (run_text i) ≡ q.at
  text_size z x f = rw (run_spelled i) (omega (arith, z, x.put.place, text_short (input_passed i pass) (all_fit i.sample f)))

  pub written : {text new : List ℕ} {p q : Page} {n : ℕ} → q.at ≤ length text → p.text.now ≡ text → p.at ≡ 0 → Wrote p whole q → Fitting i.sample → n ≡ q.at → new ≡ q.text.now
      → WriteSays i text (Ok n) new
  unfolding write_fit
  written {text} {new} {p} {q} {n} fits t z x f e g =
      let size : length (run_text i) ≡ q.at = text_size z x f in
      let b : leb (length (run_text i)) (length text) ≡ true = le-leb (length (run_text i)) (length text) (omega arith) in
      let stands : over (run_text i) text ≡ sets text 0 whole = rw (run_spelled i) (sym (over_sets whole text (omega (arith, ap length (run_spelled i))))) in
      record { answer = rw (pass, b, e, size); bytes = rw (pass, b) (g ∙ x.put.text ∙ (λ j. sets (t j) (z j) whole) ∙ sym stands) }

  pub no_room : {text : List ℕ} {p q : Page} → length text < q.at → p.at ≡ 0 → Wrote p whole q → Fitting i.sample → WriteSays i text (Err Room) text
  unfolding write_fit
  no_room {text} short z x f =
      let size : length (run_text i) ≡ _ = text_size z x f in
      let b : leb (length (run_text i)) (length text) ≡ false = lt-leb (length (run_text i)) (length text) (omega arith) in
      record { answer = rw (pass, b); bytes = rw (pass, b) }

pub refused : {i : Input} {text : List ℕ} {made : Result ℕ Refusal} (r : Refusal) → input_refusal i ≡ Err r → made ≡ Err r → WriteSays i text made text
unfolding write_fit
refused r e same = record { answer = rw e same; bytes = rw e }
