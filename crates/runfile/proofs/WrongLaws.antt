-- What is claimed of the reading of a text (document 01, 'Run files' and refusal 11): `read_of` gives what the text holds, told without reading it, and
-- nothing else is that. Assumes nothing.
--   read_wrong             the line that the reading gives is the first that is not as written
--   wrong_one              there is one such line only
--   wrong_read             it is the one that the reading gives, where the text is no run's
--   read-holds, holds_read what is read is what the text holds, and the other way round
--   holds_one              a text holds one thing only
use mathlib.Core.Path.{◌≡◌, refl, sym, ◌∙◌, ap, subst}
use mathlib.Core.Bool.{Bool, true, false}
use mathlib.Core.Logic.{◌⊎◌, inl, inr}
use mathlib.Core.List.{List}
use Prim.Native.Nat.{ℕ, zero, suc, ◌+◌, ◌-◌, ◌≤◌}
use native.Mathlib.Omega.{arith}
use lib.Dec.{leb}
use borrow.Author.Tests.{leb-true, leb-false}
use Rattle.limits.specs.Operations.{input_of}
use Rattle.runfile.specs.Spelling.{spelled}
use Rattle.runfile.specs.Wrong.{IsRun, SameLines, Begins, FirstWrong, File, file, wrong, Holds}
use Rattle.runfile.specs.Reading.{parts, threads_then, read_of}
use Rattle.runfile.proofs.PartsLaws.{parts_some}
use Rattle.runfile.proofs.LinesLaws.{same_less, same_agree, agree_same}
use Rattle.runfile.proofs.PastLaws.{NotBefore, IsFile, threads_low, threads_past}
use Rattle.runfile.proofs.StartLaws.{threads_start}
use Rattle.runfile.proofs.SpellingLaws.{run_spelled}
use Rattle.runfile.proofs.HoldLaws.{fits_held, run_read, read_run, wrong_none, read_or_wrong}

-- ---- the lines before a wrong line begin a run file
start_begins : (k : ℕ) (s : List ℕ) → read_of s ≡ wrong (suc k) → Begins k s
unfolding read_of spelled
start_begins k s e =
    let r = threads_start k (suc k) (parts 10 s) (parts_some 10 s) (omega arith) e in
    let h = r.4 in
    let i = input_of r.0 r.2 h.thread h.kind h.sample h.schedule in
    let t = spelled r.0 r.2 h.thread h.kind h.sample h.schedule in
    let held = fits_held (record { threads_fit = r.1; slots_fit = r.3; ops_fit = h.ops; samples_fit = h.samples; steps_fit = h.steps }) in
    (t, (i, held, sym {b = t} (run_spelled i)), agree_same k s t h.agree)

-- ---- and with it they begin none
run_file : (t : List ℕ) → IsRun t → IsFile (read_of t)
run_file t (i, held, text) = subst IsFile (sym (ap read_of text ∙ run_read held)) tt

not_begins : (k : ℕ) (s : List ℕ) → read_of s ≡ wrong k → ¬ Begins k s
unfolding read_of
not_begins k s e b =
    let h : NotBefore (1 + k) (threads_then (parts 10 s)) = threads_past k (1 + k) (parts 10 s) (parts 10 b.0) (omega arith) (same_agree k s b.0 b.2) (run_file b.0 b.1) in
    let z : 1 + k ≤ k = subst (NotBefore (1 + k)) e h in
    omega arith

-- the line that the reading gives is the first that is not as written
pub read_wrong : (s : List ℕ) (k : ℕ) → read_of s ≡ wrong k → FirstWrong s k
unfolding read_of
read_wrong s zero e = let z : 1 ≤ 0 = subst (NotBefore 1) e (threads_low (parts 10 s)) in omega arith
read_wrong s (suc k) e = (start_begins k s e, not_begins (suc k) s e)

-- ---- there is one such line only
begins_less : (i k : ℕ) (s : List ℕ) → Begins (i + k) s → Begins k s
begins_less zero k s b = let z : 0 + k ≡ k = omega arith in subst (λ (j : ℕ). Begins j s) z b
begins_less (suc i) k s b =
    let z : suc i + k ≡ suc (i + k) = omega arith in
    begins_less i k s (b.0, b.1, same_less (i + k) s b.0 (subst (λ (j : ℕ). SameLines j s b.0) z b.2))

first_least : (s : List ℕ) (k j : ℕ) → FirstWrong s k → FirstWrong s j → k ≤ j
first_least s zero j f g = absurd f
first_least s (suc k) zero f g = absurd g
first_least s (suc k) (suc j) f g = go (leb k j) refl
  where
    go : (b : Bool) → leb k j ≡ b → suc k ≤ suc j
    go true e = omega (arith, leb-true k j e)
    go false e =
        let z : k ≡ (k - suc j) + suc j = omega (arith, leb-false k j e) in
        absurd (g.1 (begins_less (k - suc j) (suc j) s (subst (λ (i : ℕ). Begins i s) z f.0)))

pub wrong_one : (s : List ℕ) (k j : ℕ) → FirstWrong s k → FirstWrong s j → k ≡ j
wrong_one s k j f g = omega (arith, first_least s k j f g, first_least s j k g f)

-- the first line that is not as written is the one that the reading gives, where the text is no run's
pub wrong_read : (s : List ℕ) (k : ℕ) → ¬ IsRun s → FirstWrong s k → read_of s ≡ wrong k
wrong_read s k n f = go (read_or_wrong s)
  where
    go : IsRun s ⊎ ((j : ℕ) × (read_of s ≡ wrong j)) → read_of s ≡ wrong k
    go (inl r) = absurd (n r)
    go (inr (j, e)) = e ∙ ap wrong (wrong_one s j k (read_wrong s j e) f)

-- ---- so the reading is what the text holds, and nothing else is
pub read_holds : (s : List ℕ) → Holds s (read_of s)
read_holds s = go (read_of s) refl
  where
    go : (f : File) → read_of s ≡ f → Holds s f
    go (file n m ts ks xs ss) e = read_run s n m ts ks xs ss e
    go (wrong k) e = (wrong_none s k e, read_wrong s k e)

pub holds_read : (s : List ℕ) (f : File) → Holds s f → read_of s ≡ f
holds_read s (file n m ts ks xs ss) h = ap read_of h.1 ∙ run_read h.0
holds_read s (wrong k) h = wrong_read s k h.0 h.1

pub holds_one : (s : List ℕ) (f g : File) → Holds s f → Holds s g → f ≡ g
holds_one s f g h k = sym (holds_read s f h) ∙ holds_read s g k
