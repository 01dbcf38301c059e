-- What a run file can hold, entry by entry and list by list: the text of it is read back, and what is read is such. Assumes nothing.
use mathlib.Core.Path.{◌≡◌, refl, sym, ◌∙◌, ap, subst}
use mathlib.Core.Bool.{Bool, true, false}
use mathlib.Core.Logic.{◌⊎◌, inl, inr}
use mathlib.Core.List.{List, [], ◌∷◌}
use Prim.Native.Nat.{ℕ, zero, suc, ◌≤◌, ◌<◌}
use native.Mathlib.Omega.{arith}
use lib.Dec.{eqb}
use lib.IntN.{ℤ, pos}
use lib.ListN.{length, get_or}
use mir.Syntax.{w32}
use mir.Val.{SFits}
use borrow.Author.Tests.{eqb-true, lt-leb}
use Rattle.limits.specs.Lists.{All}
use Rattle.limits.specs.Operations.{Input, input_of}
use Rattle.limits.specs.Refusals.{unfit}
use Rattle.runfile.specs.RunText.{run_text}
use Rattle.runfile.specs.Wrong.{OpFits, CanHold, IsRun, File, file, wrong, Holds}
use Rattle.runfile.specs.Reading.{read_of}
use Rattle.runfile.proofs.InputLaws.{GoodOps, good_ops, GoodSteps}
use Rattle.runfile.proofs.TextLaws.{fit_thread, AllFit, all_fit}
use Rattle.runfile.proofs.SpellingLaws.{run_spelled}
use Rattle.runfile.proofs.ReadRound.{kind_told, Fits, read_text}
use Rattle.runfile.proofs.TextRound.{text_read, read_fits}

-- ---- one operation
op_good : (t k : ℕ) (x : ℤ) → OpFits t k x → (unfit 256 t k x ≡ false) × SFits w32 x
op_good t k x (l, inl (e, f)) = (rw (e, lt-leb 256 t (omega arith)), f)
op_good t k x (l, inr (e, z)) = (rw (e, z, lt-leb 256 t (omega arith)), subst (SFits w32) (sym z) (record { sfits = omega arith }))

good_op : (t k : ℕ) (x : ℤ) → unfit 256 t k x ≡ false → SFits w32 x → OpFits t k x
good_op t k x e f = (omega (arith, fit_thread 256 t k x e), go (eqb k 1) refl)
  where
    go : (b : Bool) → eqb k 1 ≡ b → ((k ≡ 1) × SFits w32 x) ⊎ ((k ≡ 2) × (x ≡ pos 0))
    go true d = inl (eqb-true k 1 d, f)
    go false d = inr (kind_told 256 t k x e d)

-- ---- the lists
good_held : (ts ks : List ℕ) (xs : List ℤ) → GoodOps 256 ts ks xs → AllFit xs
    → (length ks ≡ length ts) × (length xs ≡ length ts) × ((o : ℕ) → o < length ts → OpFits (get_or ts o 0) (get_or ks o 0) (get_or xs o (pos 0)))
good_held [] [] [] g f = (refl, refl, λ o l. absurd (omega arith))
good_held [] [] (x ∷ xs) g f = absurd g
good_held [] (k ∷ ks) xs g f = absurd g
good_held (t ∷ ts) [] xs g f = absurd g
good_held (t ∷ ts) (k ∷ ks) [] g f = absurd g
good_held (t ∷ ts) (k ∷ ks) (x ∷ xs) g f = let ih = good_held ts ks xs g.1 f.1 in (ap suc ih.0, ap suc ih.1, at ih.2)
  where
    at : ((o : ℕ) → o < length ts → OpFits (get_or ts o 0) (get_or ks o 0) (get_or xs o (pos 0)))
        → (o : ℕ) → o < length (t ∷ ts) → OpFits (get_or (t ∷ ts) o 0) (get_or (k ∷ ks) o 0) (get_or (x ∷ xs) o (pos 0))
    at h zero l = good_op t k x g.0 f.0
    at h (suc o) l = h o (omega arith)

steps_good : (ss : List ℕ) → All (λ t. t ≤ 255) ss → GoodSteps 256 ss
steps_good [] h = tt
steps_good (t ∷ ss) h = (omega (arith, h.0), steps_good ss h.1)

good_steps_held : (ss : List ℕ) → GoodSteps 256 ss → All (λ t. t ≤ 255) ss
good_steps_held [] h = tt
good_steps_held (t ∷ ss) h = (omega (arith, h.0), good_steps_held ss h.1)

module _ {i : Input} where
  pub held_fits : CanHold i → Fits i.threads i.slots i.thread i.kind i.sample i.schedule
  held_fits h =
      let at : (o : ℕ) → o < length i.thread → (unfit 256 (get_or i.thread o 0) (get_or i.kind o 0) (get_or i.sample o (pos 0)) ≡ false) × SFits w32 (get_or i.sample o (pos 0)) =
      λ o l. op_good (get_or i.thread o 0) (get_or i.kind o 0) (get_or i.sample o (pos 0)) (h.operations o l) in
      record {
        threads_fit = h.threads_fit;
        slots_fit = h.slots_fit;
        ops_fit = good_ops 256 i.thread i.kind i.sample h.kinds h.samples (λ o l. (at o l).0);
        samples_fit = all_fit i.sample (λ o l. (at o (omega (arith, h.samples))).1);
        steps_fit = steps_good i.schedule h.steps;
      }

  -- the text of what a run file can hold is read back
  pub run_read : CanHold i → read_of (run_text i) ≡ file i.threads i.slots i.thread i.kind i.sample i.schedule
  run_read h = ap read_of (run_spelled i) ∙ read_text (held_fits h)

module _ {threads slots : ℕ} {thread kind : List ℕ} {sample : List ℤ} {schedule : List ℕ} where
  pub fits_held : Fits threads slots thread kind sample schedule → CanHold (input_of threads slots thread kind sample schedule)
  fits_held f =
      let g = good_held thread kind sample f.ops_fit f.samples_fit in
      record { threads_fit = f.threads_fit; slots_fit = f.slots_fit; kinds = g.0; samples = g.1; operations = g.2; steps = good_steps_held schedule f.steps_fit }

-- what is read is what a run file can hold, and its text the one read
pub read_run : (s : List ℕ) (threads slots : ℕ) (thread kind : List ℕ) (sample : List ℤ) (schedule : List ℕ) → read_of s ≡ file threads slots thread kind sample schedule
    → Holds s (file threads slots thread kind sample schedule)
read_run s n m ts ks xs ss e = (fits_held (read_fits s n m ts ks xs ss e), sym (run_spelled (input_of n m ts ks xs ss) ∙ text_read s n m ts ks xs ss e))

-- a text with a wrong line is the text of no run
pub wrong_none : (s : List ℕ) (k : ℕ) → read_of s ≡ wrong k → ¬ IsRun s
wrong_none s k e (i, held, text) =
    let a : file i.threads i.slots i.thread i.kind i.sample i.schedule ≡ wrong k = sym (run_read held) ∙ ap read_of (sym text) ∙ e in
    let z : ◌≡◌ {A = ℕ} 0 1 = cc in
    omega arith

-- a text with no wrong line is the text of what was read
pub read_or_wrong : (s : List ℕ) → IsRun s ⊎ ((k : ℕ) × (read_of s ≡ wrong k))
read_or_wrong s = go (read_of s) refl
  where
    go : (f : File) → read_of s ≡ f → IsRun s ⊎ ((k : ℕ) × (read_of s ≡ wrong k))
    go (file n m ts ks xs ss) e = let h = read_run s n m ts ks xs ss e in inl (input_of n m ts ks xs ss, h.0, h.1)
    go (wrong k) e = inr (k, e)
