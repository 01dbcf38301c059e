-- What an input that passes refusals 1 to 8 has. Assumes nothing.
use Rattle.std.specs.Prelude.{Ok}
use mathlib.Core.Path.{◌≡◌, refl}
use mathlib.Core.Bool.{Bool, true, false, not, ◌&&◌, ◌||◌}
use Prim.Native.Nat.{ℕ, zero, suc, ◌≤◌, ◌<◌}
use native.Mathlib.Omega.{arith}
use lib.Dec.{leb, eqb}
use lib.IntN.{ℤ, pos, negsuc}
use lib.ListN.{length, get_or}
use borrow.Author.Tests.{leb-true, leb-false, le-leb, eq-eqb}
use Rattle.limits.specs.declared.Refusal.TheVariants.{Threads, Slots, Lengths, Operations, Operation, Puts, Schedule, Entry}
use Rattle.limits.specs.Lists.{lowest}
use Rattle.limits.specs.Operations.{Input, puts_in}
use Rattle.limits.specs.Refusals.{within, together, unfit, unfit_at, input_refusal, is_zero}
use Rattle.limits.specs.Parts.{stray_at, table_refusal}
use Rattle.limits.proofs.LimitsLaws.{together_lengths}
use Rattle.limits.proofs.FitLaws.{unless_pass, unless_at_pass, both_true, nowhere, lowest_none}

pub record Passed (i : Input) : Type 0 where
  pub some : 1 ≤ i.threads
  pub threads_most : i.threads ≤ 16
  pub slots_most : i.slots ≤ 64
  pub kinds : length i.kind ≡ length i.thread
  pub samples : length i.sample ≡ length i.thread
  pub few : length i.thread ≤ 128
  pub fit : (o : ℕ) → o < length i.thread → unfit_at i.threads i.thread i.kind i.sample o ≡ false
  pub puts : puts_in i.kind ≤ i.slots
  pub short : length i.schedule ≤ 4096
  pub named : (k : ℕ) → k < length i.schedule → get_or i.schedule k 0 < i.threads

pub input_passed : (i : Input) → input_refusal i ≡ Ok tt → Passed i
unfolding input_refusal
input_passed i e =
    let n = i.threads in
    let m = i.slots in
    let thread = i.thread in
    let kind = i.kind in
    let sample = i.sample in
    let schedule = i.schedule in
    let a = unless_pass (within 1 16 n) Threads _ e in
    let b = unless_pass (within 1 64 m) Slots _ a.1 in
    let c = unless_pass (together thread kind sample) Lengths _ b.1 in
    let d = unless_pass (leb (length thread) 128) Operations _ c.1 in
    let f = unless_at_pass (lowest (unfit_at n thread kind sample) (length thread)) Operation _ d.1 in
    let g = unless_pass (leb (puts_in kind) m) Puts _ f.1 in
    let h = unless_pass (leb (length schedule) 4096) Schedule _ g.1 in
    let k = unless_at_pass (lowest (stray_at n schedule) (length schedule)) Entry (Ok tt) h.1 in
    let w = both_true (leb 1 n) (leb n 16) a.0 in
    let v = both_true (leb 1 m) (leb m 64) b.0 in
    let t = together_lengths thread kind sample c.0 in
    record {
      some = leb-true 1 n w.0;
      threads_most = leb-true n 16 w.1;
      slots_most = leb-true m 64 v.1;
      kinds = t.0;
      samples = t.1;
      few = leb-true (length thread) 128 d.0;
      fit = nowhere (unfit_at n thread kind sample) (length thread) f.0;
      puts = leb-true (puts_in kind) m g.0;
      short = leb-true (length schedule) 4096 h.0;
      named = λ j lt. leb-false n (get_or schedule j 0) (nowhere (stray_at n schedule) (length schedule) k.0 j lt);
    }

-- ---- an operation that passes 5

module _ (n t k : ℕ) (x : ℤ) (e : unfit n t k x ≡ false) where
  pub fit_thread : t < n
  fit_thread = go (leb n t) refl e
    where
      go : (b : Bool) → leb n t ≡ b → (b || (not (eqb k 1) && not (eqb k 2)) || (eqb k 2 && not (is_zero x))) ≡ false → t < n
      go true p q = absurd (let z : ◌≡◌ {A = ℕ} 0 1 = cc in omega arith)
      go false p q = leb-false n t p

  -- a take has sample 0
  pub fit_sample : k ≡ 2 → x ≡ pos 0
  fit_sample two = go x (leb n t) (rw two at e)
    where
      go : (y : ℤ) (b : Bool) → (b || false || not (is_zero y)) ≡ false → y ≡ pos 0
      go (pos zero) b q = refl
      go (pos (suc y)) true q = absurd (let z : ◌≡◌ {A = ℕ} 0 1 = cc in omega arith)
      go (pos (suc y)) false q = absurd (let z : ◌≡◌ {A = ℕ} 0 1 = cc in omega arith)
      go (negsuc y) true q = absurd (let z : ◌≡◌ {A = ℕ} 0 1 = cc in omega arith)
      go (negsuc y) false q = absurd (let z : ◌≡◌ {A = ℕ} 0 1 = cc in omega arith)

-- what passes 1 to 8 passes 1, 3, 4 and 5
pub table_passed : (i : Input) → Passed i → table_refusal i.threads i.thread i.kind i.sample ≡ Ok tt
unfolding table_refusal
table_passed i p =
    rw (
      le-leb 1 i.threads p.some,
      le-leb i.threads 16 p.threads_most,
      eq-eqb (length i.kind) (length i.thread) p.kinds,
      eq-eqb (length i.sample) (length i.thread) p.samples,
      le-leb (length i.thread) 128 p.few,
      lowest_none (unfit_at i.threads i.thread i.kind i.sample) (length i.thread) p.fit,
    )
