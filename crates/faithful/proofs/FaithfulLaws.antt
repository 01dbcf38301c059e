-- A run of the code shows the bench of the document after the schedule, and counts what the document counts. Assumes nothing.
--   Totals     what a schedule adds to the counts
--   faithful   the whole, for every input that passes refusals 1 to 8 with room for two events an operation
use mathlib.Core.Path.{◌≡◌, refl, sym, ap, ◌∙◌}
use Rattle.std.specs.Prelude.{Option, None}
use mathlib.Core.List.{List, [], ◌∷◌}
use Prim.Native.Nat.{ℕ, zero, suc, ◌+◌, ◌*◌, ◌≤◌, ◌<◌}
use native.Mathlib.Nat.{zero-add, add-zero, suc-add, add-suc}
use native.Mathlib.Omega.{arith}
use lib.IntN.{ℤ, pos}
use lib.ListN.{length, get_or, replicate, length-replicate, length-map, get_or-map}
use Rattle.limits.specs.Lists.{All}
use Rattle.limits.specs.Operations.{Table, table_of, input_of}
use Rattle.limits.proofs.PassLaws.{Passed, fit_thread}
use Rattle.history.specs.History.{code_of, beside}
use Rattle.history.proofs.ListLaws.{clash}
use Rattle.history.proofs.PrecedenceLists.{all_of_get_or}
use Rattle.machine.specs.declared.Phase.TheVariants as P
use Rattle.machine.specs.Bench.{Empty, Bench, idler, step, own_from, resting, start, played}
use Rattle.machine.specs.StepCounts.{over, idle_step, store_step, swap_step, find_step, fruitless_step}
use Rattle.machine.specs.Shown.{mark}
use Rattle.machine.proofs.RunLaws.{run_start, run_step, puts_fit}
use Rattle.stepping.specs.declared.Counts.{Counts}
use Rattle.stepping.specs.declared.Doing.TheVariants.{Rest}
use Rattle.stepping.specs.Twins.{World, step_world, run_world, world_of, start_state, play_run}
use Rattle.stepping.specs.PlanTwin.{plan_from}
use Rattle.faithful.specs.Views.{Faithful}
use Rattle.faithful.proofs.ShowLaws.{Shows}
use Rattle.faithful.proofs.PlanLaws.{Planned, planned_from}
use Rattle.faithful.proofs.StageLaws.{Setting, table_in, Roomy, RunIn, ShowsIn}
use Rattle.faithful.proofs.StepLaws.{goes_step}

-- ---- at the start

-- a thread at rest has all its operations still to do
resting_at : (T : Table) (t n i : ℕ) → i < n → get_or (resting T t n) i idler ≡ record { phase = P.Rest; current = 0; todo = own_from T (t + i) 0 T.size }
unfolding resting
resting_at T t zero i lt = clash (omega arith)
resting_at T t (suc n) zero lt = rw (add-zero t)
resting_at T t (suc n) (suc i) lt = rw (resting_at T (suc t) n i (omega arith), suc-add, add-suc)

-- a list of one entry repeated has it everywhere, as no slot is filled and no mark set
everywhere : {A : Type 0} (d : A) (k i : ℕ) → get_or (replicate k d) i d ≡ d
everywhere d zero i = refl
everywhere d (suc k) zero = refl
everywhere d (suc k) (suc i) = everywhere d k i

-- the plan's chain of a thread is what its worker has to do
shows_start : (T : Table) (n m : ℕ) → n ≤ 16 → (first next : List (Option ℕ)) (cs : List ℕ) (vs : List ℤ) → Planned T 0 T.size first next
    → Shows next n cs vs (start T n m) (world_of (start_state first) cs vs)
unfolding start start_state
shows_start T n m few first next cs vs p = record {
  written = record { count = refl; codes = refl; values = refl };
  marked = record { size = length-replicate {A = ℕ} 64 0; same = λ i. everywhere {A = ℕ} 0 64 i ∙ ap mark (sym (everywhere Empty m i)) };
  owned = record { count = refl; size = length-replicate {A = ℕ} 64 0; same = λ i lt. clash (omega arith) };
  found = record { count = refl; takes_size = length-replicate {A = ℕ} 64 0; puts_size = length-replicate {A = ℕ} 64 0; takes = refl; puts = refl };
  busy = record {
    all = length-map first Rest ∙ p.firsts;
    does = λ t lt. rw (get_or-map Rest first t None, resting_at T 0 n t lt, zero-add) (record { phase = refl; current = tt; heads = p.chains t (omega arith) });
  };
}

-- an input that passes is planned: no operation's thread is 16 or more
plan_passed : (n m : ℕ) (thread kind : List ℕ) (sample : List ℤ) (schedule : List ℕ) → Passed (input_of n m thread kind sample schedule)
    → Planned (table_of thread kind sample) 0 (length thread) (plan_from 0 thread).first (plan_from 0 thread).next
plan_passed n m thread kind sample schedule p = planned_from (table_of thread kind sample) p.few 0 thread (zero-add (length thread)) named
  where
    named : (i : ℕ) → i < length thread → (get_or thread (0 + i) 0 ≡ get_or thread i 0) × (get_or thread i 0 < 16)
    named i lt = (rw zero-add, omega (arith, p.threads_most, fit_thread n (get_or thread i 0) (get_or kind i 0) (get_or sample i (pos 0)) (p.fit i lt)))

-- ---- a schedule

-- from the bench B, over a schedule, counts c become c'
pub record Totals (T : Table) (B : Bench) (schedule : List ℕ) (c c' : Counts) : Type 0 where
  pub idle : c'.idle ≡ c.idle + over idle_step T B schedule
  pub stores : c'.stores ≡ c.stores + over store_step T B schedule
  pub swaps : c'.swaps ≡ c.swaps + over swap_step T B schedule
  pub finds : c'.finds ≡ c.finds + over find_step T B schedule
  pub fruitless : c'.fruitless ≡ c.fruitless + over fruitless_step T B schedule

-- step by step: each shows the bench's, and adds what it counts for
run_shows : (I : Setting) → Roomy I → (schedule : List ℕ) → All (λ t. t < I.threads) schedule → (B : Bench) (w : World) → RunIn I B → ShowsIn I B w
    → ShowsIn I (played (table_in I) B schedule) (run_world I.kind I.sample I.next w schedule)
    × Totals (table_in I) B schedule w.state.counts (run_world I.kind I.sample I.next w schedule).state.counts
unfolding played run_world over
run_shows I room [] named B w r s = (s, omega arith)
run_shows I room (t ∷ schedule) named B w r s =
    let g = goes_step I B w t (record { room = room; run = r; shows = s; named = named.0 }) in
    let after = run_step (table_in I) I.threads I.slots room.puts B t named.0 r in
    let k = run_shows I room schedule named.1 (step (table_in I) B t) (step_world I.kind I.sample I.next w t) after g.shows in
    (k.0, omega (arith, g.counted, k.1))

-- what is shown at the end, and what was counted on the way
faithful_of : (T : Table) (n m : ℕ) (schedule : List ℕ) (S B : Bench) (next : List (Option ℕ)) (cs : List ℕ) (vs : List ℤ) (c : Counts) (w : World)
    → Shows next n cs vs B w → Totals T S schedule c w.state.counts → (c.idle + c.stores + c.swaps + c.finds + c.fruitless ≡ 0) → Faithful T n m schedule S B cs vs w
faithful_of T n m schedule S B next cs vs c w s k none = record {
  codes = rw (length-map B.history code_of) s.written.codes;
  values = rw (length-map B.history beside) s.written.values;
  phases = λ t lt. sym (s.busy.does t lt).phase;
  marks = λ i lt. s.marked.same i;
  owners = s.owned.same;
  takes = s.found.takes;
  puts = s.found.puts;
  back = s.owned.count;
  events = s.written.count;
  idle = omega arith;
  stores = omega arith;
  swaps = omega arith;
  finds = omega arith;
  fruitless = omega arith;
}

-- ---- the whole

-- the world at the start shows the bench at the start, each step keeps that, and at the end it is read off
pub faithful : (threads slots : ℕ) (thread kind : List ℕ) (sample : List ℤ) (schedule : List ℕ) → Passed (input_of threads slots thread kind sample schedule)
    → (cs : List ℕ) (vs : List ℤ) → 2 * length thread ≤ length cs → 2 * length thread ≤ length vs
    → Faithful (table_of thread kind sample) threads slots schedule (start (table_of thread kind sample) threads slots)
    (played (table_of thread kind sample) (start (table_of thread kind sample) threads slots) schedule) cs vs
    (play_run (input_of threads slots thread kind sample schedule) cs vs)
unfolding play_run start_state
faithful n m thread kind sample schedule p cs vs lc lv =
    let next = (plan_from 0 thread).next in
    let I : Setting = record { thread = thread; kind = kind; sample = sample; threads = n; slots = m; next = next; cs = cs; vs = vs } in
    let room : Roomy I = record { kinds = p.kinds; few = p.threads_most; small = p.slots_most; puts = puts_fit thread kind sample p.kinds m p.puts; codes = lc; values = lv } in
    let S : Bench = start (table_in I) n m in
    let w : World = world_of (start_state (plan_from 0 thread).first) cs vs in
    let s : ShowsIn I S w = shows_start (table_in I) n m p.threads_most (plan_from 0 thread).first next cs vs (plan_passed n m thread kind sample schedule p) in
    let k = run_shows I room schedule (all_of_get_or (λ t. t < n) schedule 0 p.named) S w (run_start (table_in I) n m) s in
    faithful_of (table_in I) n m schedule S (played (table_in I) S schedule) next cs vs w.state.counts (run_world kind sample next w schedule) k.0 k.1 refl
