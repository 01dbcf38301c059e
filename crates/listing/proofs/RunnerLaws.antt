-- From what a run says to what its listing says: the lists lent to the run are long enough, so that its refusals are those of the input. Assumes nothing.
use Rattle.std.specs.Prelude.{Err, Ok, Result}
use Rattle.limits.specs.Refusals.{Fit}
use mathlib.Core.Path.{◌≡◌, refl, sym, ap, ◌∙◌, subst}
use mathlib.Core.Bool.{true, ◌&&◌}
use mathlib.Core.List.{List, ◌++◌, map}
use Prim.Native.Nat.{ℕ, ◌*◌, ◌≤◌}
use native.Mathlib.Omega.{arith}
use borrow.Author.Tests.{le-leb}
use lib.IntN.{pos}
use lib.ListN.{length, take, replicate, length-append, length-map, length-replicate}
use lib.Seq.{take_at}
use Rattle.limits.specs.declared.Refusal.{Refusal}
use Rattle.limits.specs.declared.Refusal.TheVariants.{Room as NoRoom}
use Rattle.limits.specs.Operations.{Input, table}
use Rattle.limits.specs.Refusals.{input_refusal, and_then, unless, by_fit}
use Rattle.limits.proofs.PassLaws.{Passed, input_passed}
use Rattle.history.proofs.ListLaws.{clash}
use Rattle.history.specs.History.{code_of, beside}
use Rattle.machine.specs.Bench.{Bench, Worker}
use Rattle.machine.specs.Shown.{codes, samples, order, mark, held, records}
use Rattle.machine.proofs.RunLaws.{Run, slots_length, workers_length}
use Rattle.run.specs.declared.Summary.{Summary}
use Rattle.run.specs.declared.Ran.{Ran}
use Rattle.run.specs.Run.{Lists, lists_of, lists_after, has_room, run_fit, bench_after, summary_of}
use Rattle.run.specs.Core.{records_after, RunSays}
use Rattle.run.proofs.PassedLaws.{passed_run}
use Rattle.listing.specs.declared.parts.Shown.{Shown}
use Rattle.listing.specs.Listing.{listing_text, listing_fit, ListSays}
use Rattle.listing.specs.Twins.{listing_by, TextSays}
use Rattle.listing.proofs.ListingLaws.{Shows, listing_same}

-- the lists that a listing lends to its run
abbrev pub lent : Lists
lent = lists_of (replicate 256 0) (replicate 256 (pos 0)) (replicate 128 0) (replicate 64 0) (replicate 64 (pos 0))

-- an input that passes has room in them
roomy : (i : Input) → Passed i → has_room i lent 16 ≡ true
roomy i p =
    let c : 2 * length i.thread ≤ length lent.codes = omega (arith, length-replicate {A = ℕ} 256 0, p.few) in
    let v : 2 * length i.thread ≤ length lent.samples = omega (arith, length-replicate 256 (pos 0), p.few) in
    let o : length i.thread ≤ length lent.order = omega (arith, length-replicate {A = ℕ} 128 0, p.few) in
    let m : i.slots ≤ length lent.marks = omega (arith, length-replicate {A = ℕ} 64 0, p.slots_most) in
    let h : i.slots ≤ length lent.held = omega (arith, length-replicate 64 (pos 0), p.slots_most) in
    λ j. le-leb (2 * length i.thread) (length lent.codes) c j && le-leb (2 * length i.thread) (length lent.samples) v j && le-leb (length i.thread) (length lent.order) o j
    && le-leb i.slots (length lent.marks) m j && le-leb i.slots (length lent.held) h j && le-leb i.threads 16 p.threads_most j

-- so the run is refused for nothing but its input
pub fit_plain : (i : Input) → run_fit i lent 16 ≡ input_refusal i
unfolding run_fit
fit_plain i = go (input_refusal i) refl
  where
    go : (f : Fit) → input_refusal i ≡ f → and_then f (unless (has_room i lent 16) NoRoom (Ok tt)) ≡ f
    go (Ok u) e = rw (roomy i (input_passed i e))
    go (Err r) e = refl

-- a refused run has no listing
pub list_refused : {i : Input} {m : Lists} {r : Refusal} {made : Result ℕ Refusal} (t : List ℕ) → RunSays i lent m 16 (Err r) → made ≡ Err r → ListSays i t made t
unfolding listing_fit
list_refused {i} {m} {r} {made} t says same = go (run_fit i lent 16) (fit_plain i) says.answer
  where
    go : (f : Fit) → f ≡ input_refusal i → ◌≡◌ {A = Result Ran Refusal} (Err r) (by_fit f (Ok (record { summary = summary_of i; records = records_after i.threads (bench_after i) })) Err) → ListSays i t made t
    go (Ok u) e h = clash (cc)
    go (Err x) e h =
        let q : x ≡ r = cc in
        let k : input_refusal i ≡ Err r = sym e ∙ ap (λ (y : Refusal). Err y) q in
        record { answer = rw k same; bytes = rw k; short = λ p. clash (cc) }

-- ---- a run that was played

-- the first entries of a list are those that the run has
within : {A : Type 0} {now : List A} {n : ℕ} (ys zs : List A) → now ≡ ys ++ zs → n ≡ length ys → n ≤ length now
within ys zs e k = omega (arith, ap length e, length-append ys zs)

front : {A : Type 0} {now : List A} {n : ℕ} (ys zs : List A) → now ≡ ys ++ zs → n ≡ length ys → take n now ≡ ys
front ys zs e k = (λ j. take (k j) (e j)) ∙ take_at ys zs (length ys) refl

-- the input passes, each list has the entries that the run has, and those are what the bench shows
pub record Filled (i : Input) (m : Lists) (ran : Ran) : Type 0 where
  pub pass : input_refusal i ≡ Ok tt
  pub codes_in : ran.summary.events ≤ length m.codes
  pub values_in : ran.summary.events ≤ length m.samples
  pub order_in : ran.summary.order ≤ length m.order
  pub marks_in : i.slots ≤ length m.marks
  pub held_in : i.slots ≤ length m.held
  pub threads_in : i.threads ≤ 16
  pub summary : ran.summary ≡ summary_of i
  pub codes : take ran.summary.events m.codes ≡ codes (bench_after i)
  pub values : take ran.summary.events m.samples ≡ samples (bench_after i)
  pub order : take ran.summary.order m.order ≡ order (bench_after i)
  pub marks : take i.slots m.marks ≡ map mark (bench_after i).slots
  pub held : take i.slots m.held ≡ map held (bench_after i).slots
  pub records : take i.threads ran.records ≡ records (bench_after i)

module _ (i : Input) (m : Lists) (ran : Ran) (pass : input_refusal i ≡ Ok tt)
    (answer : ran ≡ record { summary = summary_of i; records = records_after i.threads (bench_after i) }) (lists : m ≡ lists_after (Ok tt) (bench_after i) lent) where
  abbrev B : Bench
  B = bench_after i

  bench : Run (table i) i.threads i.slots B
  bench = passed_run i (input_passed i pass)

  fills : Filled i m ran
  unfolding summary_of records_after
  fills =
      let summary : ran.summary ≡ summary_of i = ap (λ (r : Ran). r.summary) answer in
      let events : ran.summary.events ≡ length B.history = ap (λ (s : Summary). s.events) summary in
      let slots : i.slots ≡ length B.slots = sym (slots_length (table i) i.threads i.slots B bench) in
      let threads : i.threads ≡ length B.workers = sym (workers_length (table i) i.threads i.slots B bench) in
      let c = ap (λ (l : Lists). l.codes) lists in
      let v = ap (λ (l : Lists). l.samples) lists in
      let o = ap (λ (l : Lists). l.order) lists in
      let k = ap (λ (l : Lists). l.marks) lists in
      let h = ap (λ (l : Lists). l.held) lists in
      let few_codes : ran.summary.events ≡ length (codes B) = events ∙ sym (length-map B.history code_of) in
      let few_values : ran.summary.events ≡ length (samples B) = events ∙ sym (length-map B.history beside) in
      let few_listed : ran.summary.order ≡ length (order B) = ap (λ (s : Summary). s.order) summary in
      let few_marks : i.slots ≡ length (map mark B.slots) = slots ∙ sym (length-map B.slots mark) in
      let few_held : i.slots ≡ length (map held B.slots) = slots ∙ sym (length-map B.slots held) in
      record {
        pass = pass;
        codes_in = within _ _ c few_codes;
        values_in = within _ _ v few_values;
        order_in = within _ _ o few_listed;
        marks_in = within _ _ k few_marks;
        held_in = within _ _ h few_held;
        threads_in = (input_passed i pass).threads_most;
        summary = summary;
        codes = front _ _ c few_codes;
        values = front _ _ v few_values;
        order = front _ _ o few_listed;
        marks = front _ _ k few_marks;
        held = front _ _ h few_held;
        records = front _ _ (ap (λ (r : Ran). r.records) answer) (threads ∙ sym (length-map B.workers (λ (w : Worker). record { phase = w.phase })));
      }

pub filled : {i : Input} {m : Lists} {ran : Ran} → RunSays i lent m 16 (Ok ran) → Filled i m ran
filled {i} {m} {ran} says = go (run_fit i lent 16) (fit_plain i) says.answer says.lists
  where
    go : (f : Fit) → f ≡ input_refusal i → ◌≡◌ {A = Result Ran Refusal} (Ok ran) (by_fit f (Ok (record { summary = summary_of i; records = records_after i.threads (bench_after i) })) Err)
        → m ≡ lists_after f (bench_after i) lent → Filled i m ran
    go (Ok u) e h l = fills i m ran (sym e) (cc) l
    go (Err x) e h l = clash (cc)

-- what was filled is the listing
pub list_ran : {i : Input} {s : Shown} {t t' : List ℕ} {r : Result ℕ Refusal} → input_refusal i ≡ Ok tt → Shows i s → TextSays (listing_by s) t r t' → length (listing_by s) ≤ 12288 → ListSays i t r t'
unfolding listing_fit
list_ran {i} {s} {t} {t'} {r} pass shows says low =
    let same = listing_same i pass s shows in
    let w : TextSays (listing_text i) t r t' = subst (λ (x : List ℕ). TextSays x t r t') same says in
    record { answer = rw pass w.answer; bytes = rw pass w.bytes; short = λ p. subst (λ (x : List ℕ). length x ≤ 12288) same low }
