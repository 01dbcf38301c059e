-- The listing that the code makes of what a run shows is the listing of the bench. Assumes nothing.
use Rattle.std.specs.Prelude.{Ok}
use mathlib.Core.Path.{◌≡◌, refl, sym, ap, ◌∙◌}
use mathlib.Core.Bool.{cond}
use mathlib.Core.List.{List, [], ◌∷◌, ◌++◌, map, append_assoc, append-nil}
use Prim.Native.Nat.{ℕ, zero, suc, ◌+◌, ◌*◌, ◌/◌, ◌<◌}
use native.Mathlib.Nat.{zero-add, add-zero, add-suc, suc-add}
use native.Mathlib.Omega.{arith}
use lib.Dec.{eqb}
use lib.IntN.{pos}
use lib.ListN.{length, get_or, length-map, get_or-map}
use Rattle.limits.specs.Operations.{Table, Input, table}
use Rattle.limits.specs.Refusals.{input_refusal}
use Rattle.limits.proofs.PassLaws.{input_passed}
use Rattle.history.specs.History.{Event, call, ret, code_of, beside, answer, event_of}
use Rattle.history.proofs.HistoryLaws.{Right}
use Rattle.history.proofs.CodeLaws.{event_call, event_ret}
use Rattle.history.proofs.PrecedenceLists.{all_get_or}
use Rattle.machine.specs.declared.ThreadRecord.{ThreadRecord}
use Rattle.machine.specs.Bench.{Bench, Slot, Empty, Filled, Worker, idler}
use Rattle.machine.specs.Shown.{codes, samples, order, mark, held, records}
use Rattle.machine.proofs.RunLaws.{Run, history_right}
use Rattle.run.specs.Run.{bench_after, summary_of}
use Rattle.run.proofs.PassedLaws.{passed_run}
use Rattle.lines.specs.Lines.{lines_from, event_line, order_line, slot_line, thread_line, count_lines, listing_of}
use Rattle.numerals.specs.Decimal.{decimal}
use Rattle.numerals.specs.Words.{bytes, line}
use Rattle.listing.specs.declared.parts.Shown.{Shown}
use Rattle.listing.specs.Listing.{listing_text}
use Rattle.listing.specs.Twins.{upto, event_at, order_at, slot_at, thread_at, listing_by}

-- ---- texts by index

-- texts that are equal at each index are equal in a row
pub upto_same : (g h : ℕ → List ℕ) (n : ℕ) → ((i : ℕ) → i < n → g i ≡ h i) → upto g n ≡ upto h n
unfolding upto
upto_same g h zero same = refl
upto_same g h (suc n) same = λ k. upto_same g h n (λ i lt. same i (omega arith)) k ++ same n (omega arith) k

-- the first text may be taken off
upto_cons : (g : ℕ → List ℕ) (n : ℕ) → upto g (suc n) ≡ g 0 ++ upto (λ i. g (suc i)) n
unfolding upto
upto_cons g zero = sym (append-nil (g 0))
upto_cons g (suc n) = ap (λ (w : List ℕ). w ++ g (suc n)) (upto_cons g n) ∙ append_assoc (g 0) (upto (λ i. g (suc i)) n) (g (suc n))

module _ {A : Type 0} (f : ℕ → A → List ℕ) (d : A) where
  lines_from_lem : (k : ℕ) (l : List A) → lines_from f k l ≡ upto (λ i. f (k + i) (get_or l i d)) (length l)
  unfolding lines_from upto
  lines_from_lem k [] = refl
  lines_from_lem k (x ∷ l) =
      (λ j. f (sym (add-zero k) j) x ++ (lines_from_lem (suc k) l ∙ upto_same (λ i. f (suc k + i) (get_or l i d)) (λ i. f (k + suc i) (get_or l i d)) (length l) (λ i lt. ap (λ (m : ℕ). f m (get_or l i d)) (suc-add k i ∙ sym (add-suc k i)))) j)
      ∙ sym (upto_cons (λ i. f (k + i) (get_or (x ∷ l) i d)) (length l))

  -- the lines of a list, entry by entry
  pub lines_upto : (l : List A) → lines_from f 0 l ≡ upto (λ i. f i (get_or l i d)) (length l)
  lines_upto l = lines_from_lem 0 l ∙ upto_same (λ i. f (0 + i) (get_or l i d)) (λ i. f i (get_or l i d)) (length l) (λ i lt. ap (λ (m : ℕ). f m (get_or l i d)) (zero-add i))

  -- from another view of the same entries
  lines_by : (g : ℕ → List ℕ) (n : ℕ) (l : List A) → length l ≡ n → ((i : ℕ) → i < n → g i ≡ f i (get_or l i d)) → upto g n ≡ lines_from f 0 l
  lines_by g n l e same = upto_same g (λ i. f i (get_or l i d)) n same ∙ ap (upto (λ i. f i (get_or l i d))) (sym e) ∙ sym (lines_upto l)

-- ---- entries as they are shown

-- an event is known by its code and the sample beside it
pub event_shown : (T : Table) (e : Event) → Right T e → event_of T (code_of e) (beside e) ≡ e
event_shown T (call o) r =
    let h : (2 * o) / 2 ≡ o = omega arith in
    event_call T (2 * o) (pos 0) (omega arith) ∙ ap call h
event_shown T (ret o a) r =
    let h : (2 * o + 1) / 2 ≡ o = omega arith in
    event_ret T (2 * o + 1) (beside (ret o a)) (λ e. omega arith) ∙ ap (λ (p : ℕ). ret p (answer (T.kind p) (beside (ret o a)))) h ∙ ap (ret o) (sym r)

-- a slot by its mark and its sample
slot_shown : (s : Slot) → cond (eqb (mark s) 0) Empty (Filled (held s)) ≡ s
slot_shown Empty = refl
slot_shown (Filled x) = refl

-- ---- the whole

-- a struct shows the bench after the schedule of an input
pub record Shows (i : Input) (s : Shown) : Type 0 where
  pub summary : s.summary ≡ summary_of i
  pub kind : s.kind.now ≡ i.kind
  pub codes : s.codes.now ≡ codes (bench_after i)
  pub values : s.values.now ≡ samples (bench_after i)
  pub order : s.order.now ≡ order (bench_after i)
  pub marks : s.marks.now ≡ map mark (bench_after i).slots
  pub held : s.held.now ≡ map held (bench_after i).slots
  pub records : s.records.now ≡ records (bench_after i)

module _ (i : Input) (pass : input_refusal i ≡ Ok tt) where
  abbrev B : Bench
  B = bench_after i

  event_lines : upto (event_at i.kind (codes B) (samples B)) (length (codes B)) ≡ lines_from (λ k e. event_line e) 0 B.history
  event_lines =
      let T = table i in
      let run : Run T i.threads i.slots B = passed_run i (input_passed i pass) in
      let few : length B.history ≡ length (codes B) = sym (length-map B.history code_of) in
      lines_by (λ k e. event_line e) (call 0) (event_at i.kind (codes B) (samples B)) (length (codes B)) B.history few
      (λ k lt. (λ j. event_line (event_of T (get_or-map code_of B.history k (call 0) j) (get_or-map beside B.history k (call 0) j)))
      ∙ ap event_line (event_shown T (get_or B.history k (call 0)) (all_get_or (Right T) B.history (call 0) (history_right T i.threads i.slots B run) k (omega (arith, few)))))

  order_lines : upto (order_at (order B)) (length (order B)) ≡ lines_from (λ k o. order_line o) 0 (order B)
  order_lines = lines_by (λ k o. order_line o) 0 (order_at (order B)) (length (order B)) (order B) refl (λ k lt. refl)

  slot_lines : upto (slot_at (map mark B.slots) (map held B.slots)) (length (map mark B.slots)) ≡ lines_from slot_line 0 B.slots
  slot_lines =
      lines_by slot_line Empty (slot_at (map mark B.slots) (map held B.slots)) (length (map mark B.slots)) B.slots (sym (length-map B.slots mark))
      (λ k lt. (λ j. slot_line k (cond (eqb (get_or-map mark B.slots k Empty j) 0) Empty (Filled (get_or-map held B.slots k Empty j)))) ∙ ap (slot_line k) (slot_shown (get_or B.slots k Empty)))

  thread_lines : upto (thread_at (records B)) (length (records B)) ≡ lines_from (λ t w. thread_line t w.phase) 0 B.workers
  thread_lines =
      let shown : Worker → ThreadRecord = λ w. record { phase = w.phase } in
      lines_by (λ t w. thread_line t w.phase) idler (thread_at (records B)) (length (records B)) B.workers (sym (length-map B.workers shown))
      (λ k lt. ap (λ (r : ThreadRecord). thread_line k r.phase) (get_or-map shown B.workers k idler))

  pub listing_same : (s : Shown) → Shows i s → listing_by s ≡ listing_text i
  unfolding listing_by listing_text listing_of summary_of
  listing_same s x =
      (λ j. line (bytes "back" ∷ decimal (x.summary j).back ∷ [])
      ++ (upto (event_at (x.kind j) (x.codes j) (x.values j)) (length (x.codes j))
      ++ (upto (order_at (x.order j)) (length (x.order j))
      ++ (upto (slot_at (x.marks j) (x.held j)) (length (x.marks j))
      ++ (upto (thread_at (x.records j)) (length (x.records j)) ++ count_lines (x.summary j))))))
      ∙ (λ j. line (bytes "back" ∷ decimal (summary_of i).back ∷ []) ++ (event_lines j ++ (order_lines j ++ (slot_lines j ++ (thread_lines j ++ count_lines (summary_of i))))))
