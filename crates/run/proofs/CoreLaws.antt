-- A run that was refused says so and changes nothing; a run that was played says what the bench after its schedule shows. Assumes nothing.
use Rattle.std.specs.Prelude.{Option, Result, Err, Ok, unwrap_or}
use mathlib.Core.Path.{◌≡◌, refl, sym, ap, ◌∙◌, subst}
use mathlib.Core.Bool.{Bool, true, false, ◌&&◌, and-true, and-false, and_assoc}
use mathlib.Core.List.{List, ◌++◌, map}
use Prim.Native.Nat.{ℕ, ◌+◌, ◌*◌, ◌≤◌, ◌<◌}
use native.Mathlib.Omega.{arith}
use lib.Dec.{leb}
use lib.IntN.{ℤ, pos}
use lib.ListN.{length, get_or, take, drop, replicate, length-map, length-append}
use lib.Seq.{take_at}
use Rattle.limits.specs.declared.Refusal.{Refusal}
use Rattle.limits.specs.declared.Refusal.TheVariants.{Room}
use Rattle.limits.specs.Lists.{over}
use Rattle.limits.specs.Operations.{Table, Input, table}
use Rattle.limits.specs.Refusals.{Fit, input_refusal, and_then, unless, by_fit}
use Rattle.limits.proofs.FitLaws.{in_numbers}
use Rattle.limits.proofs.PassLaws.{Passed}
use Rattle.history.specs.History.{code_of}
use Rattle.history.proofs.ListLaws.{all_imp}
use Rattle.history.proofs.PrecedenceLists.{sub_length, below, length_below, mem_below}
use Rattle.order.proofs.StoreLaws.{sets_front}
use Rattle.order.proofs.ListingLaws.{takes_of, puts_of, listed_in_room, listed_length}
use Rattle.machine.specs.declared.ThreadRecord.{ThreadRecord}
use Rattle.machine.specs.Bench.{Bench, Slot, Empty, Filled, idler, back, start}
use Rattle.machine.specs.Shown.{codes, order, mark, held, unfound}
use Rattle.machine.proofs.RunLaws.{Run, run_room, workers_length, slots_length, slot_held, history_sound, finds_most, finds_count}
use Rattle.machine.proofs.CountedLaws.{idle_counted, stores_counted, swaps_counted, finds_counted, fruitless_counted}
use Rattle.machine.proofs.DemandLaws.{listed_called, run_once}
use Rattle.stepping.specs.declared.State.{State}
use Rattle.stepping.specs.Twins.{World, world_of, Played, played, played_to, play_run, play_fit, play_twin}
use Rattle.faithful.specs.Views.{Faithful}
use Rattle.faithful.proofs.FaithfulLaws.{faithful}
use Rattle.run.specs.declared.Ran.{Ran}
use Rattle.run.specs.Run.{Lists, lists_of, run_fit, bench_after, summary_of}
use Rattle.run.specs.Core.{rest_record, records_after, core_of, RunSays}
use Rattle.run.specs.FinalTwin.{tab, record_at, shown_threads, held_at, gathered, listed_by, ordered_by, rest_room, Concludes, concluded, Concluded}
use Rattle.run.proofs.PassedLaws.{passed_most, passed_named, passed_run, passed_ordered}
use Rattle.run.proofs.FitLaws.{fit_passed, Rooms, fit_rooms, fit_ran, ran_fit, ran_summary}
use Rattle.run.proofs.ShownLaws.{tab_map, held_as_lem, gathered_unfound}
use Rattle.run.proofs.OnlyLaws.{lists_same}

-- ---- the same six tests of room, in two orders

room_order : (a b c d e f : Bool) → ((c && (d && (e && f))) && (a && b)) ≡ (a && b && c && d && e && f)
room_order true true c d e f = and-true (c && (d && (e && f))) ∙ sym (ap (λ x. x && f) (and_assoc c d e) ∙ and_assoc c (d && e) f ∙ ap (λ x. c && x) (and_assoc d e f))
room_order true false c d e f = and-false (c && (d && (e && f)))
room_order false b c d e f = and-false (c && (d && (e && f)))

module _ (i : Input) (l : Lists) (room : ℕ) where
  abbrev T : Table
  T = table i

  abbrev B : Bench
  B = bench_after i

  abbrev roomy : Bool
  roomy = rest_room i l room

  abbrev twin : Played
  twin = play_twin i roomy l.codes l.samples

  -- the code's refusal is the document's
  fit_same : play_fit i roomy l.codes l.samples ≡ run_fit i l room
  unfolding play_fit run_fit
  fit_same = ap (λ (b : Bool). and_then (input_refusal i) (unless b Room (Ok tt)))
      (room_order (leb (2 * length i.thread) (length l.codes)) (leb (2 * length i.thread) (length l.samples)) (leb (length i.thread) (length l.order)) (leb i.slots (length l.marks)) (leb i.slots (length l.held)) (leb i.threads room))

  -- what was answered tells the refusal, and what stands in the lists of events
  module _ (r : Result State Refusal) (cs : List ℕ) (vs : List ℤ) (ran : played r cs vs ≡ twin) where
    abbrev w : World
    w = play_run i l.codes l.samples

    by : played r cs vs ≡ by_fit (run_fit i l room) (played_to w) (λ x. played (Err x) l.codes l.samples)
    unfolding play_twin
    by = ran ∙ ap (λ (f : Fit). by_fit f (played_to w) (λ x. played (Err x) l.codes l.samples)) fit_same

    answered : r ≡ by_fit (run_fit i l room) (Ok w.state) Err
    answered = ap (λ (p : Played). p.answer) by ∙ in_numbers (λ (p : Played). p.answer) (run_fit i l room) (played_to w) (λ x. played (Err x) l.codes l.samples)

    told : run_fit i l room ≡ fit_ran r
    told = ran_fit w.state (run_fit i l room) answered

  -- ---- refused: the lists are as they were

  pub says_refused : (r : Refusal) (cs : List ℕ) (vs : List ℤ) → played (Err r) cs vs ≡ twin → RunSays i l (lists_of cs vs l.order l.marks l.held) room (Err r)
  says_refused r cs vs ran =
      let e : run_fit i l room ≡ Err r = told (Err r) cs vs ran in
      let h = rw e at (by (Err r) cs vs ran) in
      record { answer = rw e; lists = rw e (ap (λ (p : Played). lists_of p.codes p.values l.order l.marks l.held) h) }

  -- ---- played

  module _ (s : State) (cs : List ℕ) (vs : List ℤ) (ran : played (Ok s) cs vs ≡ twin) where
    fits : run_fit i l room ≡ Ok tt
    fits = told (Ok s) cs vs ran

    reached : world_of s cs vs ≡ play_run i l.codes l.samples
    reached =
        let h = rw fits at (by (Ok s) cs vs ran) in
        let same : s ≡ (play_run i l.codes l.samples).state = ran_summary (play_run i l.codes l.samples).state (run_fit i l room) (answered (Ok s) cs vs ran) in
        λ j. world_of (same j) (h j).codes (h j).values

    passed : Passed i
    passed = fit_passed i l room fits

    rooms : Rooms i l room
    rooms = fit_rooms i l room fits

    run : Run T i.threads i.slots B
    run = passed_run i passed

    -- the order lists no operation twice, so it has room
    order_low : length (order B) ≤ length i.thread
    order_low =
        let o = passed_ordered i passed in
        omega (
          arith,
          length_below (length i.thread),
          sub_length (order B) (below (length i.thread)) (run_once T i.threads i.slots B run o)
              (all_imp (λ p c. mem_below (length i.thread) p ((history_sound T i.threads i.slots B run).small p c)) (order B) (listed_called T i.threads i.slots B run o)),
        )

    finds_low : length B.finds ≤ 64
    finds_low = omega (arith, finds_most T i.threads i.slots B run, run_room T i.threads i.slots (passed_most i passed) B run, passed.slots_most)

    shows : Faithful T i.threads i.slots i.schedule (start T i.threads i.slots) B l.codes l.samples (world_of s cs vs)
    shows = subst (λ (w : World). Faithful T i.threads i.slots i.schedule (start T i.threads i.slots) B l.codes l.samples w) (sym reached)
        (faithful i.threads i.slots i.thread i.kind i.sample i.schedule passed l.codes l.samples rooms.codes rooms.samples)

    count : s.counts.finds ≡ length B.finds
    count = shows.finds ∙ finds_count T i.threads i.slots i.schedule

    event_codes : take s.counts.events cs ≡ codes B
    event_codes = ap (take s.counts.events) shows.codes ∙ take_at (codes B) (drop (length (codes B)) l.codes) s.counts.events (length-map B.history code_of ∙ sym shows.events)

    take_row : take s.counts.finds s.takes ≡ takes_of B.finds
    take_row = ap (λ (k : ℕ). take k s.takes) count ∙ shows.takes

    put_row : take s.counts.finds s.puts ≡ puts_of B.finds
    put_row = ap (λ (k : ℕ). take k s.puts) count ∙ shows.puts

    low : (k : ℕ) (x : ℤ) → get_or B.slots k Empty ≡ Filled x → k < back B
    low k x e = (slot_held T i.threads i.slots B run k x e).0

    other_row : gathered s.marks s.owners 0 i.slots ≡ unfound B.reservations B.slots
    other_row = gathered_unfound s.marks s.owners 0 i.slots B.reservations B.slots (slots_length T i.threads i.slots B run)
        (λ k lt. zero_plus s.marks k ∙ shows.marks k lt) (λ k lt. zero_plus s.owners k ∙ shows.owners k lt) low
      where
        zero_plus : (l : List ℕ) (k : ℕ) → get_or l (0 + k) 0 ≡ get_or l k 0
        zero_plus l k = let z : 0 + k ≡ k = omega arith in ap (λ (j : ℕ). get_or l j 0) z

    pub concludes : Concludes i s (lists_of cs vs l.order l.marks l.held)
    concludes = record {
      threads_most = passed.threads_most;
      slots_most = passed.slots_most;
      finds_most = rw count finds_low;
      events_low = omega (arith, shows.events, length-map B.history code_of, ap length shows.codes, length-append (codes B) (drop (length (codes B)) l.codes));
      marks_room = rooms.marks;
      held_room = rooms.held;
    }

    -- ---- what the end of the run shows

    fits_order : length B.finds + length B.finds + length (unfound B.reservations B.slots) ≤ length l.order
    fits_order = omega (arith, listed_length B.history B.finds (unfound B.reservations B.slots), order_low, rooms.order)

    listed : (listed_by s i.slots cs (length l.order) ≡ length (order B)) × (ordered_by s i.slots cs l.order ≡ over (order B) l.order)
    listed =
        let k = listed_in_room B.history B.finds (unfound B.reservations B.slots) l.order fits_order in (
          rw (event_codes, take_row, put_row, other_row) (ap (λ (n : Option ℕ). unwrap_or n 0) (sym k.0)),
          rw (event_codes, take_row, put_row, other_row) (sym k.1 ∙ sets_front l.order (order B) (length (order B)) refl (omega (arith, order_low, rooms.order))),
        )

    shown : shown_threads s.threads i.threads ≡ records_after i.threads B
    unfolding shown_threads records_after
    shown = ap (λ (rs : List ThreadRecord). rs ++ drop i.threads (replicate 16 rest_record))
        (tab_map _ idler B.workers i.threads (record_at s.threads) (workers_length T i.threads i.slots B run) (λ t lt. ap (λ p. record { phase = p }) (shows.phases t lt)))

    -- the first entries of a lent list, and how many they are
    over_slots : {A : Type 0} (g : Slot → A) (f : ℕ → A) (xs : List A) → ((k : ℕ) → k < i.slots → f k ≡ g (get_or B.slots k Empty)) → tab i.slots f ++ drop i.slots xs ≡ over (map g B.slots) xs
    over_slots {A} g f xs same =
        let n : length (map g B.slots) ≡ i.slots = length-map B.slots g ∙ slots_length T i.threads i.slots B run in
        ap (λ (x : List A). x ++ drop i.slots xs) (tab_map g Empty B.slots i.slots f (slots_length T i.threads i.slots B run) same) ∙ ap (λ (k : ℕ). map g B.slots ++ drop k xs) (sym n)

    held_same : (k : ℕ) → k < i.slots → held_at i.sample s.marks s.owners k ≡ held (get_or B.slots k Empty)
    held_same k lt = held_as_lem i.sample (get_or s.marks k 0) (get_or s.owners k 0) (get_or B.slots k Empty) (shows.marks k lt)
        (λ x e. (slot_held T i.threads i.slots B run k x e).1 ∙ ap (λ (o : ℕ). get_or i.sample o (pos 0)) (sym (shows.owners k (low k x e))))

    counted : concluded i s (length (order B)) ≡ core_of i
    unfolding summary_of
    counted = rw (
      shown,
      shows.events,
      shows.back,
      shows.idle ∙ idle_counted T i.threads i.slots (passed_most i passed) i.schedule (passed_named i passed),
      shows.stores ∙ stores_counted T i.threads i.slots (passed_most i passed) i.schedule (passed_named i passed),
      shows.swaps ∙ swaps_counted T i.threads i.slots (passed_most i passed) i.schedule (passed_named i passed),
      shows.finds ∙ finds_counted T i.threads i.slots (passed_most i passed) i.schedule (passed_named i passed),
      shows.fruitless ∙ fruitless_counted T i.threads i.slots (passed_most i passed) i.schedule (passed_named i passed),
    )

    pub says_ran : (m : Lists) (r : Ran) → Concluded i s (lists_of cs vs l.order l.marks l.held) m r → RunSays i l m room (Ok r)
    says_ran m r e = record {
      answer = rw (fits, e.answer, listed.0, counted);
      lists = rw fits (lists_same (e.codes ∙ shows.codes) (e.samples ∙ shows.values) (e.order ∙ listed.1) (e.marks ∙ over_slots mark (λ k. get_or s.marks k 0) l.marks shows.marks) (e.held ∙ over_slots held (held_at i.sample s.marks s.owners) l.held held_same));
    }
