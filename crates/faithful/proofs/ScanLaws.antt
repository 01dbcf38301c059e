-- The steps of a take's passes over the slots: each shows the bench's step. Assumes nothing.
use mathlib.Core.Path.{◌≡◌, refl, sym, ap, ◌∙◌}
use mathlib.Core.Bool.{Bool, true, false, cond}
use Prim.Native.Nat.{ℕ, zero, suc, ◌+◌, ◌<◌}
use native.Mathlib.Omega.{arith}
use lib.Dec.{ltb}
use lib.IntN.{ℤ}
use lib.ListN.{length, get_or}
use borrow.Author.Tests.{ltb-true, ltb-false, eq-eqb, ne_eqb}
use Rattle.history.proofs.PrecedenceLists.{length_snoc}
use Rattle.machine.specs.declared.Phase.TheVariants as P
use Rattle.machine.specs.Bench.{Slot, Empty, Filled, Bench, back, worker_at, in_phase, moved, pass, swaps}
use Rattle.machine.specs.StepCounts.{met, missed_last}
use Rattle.machine.specs.Shown.{mark}
use Rattle.machine.proofs.RunLaws.{run_room, slots_length, slot_held, finds_most, thread_scanning}
use Rattle.stepping.specs.declared.Doing.TheVariants.{CalledTake, Scanning, Holding}
use Rattle.stepping.specs.Twins.{World, acted, begun, passed, swapped}
use Rattle.faithful.proofs.ShowLaws.{marked_set, found_grow}
use Rattle.faithful.proofs.StageLaws.{Setting, table_in, RunIn, DoesIn, Stage, turn_from, Goes, go_on, move}

module _ (I : Setting) (B : Bench) (w : World) (t : ℕ) (g : Stage I B w t) where
  -- phase 4, by the reservation count
  pub from_called_take : (o b : ℕ) → w.state.counts.back ≡ b → DoesIn I (CalledTake o) (worker_at B t)
      → Goes I B w t P.CalledTake (moved B t (in_phase (worker_at B t) (pass b))) (turn_from I w t (CalledTake o))
  unfolding acted begun
  from_called_take o zero e d =
      rw (eq-eqb w.state.counts.back 0 e) (record {
        shows = move I B w t g w.state.counts.idle w.state.counts.stores w.state.counts.swaps w.state.counts.fruitless (CalledTake o) (in_phase (worker_at B t) P.CalledTake)
            (record { phase = refl; current = d.current; heads = d.heads });
        counted = omega arith;
      })
  from_called_take o (suc b) e d =
      rw (ne_eqb w.state.counts.back 0 (λ f. absurd (omega arith))) (record {
        shows = move I B w t g w.state.counts.idle w.state.counts.stores w.state.counts.swaps w.state.counts.fruitless (Scanning 0 w.state.counts.back o) (in_phase (worker_at B t) (P.Scanning 0 (suc b)))
            (record { phase = ap (P.Scanning 0) (sym e); current = d.current; heads = d.heads });
        counted = omega arith;
      })

  -- phase 5: the slot's mark says whether it is empty
  module _ (j b o : ℕ) (d : DoesIn I (Scanning j b o) (worker_at B t)) where
    -- the pass stands below its end, which is no higher than the reservation count
    within : (j < back B) × (j < b) × (j < 64)
    within =
        let k = thread_scanning (table_in I) I.threads I.slots B g.run t g.named j b d.phase in
        let le = run_room (table_in I) I.threads I.slots g.room.puts B g.run in
        (omega (arith, k.0, k.1), k.0, omega (arith, k.0, k.1, g.room.small))

    -- whether that was the pass's last slot
    last_slot : (more : Bool) → ltb (j + 1) b ≡ more → missed_last j b Empty ≡ cond more 0 1
    last_slot true e = rw (ne_eqb (j + 1) b (λ f. absurd (omega (arith, ltb-true (j + 1) b e))))
    last_slot false e = rw (eq-eqb (j + 1) b (omega (arith, ltb-false (j + 1) b e, within.1)))

    -- nothing there: the next slot, or the end of the pass
    from_miss : get_or B.slots j Empty ≡ Empty → (more : Bool) → ltb (j + 1) b ≡ more
        → Goes I B w t (P.Scanning j b) (moved B t (in_phase (worker_at B t) (cond more (P.Scanning (j + 1) b) P.CalledTake))) (turn_from I w t (Scanning j b o))
    unfolding acted swapped passed
    from_miss z true e =
        let bare : get_or w.state.marks j 0 ≡ 0 = g.shows.marked.same j ∙ ap mark z in
        rw (bare, e) (record {
          shows = move I B w t g w.state.counts.idle w.state.counts.stores (w.state.counts.swaps + 1) w.state.counts.fruitless (Scanning (j + 1) b o) (in_phase (worker_at B t) (P.Scanning (j + 1) b))
              (record { phase = refl; current = d.current; heads = d.heads });
          counted = omega (arith, ap met z, ap (missed_last j b) z, last_slot true e);
        })
    from_miss z false e =
        let bare : get_or w.state.marks j 0 ≡ 0 = g.shows.marked.same j ∙ ap mark z in
        rw (bare, e) (record {
          shows = move I B w t g w.state.counts.idle w.state.counts.stores (w.state.counts.swaps + 1) (w.state.counts.fruitless + 1) (CalledTake o) (in_phase (worker_at B t) P.CalledTake)
              (record { phase = refl; current = d.current; heads = d.heads });
          counted = omega (arith, ap met z, ap (missed_last j b) z, last_slot false e);
        })

    -- one find more is still no more than the reservations
    free : (x : ℤ) → RunIn I (swaps B t (worker_at B t) j b (Filled x)) → length B.finds < 64
    free x after =
        let le = run_room (table_in I) I.threads I.slots g.room.puts B g.run in
        omega (arith, finds_most (table_in I) I.threads I.slots (swaps B t (worker_at B t) j b (Filled x)) after, length_snoc B.finds ((worker_at B t).current, get_or B.reservations j 0), g.room.small)

    -- a sample there: it is that of the put that reserved the slot
    from_hit : (x : ℤ) → get_or B.slots j Empty ≡ Filled x → RunIn I (swaps B t (worker_at B t) j b (Filled x))
        → Goes I B w t (P.Scanning j b) (swaps B t (worker_at B t) j b (Filled x)) (turn_from I w t (Scanning j b o))
    unfolding acted swapped
    from_hit x z after =
        let full : get_or w.state.marks j 0 ≡ 1 = g.shows.marked.same j ∙ ap mark z in
        let below : w.state.counts.finds < 64 = omega (arith, free x after, g.shows.found.count) in
        let own = (slot_held (table_in I) I.threads I.slots B g.run j x z).1 in
        let all = slots_length (table_in I) I.threads I.slots B g.run in
        let le = run_room (table_in I) I.threads I.slots g.room.puts B g.run in
        rw (full, g.shows.owned.same j within.0, ← own, d.current) (record {
          shows = record {
            written = g.shows.written;
            marked = marked_set B.slots w.state.marks j Empty within.2 (omega (arith, within.0)) g.shows.marked;
            owned = g.shows.owned;
            found = found_grow B.finds w.state.counts.finds w.state.takes w.state.puts o (get_or B.reservations j 0) (free x after) g.shows.found;
            busy = go_on I B w t g (Holding o x) (record { phase = P.Holding x; current = o; todo = (worker_at B t).todo }) (record { phase = refl; current = refl; heads = d.heads });
          };
          counted = omega (arith, ap met z, ap (missed_last j b) z);
        })

    -- by what the slot holds
    pub from_scanning : (z : Slot) → get_or B.slots j Empty ≡ z → RunIn I (swaps B t (worker_at B t) j b z)
        → Goes I B w t (P.Scanning j b) (swaps B t (worker_at B t) j b z) (turn_from I w t (Scanning j b o))
    from_scanning Empty e after = from_miss e (ltb (j + 1) b) refl
    from_scanning (Filled x) e after = from_hit x e after
