-- The steps from rest, of a put, and of a take that returns: each shows the bench's step. Assumes nothing.
use mathlib.Core.Path.{◌≡◌, refl, sym, ap}
use mathlib.Core.Bool.{Bool, true, false, cond}
use mathlib.Core.List.{List, [], ◌∷◌}
use mathlib.Core.Option.{none, some}
use Rattle.std.specs.Prelude.{Option, Some, None}
use Prim.Native.Nat.{ℕ, ◌<◌}
use native.Mathlib.Omega.{arith}
use lib.Dec.{eqb}
use lib.IntN.{ℤ}
use lib.ListN.{get_or}
use borrow.Author.Tests.{lt-ltb}
use Rattle.limits.specs.declared.Kind.TheVariants.{Put as putting, Take as taking}
use Rattle.history.specs.History.{call}
use Rattle.history.proofs.PrecedenceLists.{length_snoc}
use Rattle.machine.specs.declared.Phase.TheVariants as P
use Rattle.machine.specs.Bench.{Filled, Bench, back, worker_at, in_phase, first_phase, calls, reserves, stores, returns}
use Rattle.machine.proofs.RunLaws.{run_room, slots_length, history_length, thread_reserved}
use Rattle.stepping.specs.declared.Doing.TheVariants.{Rest, CalledPut, Reserved, Stored, CalledTake, Holding}
use Rattle.stepping.specs.Twins.{World, acted, called, reserved}
use Rattle.faithful.proofs.ShowLaws.{Heads, marked_set, owned_grow, busy_keep}
use Rattle.faithful.proofs.StageLaws.{Setting, table_in, RunIn, DoesIn, Stage, turn_from, Goes, go_on, note, give_back}

-- a called operation begins as its kind says
first_does : (I : Setting) (o : ℕ) (todo : List ℕ) → Heads I.next (get_or I.next o None) todo
    → (b : Bool) → DoesIn I (cond b (CalledPut o) (CalledTake o)) (record { phase = first_phase (cond b putting taking); current = o; todo = todo })
first_does I o todo h true = record { phase = refl; current = refl; heads = h }
first_does I o todo h false = record { phase = refl; current = refl; heads = h }

module _ (I : Setting) (B : Bench) (w : World) (t : ℕ) (g : Stage I B w t) where
  -- phase 0 with nothing left: the chain has ended
  from_idle : (worker_at B t).todo ≡ [] → DoesIn I (Rest None) (worker_at B t) → Goes I B w t P.Rest B (turn_from I w t (Rest None))
  unfolding acted called
  from_idle left d = record {
    shows = record {
      written = g.shows.written;
      marked = g.shows.marked;
      owned = g.shows.owned;
      found = g.shows.found;
      busy = busy_keep I.next I.threads B.workers w.state.threads g.room.few g.shows.busy t g.named (Rest None) d;
    };
    counted = rw left (omega arith);
  }

  -- phase 0 with an operation left: it is the head of the chain
  from_call : (q : ℕ) (todo : List ℕ) → (worker_at B t).todo ≡ q ∷ todo → Heads I.next (get_or I.next q None) todo → RunIn I (calls (table_in I) B t (q ∷ todo))
      → Goes I B w t P.Rest (calls (table_in I) B t (q ∷ todo)) (turn_from I w t (Rest (Some q)))
  unfolding acted called
  from_call q todo left h after = record {
    shows = record {
      written = note I B w t g (call q) (history_length (table_in I) I.threads I.slots (calls (table_in I) B t (q ∷ todo)) after);
      marked = g.shows.marked;
      owned = g.shows.owned;
      found = g.shows.found;
      busy = let b : Bool = eqb (get_or I.kind q 0) 1 in
          go_on I B w t g (cond b (CalledPut q) (CalledTake q)) (record { phase = first_phase (cond b putting taking); current = q; todo = todo }) (first_does I q todo h b);
    };
    counted = rw left (omega arith);
  }

  -- phase 0, by what is left to do
  pub from_rest : (o : Option ℕ) (todo : List ℕ) → (worker_at B t).todo ≡ todo → Heads I.next o todo → DoesIn I (Rest o) (worker_at B t) → RunIn I (calls (table_in I) B t todo)
      → Goes I B w t P.Rest (calls (table_in I) B t todo) (turn_from I w t (Rest o))
  from_rest o [] left h d after = rw h (from_idle left (rw h at d))
  from_rest o (q ∷ todo) left h d after = rw h.0 (from_call q todo left h.1 after)

  -- phase 1: the bench after it has a reservation more, so there was room for it
  pub from_called_put : (o : ℕ) → DoesIn I (CalledPut o) (worker_at B t) → RunIn I (reserves B t (worker_at B t)) → Goes I B w t P.CalledPut (reserves B t (worker_at B t)) (turn_from I w t (CalledPut o))
  unfolding acted reserved
  from_called_put o d after =
      let le = run_room (table_in I) I.threads I.slots g.room.puts (reserves B t (worker_at B t)) after in
      let free : back B < 64 = omega (arith, g.room.small, length_snoc B.reservations (worker_at B t).current) in
      let same : w.state.counts.back ≡ back B = g.shows.owned.count in
      rw (lt-ltb w.state.counts.back 64 (omega arith), d.current) (record {
        shows = record {
          written = g.shows.written;
          marked = g.shows.marked;
          owned = owned_grow B.reservations w.state.counts.back w.state.owners o free g.shows.owned;
          found = g.shows.found;
          busy = go_on I B w t g (Reserved w.state.counts.back o) (record { phase = P.Reserved (back B); current = o; todo = (worker_at B t).todo })
              (record { phase = ap P.Reserved (sym same); current = refl; heads = d.heads });
        };
        counted = omega arith;
      })

  -- phase 2: the slot is a reserved one, so it is one of the slots
  pub from_reserved : (i o : ℕ) → DoesIn I (Reserved i o) (worker_at B t) → Goes I B w t (P.Reserved i) (stores (table_in I) B t (worker_at B t) i) (turn_from I w t (Reserved i o))
  unfolding acted
  from_reserved i o d =
      let low : i < back B = (thread_reserved (table_in I) I.threads I.slots B g.run t g.named i d.phase).0 in
      let le = run_room (table_in I) I.threads I.slots g.room.puts B g.run in
      let all = slots_length (table_in I) I.threads I.slots B g.run in
      let small : i < 64 = omega (arith, g.room.small) in
      record {
        shows = record {
          written = g.shows.written;
          marked = marked_set B.slots w.state.marks i (Filled ((table_in I).sample (worker_at B t).current)) small (omega arith) g.shows.marked;
          owned = g.shows.owned;
          found = g.shows.found;
          busy = go_on I B w t g (Stored o) (in_phase (worker_at B t) P.Stored) (record { phase = refl; current = d.current; heads = d.heads });
        };
        counted = omega arith;
      }

  -- phase 3: the put returns
  pub from_stored : (o : ℕ) → DoesIn I (Stored o) (worker_at B t) → RunIn I (returns B t (worker_at B t) none) → Goes I B w t P.Stored (returns B t (worker_at B t) none) (turn_from I w t (Stored o))
  unfolding acted
  from_stored o d after = record { shows = give_back I B w t g o none d.current d.heads after; counted = omega arith }

  -- phase 6: the take returns what it holds
  pub from_holding : (o : ℕ) (x : ℤ) → DoesIn I (Holding o x) (worker_at B t) → RunIn I (returns B t (worker_at B t) (some x))
      → Goes I B w t (P.Holding x) (returns B t (worker_at B t) (some x)) (turn_from I w t (Holding o x))
  unfolding acted
  from_holding o x d after = record { shows = give_back I B w t g o (some x) d.current d.heads after; counted = omega arith }
