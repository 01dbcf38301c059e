-- The listed order of every run is a linearization of its history, and the judge's verdict on it is 0 (demand 3; document 01, 'The judge'). Assumes nothing.
use mathlib.Core.Path.{◌≡◌, sym, ◌∙◌}
use mathlib.Core.Logic.{inl}
use mathlib.Core.List.{List, [], ◌∷◌, ◌++◌, map}
use Prim.Native.Nat.{ℕ, ◌+◌, ◌<◌}
use lib.IntN.{ℤ, pos}
use lib.ListN.{length, get_or, take, length-map}
use Rattle.limits.specs.Lists.{All}
use Rattle.limits.specs.declared.Kind.{Kind}
use Rattle.limits.specs.declared.Kind.TheVariants.{Put as putting, Take as taking}
use Rattle.limits.specs.Operations.{Table}
use Rattle.history.specs.History.{code_of, event_of, events}
use Rattle.history.specs.Standing.{CanStand}
use Rattle.history.proofs.ListLaws.{all_imp}
use Rattle.history.proofs.PrecedenceLaws.{events_back, code_stands}
use Rattle.order.proofs.MergeRowsLaws.{PlaysAt as MeetsAt, Plays as Meets}
use Rattle.linear.specs.declared.Verdict.TheVariants.{Linear}
use Rattle.linear.specs.Conditions.{MayGet, PlaysAt, Plays, Not20, Not21, Not22, Not23, Not24}
use Rattle.linear.specs.Verdict.{verdict}
use Rattle.linear.proofs.SoundLaws.{conditions_linearize}
use Rattle.linear.proofs.VerdictLaws.{verdict_0}
use Rattle.machine.specs.Bench.{Bench, start, played}
use Rattle.machine.specs.Counts.{counted, is_store, is_find}
use Rattle.machine.specs.Shown.{mark, held, order, codes, samples, records}
use Rattle.machine.proofs.CountLaws.{PutsAtMost}
use Rattle.machine.proofs.RunLaws.{Run, history_stands, history_right, history_sound, stores_finds}
use Rattle.machine.proofs.CountedLaws.{stores_counted, finds_counted}
use Rattle.machine.proofs.ChainLaws.{OrderedAt}
use Rattle.machine.proofs.DemandLaws.{Gets, stays, run_plays, listed_only, listed_all, listed_called, run_once, run_keeps, gets_one}
use Rattle.theorems.specs.Demand.{Linearized}
use Rattle.theorems.specs.Demand as shown
use Rattle.theorems.proofs.ShownLaws.{stays_shown, filled_shown, listed_shown, shown_listed, gets_shown}

-- a play that names what each take gets and what stays, as the judge's play
plays_shown : (T : Table) (Get Get' : ℕ → ℤ → Type 0) (End : List ℤ → Type 0) (rest : List ℤ) → ((o : ℕ) (x : ℤ) → Get o x → Get' o x) → End rest
    → (l : List ℕ) (q : List ℤ) → Meets T Get q l rest → Plays T.kind T.sample Get' End q l
plays_shown T Get Get' End rest imp end [] q p = rw p end
plays_shown T Get Get' End rest imp end (o ∷ l) q p = go (T.kind o) p (plays_shown T Get Get' End rest imp end l)
  where
    go : (k : Kind) → MeetsAt Get k o (T.sample o) q (λ r. Meets T Get r l rest)
        → ((r : List ℤ) → Meets T Get r l rest → Plays T.kind T.sample Get' End r l)
        → PlaysAt k (T.sample o) (Get' o) q (λ r. Plays T.kind T.sample Get' End r l)
    go putting n ih = ih (q ++ (T.sample o ∷ [])) n
    go taking n ih = rw n.2 (imp o n.0 n.3, ih n.1 n.4)

-- ---- the five conditions, of a bench that a run comes to

module _ (T : Table) (n m : ℕ) (B : Bench) (r : Run T n m B) (i : OrderedAt T n B) where
  pub run_20 : Not20 T (order B)
  run_20 = (all_imp (history_sound T n m B r).small (order B) (listed_called T n m B r i), run_once T n m B r i)

  pub run_21 : Not21 B.history (order B)
  run_21 = listed_called T n m B r i

  pub run_22 : Not22 B.history (order B)
  run_22 o k = listed_all T n m B r i o (inl k)

  pub run_23 : Not23 B.history (order B)
  run_23 = run_keeps T n m B r i

  pub run_24 : Not24 T B.history (order B)
  run_24 = plays_shown T (Gets T B) (MayGet B.history) (λ q. Unit {0}) (stays B.slots) (gets_one T n m B r i) tt (order B) [] (run_plays T n m B r i)

  pub run_linearized : Linearized T B.history (records B) (map mark B.slots) (map held B.slots) (order B)
  run_linearized =
      record {
        only = λ o k. listed_shown T n m B r i o (listed_only T n m B r i o k);
        every = λ o k. listed_all T n m B r i o (shown_listed T n m B r i o k);
        once = run_once T n m B r i;
        kept = run_keeps T n m B r i;
        played =
            plays_shown T (Gets T B) (shown.Gets T B.history (records B)) (λ q. q ≡ shown.stays (map mark B.slots) (map held B.slots)) (stays B.slots)
            (gets_shown T n m B r i) (stays_shown B.slots) (order B) [] (run_plays T n m B r i);
        linear = conditions_linearize T B.history (order B) (history_sound T n m B r) run_20 run_21 run_22 run_23 run_24;
      }

  -- the run's codes and samples give its history back
  pub run_events : events T (codes B) (samples B) ≡ B.history
  run_events = events_back T B.history (history_right T n m B r)

  -- and each event can stand at its position, so the judge refuses none
  pub run_stands : (i : ℕ) → i < length (codes B)
      → CanStand T (take i (events T (codes B) (samples B))) (event_of T (get_or (codes B) i 0) (get_or (samples B) i (pos 0))) (get_or (samples B) i (pos 0))
  run_stands i lt =
      rw run_events (code_stands T B.history (history_stands T n m B r) (history_right T n m B r) i (rw (length-map B.history code_of) at lt))

  -- the judge's verdict on what the run wrote is 0
  pub run_verdict : verdict T (events T (codes B) (samples B)) (order B) ≡ Linear
  run_verdict = rw run_events (verdict_0 T B.history (order B) run_20 run_21 run_22 run_23 run_24)

-- ---- after every schedule whose entries are threads, for no more puts than slots

module _ (T : Table) (threads slots : ℕ) (schedule : List ℕ) (most : PutsAtMost T slots) (named : All (λ t. t < threads) schedule) where
  abbrev after : Bench
  after = played T (start T threads slots) schedule

  -- stores = finds + filled slots
  pub stores_balance :
      counted is_store T (start T threads slots) schedule ≡ counted is_find T (start T threads slots) schedule + length (shown.stays (map mark after.slots) (map held after.slots))
  stores_balance =
      sym (stores_counted T threads slots most schedule named) ∙ stores_finds T threads slots most schedule named
      ∙ (λ i. finds_counted T threads slots most schedule named i + filled_shown after.slots i)
