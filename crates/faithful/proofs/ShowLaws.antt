-- How a world of the code shows a bench, part by part, and that each part still does after one change. Assumes nothing.
--   Heads     from a number on, the code's chain of next operations is a list of operations still to do
--   Does      a thread of the code does what a worker of the bench does
--   Written, Marked, Owned, Found, Busy   the history, slots, reservations, finds and threads, beside the lists that show them
--   Shows     all five
--   Counted   what one step adds to the counts
use mathlib.Core.Path.{◌≡◌, sym, ap, ◌∙◌}
use Rattle.std.specs.Prelude.{Option, Some, None}
use mathlib.Core.List.{List, [], ◌∷◌, ◌++◌, map, append_assoc}
use Prim.Native.Nat.{ℕ, suc, ◌+◌, ◌≤◌, ◌<◌}
use native.Mathlib.Omega.{arith}
use lib.IntN.{ℤ}
use lib.ListN.{length, get_or, set, take, drop, length-set, length-map}
use lib.Seq.{drop-cons, set_at, get_or-set_same, get_or-set_other, take-suc-set}
use Rattle.history.specs.History.{Event, code_of, beside}
use Rattle.history.proofs.PrecedenceLists.{set_case, length_snoc, get_or_snoc, get_or_last, map_append}
use Rattle.machine.specs.declared.Phase.{Phase}
use Rattle.machine.specs.Bench.{Slot, Empty, Worker, Bench, idler}
use Rattle.machine.specs.StepCounts.{idle_in, store_in, scan_in, met, missed_last}
use Rattle.machine.specs.Shown.{mark}
use Rattle.stepping.specs.declared.Doing.{Doing}
use Rattle.stepping.specs.declared.Doing.TheVariants.{Rest, CalledPut, Reserved, Stored, CalledTake, Scanning, Holding}
use Rattle.stepping.specs.declared.Counts.{Counts}
use Rattle.stepping.specs.Twins.{World, resting}
use Rattle.faithful.specs.Views.{phase_of}

-- ---- what a thread does

-- operation o is the first of todo, the next after o the second, and so on; after the last there is none
abbrev pub Heads : List (Option ℕ) → Option ℕ → List ℕ → Type 0
Heads next o [] = o ≡ None
Heads next o (q ∷ todo) = (o ≡ Some q) × Heads next (get_or next q None) todo

-- the operation that the thread calls next
abbrev pub head_of : List (Option ℕ) → Doing → Option ℕ
head_of next (Rest o) = o
head_of next (CalledPut o) = get_or next o None
head_of next (Reserved i o) = get_or next o None
head_of next (Stored o) = get_or next o None
head_of next (CalledTake o) = get_or next o None
head_of next (Scanning j b o) = get_or next o None
head_of next (Holding o x) = get_or next o None

-- the operation that the thread works on is c
abbrev pub WorksOn : Doing → ℕ → Type 0
WorksOn (Rest o) c = Unit {0}
WorksOn (CalledPut o) c = c ≡ o
WorksOn (Reserved i o) c = c ≡ o
WorksOn (Stored o) c = c ≡ o
WorksOn (CalledTake o) c = c ≡ o
WorksOn (Scanning j b o) c = c ≡ o
WorksOn (Holding o x) c = c ≡ o

-- phase, operation at work and operations still to do are the same
pub record Does (next : List (Option ℕ)) (d : Doing) (v : Worker) : Type 0 where
  pub phase : v.phase ≡ phase_of d
  pub current : WorksOn d v.current
  pub heads : Heads next (head_of next d) v.todo

-- ---- the parts

-- n events, in lists that were cs and vs when they were lent
pub record Written (cs : List ℕ) (vs : List ℤ) (h : List Event) (n : ℕ) (cl : List ℕ) (vl : List ℤ) : Type 0 where
  pub count : n ≡ length h
  pub codes : cl ≡ map code_of h ++ drop (length h) cs
  pub values : vl ≡ map beside h ++ drop (length h) vs

-- every slot, up to the last one that there can be
pub record Marked (ss : List Slot) (marks : List ℕ) : Type 0 where
  pub size : length marks ≡ 64
  pub same : (i : ℕ) → get_or marks i 0 ≡ mark (get_or ss i Empty)

-- n reservations, the first entries of the owners
pub record Owned (rs : List ℕ) (n : ℕ) (owners : List ℕ) : Type 0 where
  pub count : n ≡ length rs
  pub size : length owners ≡ 64
  pub same : (i : ℕ) → i < length rs → get_or owners i 0 ≡ get_or rs i 0

-- n finds, the first entries of the takes that found and the puts that were found
pub record Found (fs : List (ℕ × ℕ)) (n : ℕ) (ts ps : List ℕ) : Type 0 where
  pub count : n ≡ length fs
  pub takes_size : length ts ≡ 64
  pub puts_size : length ps ≡ 64
  pub takes : take (length fs) ts ≡ map (λ f. f.0) fs
  pub puts : take (length fs) ps ≡ map (λ f. f.1) fs

-- each of the n threads
pub record Busy (next : List (Option ℕ)) (n : ℕ) (ws : List Worker) (threads : List Doing) : Type 0 where
  pub all : length threads ≡ 16
  pub does : (t : ℕ) → t < n → Does next (get_or threads t resting) (get_or ws t idler)

-- a world and a bench
pub record Shows (next : List (Option ℕ)) (n : ℕ) (cs : List ℕ) (vs : List ℤ) (B : Bench) (w : World) : Type 0 where
  pub written : Written cs vs B.history w.state.counts.events w.codes w.values
  pub marked : Marked B.slots w.state.marks
  pub owned : Owned B.reservations w.state.counts.back w.state.owners
  pub found : Found B.finds w.state.counts.finds w.state.takes w.state.puts
  pub busy : Busy next n B.workers w.state.threads

-- of a step from phase p, with operations still to do and slots as they are before it
pub record Counted (todo : List ℕ) (ss : List Slot) (p : Phase) (c c' : Counts) : Type 0 where
  pub idle : c'.idle ≡ c.idle + idle_in todo p
  pub stores : c'.stores ≡ c.stores + store_in p
  pub swaps : c'.swaps ≡ c.swaps + scan_in (λ j b s. 1) ss p
  pub finds : c'.finds ≡ c.finds + scan_in (λ j b s. met s) ss p
  pub fruitless : c'.fruitless ≡ c.fruitless + scan_in missed_last ss p

-- ---- one change

-- the entry after the first ones is the next one's: it stands where the rest of the lent list began
front_grow : {E A : Type 0} (f : E → A) (h : List E) (e : E) (l : List A) → length h < length l
    → set (map f h ++ drop (length h) l) (length h) (f e) ≡ map f (h ++ (e ∷ [])) ++ drop (length (h ++ (e ∷ []))) l
front_grow f h e l lt =
    rw (drop-cons l (length h) (f e) lt, set_at (map f h) (get_or l (length h) (f e)) (drop (suc (length h)) l) (f e) (length h) (length-map h f), map_append f h (e ∷ []), append_assoc, length_snoc h e)

-- an event is written after those before it, in both lists
pub written_grow : (cs : List ℕ) (vs : List ℤ) (h : List Event) (n : ℕ) (codes : List ℕ) (values : List ℤ) (e : Event) → length h < length cs → length h < length vs
    → Written cs vs h n codes values → Written cs vs (h ++ (e ∷ [])) (n + 1) (set codes n (code_of e)) (set values n (beside e))
written_grow cs vs h n codes values e lc lv i = record {
  count = omega (arith, i.count, length_snoc h e);
  codes = rw (i.count, i.codes) (front_grow code_of h e cs lc);
  values = rw (i.count, i.values) (front_grow beside h e vs lv);
}

-- a slot and its mark are set together
pub marked_set : (ss : List Slot) (marks : List ℕ) (i : ℕ) (z : Slot) → i < 64 → i < length ss → Marked ss marks → Marked (set ss i z) (set marks i (mark z))
marked_set ss marks i z lm ls h = record {
  size = length-set marks i (mark z) ∙ h.size;
  same = λ q. set_case marks i (mark z) 0 q (λ k. k ≡ mark (get_or (set ss i z) q Empty)) (omega (arith, h.size))
      (λ e. ap mark (sym (ap (λ k. get_or (set ss i z) k Empty) e ∙ get_or-set_same ss i z Empty ls)))
      (λ ne. h.same q ∙ ap mark (sym (get_or-set_other ss i q z Empty ne)));
}

-- a reservation is written after those before it
pub owned_grow : (rs : List ℕ) (n : ℕ) (owners : List ℕ) (o : ℕ) → length rs < 64 → Owned rs n owners → Owned (rs ++ (o ∷ [])) (n + 1) (set owners n o)
owned_grow rs n owners o lt h = record {
  count = omega (arith, h.count, length_snoc rs o);
  size = length-set owners n o ∙ h.size;
  same = λ q lq. set_case owners n o 0 q (λ k. k ≡ get_or (rs ++ (o ∷ [])) q 0) (omega (arith, h.count, h.size))
      (λ e. sym (ap (λ k. get_or (rs ++ (o ∷ [])) k 0) (e ∙ h.count) ∙ get_or_last rs o 0))
      (λ ne. let l : q < length rs = omega (arith, h.count, length_snoc rs o) in h.same q l ∙ sym (get_or_snoc rs o 0 q l));
}

-- a column of the finds with one entry more
column_grow : (f : ℕ × ℕ → ℕ) (fs : List (ℕ × ℕ)) (e : ℕ × ℕ) (l : List ℕ) → length fs < length l → take (length fs) l ≡ map f fs
    → take (length (fs ++ (e ∷ []))) (set l (length fs) (f e)) ≡ map f (fs ++ (e ∷ []))
column_grow f fs e l lt h = rw (length_snoc fs e, take-suc-set l (length fs) (f e) lt, h, map_append f fs (e ∷ []))

-- a find is written after those before it, in both lists
pub found_grow : (fs : List (ℕ × ℕ)) (n : ℕ) (takes puts : List ℕ) (o p : ℕ) → length fs < 64 → Found fs n takes puts
    → Found (fs ++ ((o, p) ∷ [])) (n + 1) (set takes n o) (set puts n p)
found_grow fs n takes puts o p lt h = record {
  count = omega (arith, h.count, length_snoc fs (o, p));
  takes_size = length-set takes n o ∙ h.takes_size;
  puts_size = length-set puts n p ∙ h.puts_size;
  takes = rw h.count (column_grow (λ f. f.0) fs (o, p) takes (omega (arith, h.takes_size)) h.takes);
  puts = rw h.count (column_grow (λ f. f.1) fs (o, p) puts (omega (arith, h.puts_size)) h.puts);
}

-- ---- threads

module _ (next : List (Option ℕ)) (n : ℕ) (ws : List Worker) (threads : List Doing) (few : n ≤ 16) (i : Busy next n ws threads) (t : ℕ) (lt : t < n) where
  -- thread and worker are set together
  pub busy_set : length ws ≡ n → (d : Doing) (v : Worker) → Does next d v → Busy next n (set ws t v) (set threads t d)
  busy_set all d v h = record {
    all = length-set threads t d ∙ i.all;
    does = λ q lq. set_case ws t v idler q (λ z. Does next (get_or (set threads t d) q resting) z) (omega arith)
        (λ e. rw (e, get_or-set_same threads t d resting (omega (arith, i.all))) h)
        (λ ne. rw (get_or-set_other threads t q d resting ne) (i.does q lq));
  }

  -- the worker stays as it was
  pub busy_keep : (d : Doing) → Does next d (get_or ws t idler) → Busy next n ws (set threads t d)
  busy_keep d h = record {
    all = length-set threads t d ∙ i.all;
    does = λ q lq. set_case threads t d resting q (λ z. Does next z (get_or ws q idler)) (omega (arith, i.all)) (λ e. rw e h) (λ ne. i.does q lq);
  }
