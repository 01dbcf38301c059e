-- Laws of the two tables, `ends` and `needs`: as they begin, while the codes are noted, and once all are. Assumes nothing.
--   ReturnEnd      p is the end of an operation that returns among the codes below i
--   Reached        the latest such end; 0 if there is none
--   Noted          this and the needs, as one pass over the codes finds them
use mathlib.Core.Path.{◌≡◌}
use mathlib.Core.Logic.{◌⊎◌}
use mathlib.Core.List.{List, map}
use Prim.Native.Nat.{ℕ, ◌+◌, ◌*◌, ◌≤◌, ◌<◌, max}
use native.Mathlib.Omega.{arith}
use borrow.Author.Rules.{rules}
use native.Mathlib.Decide.{dec_lt}
use lib.ListN.{length, replicate, set, length-replicate, get_or-replicate}
use Rattle.std.proofs.lemmas.List.{get_or_past}
use Rattle.history.specs.History.{Precedes}
use Rattle.order.specs.Listing.{bare}
use Rattle.order.specs.Weaving.{at, Ends, Needs}
use Rattle.order.proofs.PrecedesLaws.{precedes_at, precedes_places}

pub record ReturnEnd (codes ends : List ℕ) (p i : ℕ) : Type 0 where
  pub op : ℕ
  pub back : ℕ
  pub small : op < 256
  pub below : back < i
  pub returns : at codes back ≡ 2 * op + 1
  pub end : p ≡ at ends op

pub record Reached (codes ends : List ℕ) (reach i : ℕ) : Type 0 where
  pub most : (a j : ℕ) → a < 256 → j < i → at codes j ≡ 2 * a + 1 → at ends a ≤ reach
  pub from : 0 < reach → ReturnEnd codes ends reach i

pub record Noted (codes ends needs : List ℕ) (reach i : ℕ) : Type 0 where
  pub reached : Reached codes ends reach i
  pub needed : Needs codes ends needs i

-- ---- as they begin

none : (n o : ℕ) → at (replicate n 0) o ≡ 0
none n o = go (dec_lt o n)
  where
    go : Dec (o < n) → at (replicate n 0) o ≡ 0
    go (yes lt) = get_or-replicate n o 0 0 lt
    go (no x) = get_or_past (replicate n 0) o 0 (omega (arith, length-replicate {A = ℕ} n 0))

pub ends_start : (row : List ℕ) → Ends row (replicate 256 0) 0
ends_start row =
    record {
      size = length-replicate {A = ℕ} 256 0;
      beyond = λ q lt. absurd (omega arith);
      most = λ o. omega (arith, none 256 o);
      place = λ o more. absurd (omega (arith, none 256 o));
    }

pub noted_start : (codes ends : List ℕ) → Noted codes ends (replicate 256 0) 0 0
noted_start codes ends =
    record {
      reached = record { most = λ a j lt b e. absurd (omega arith); from = λ more. absurd (omega arith) };
      needed = record {
        size = length-replicate {A = ℕ} 256 0;
        most = λ a b j l la lb c d e f. absurd (omega arith);
        from = λ b more. absurd (omega (arith, none 256 b));
      };
    }

-- ---- one more code: a call needs the latest end so far, a return may raise it; neither counts where no row names its operation

module _ (codes ends needs : List ℕ) (reach i : ℕ) (w : Noted codes ends needs reach i) where
  pub note_none : (o : ℕ) → (at codes i ≡ 2 * o) ⊎ (at codes i ≡ 2 * o + 1) → 256 ≤ o → Noted codes ends needs reach (i + 1)
  note_none o e big = search rules

  pub note_call : (o : ℕ) → at codes i ≡ 2 * o → o < 256 → Noted codes ends (set needs o reach) reach (i + 1)
  note_call o e lo = search rules

  raised : (o r : ℕ) → at codes i ≡ 2 * o + 1 → o < 256 → reach ≤ r → at ends o ≤ r → (r ≡ reach) ⊎ (r ≡ at ends o) → Noted codes ends needs r (i + 1)
  raised o r e lo least most one = search rules

  pub note_return : (o : ℕ) → at codes i ≡ 2 * o + 1 → o < 256 → Noted codes ends needs (max reach (at ends o)) (i + 1)
  note_return o e lo = raised o (max reach (at ends o)) e lo (omega arith) (omega arith) (grind arith)

-- ---- all codes noted: a need is the latest end among those that precede

module _ (codes ends needs : List ℕ) (n : Needs codes ends needs (length codes)) (b : ℕ) where
  pub needs_most : (a : ℕ) → a < 256 → b < 256 → Precedes (map bare codes) a b → at ends a ≤ at needs b
  needs_most a la lb p = let w = precedes_places codes a b p in n.most a b w.0 w.1 la lb w.2 w.3 w.4 w.5

  pub needs_from : 0 < at needs b → (a : ℕ) × Precedes (map bare codes) a b × (at needs b ≡ at ends a)
  needs_from more = let p = n.from b more in (p.op, precedes_at codes p.op b p.back p.forth p.before p.below p.returns p.calls, p.end)
