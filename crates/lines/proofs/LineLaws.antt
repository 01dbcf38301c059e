-- Each line as the code comes to it: by an event's code, a slot's mark, an operation's kind. Assumes nothing.
use mathlib.Core.Path.{◌≡◌, refl, sym, ap}
use mathlib.Core.Logic.{◌≢◌}
use mathlib.Core.Bool.{Bool, cond}
use mathlib.Core.List.{List, [], ◌∷◌, ◌++◌}
use Prim.Native.Nat.{ℕ, ◌/◌, ◌%◌}
use borrow.Author.Tests.{eq-eqb, ne_eqb}
use lib.IntN.{ℤ}
use lib.ListN.{get_or}
use Rattle.limits.specs.Operations.{kind_of, table_of}
use Rattle.history.specs.History.{call}
use Rattle.history.proofs.CodeLaws.{event_call, event_ret}
use Rattle.numerals.specs.Decimal.{decimal}
use Rattle.machine.specs.declared.Phase.{Phase}
use Rattle.machine.specs.declared.Phase.TheVariants.{Rest, CalledPut, Reserved, Stored, CalledTake, Scanning, Holding}
use Rattle.machine.specs.Bench.{Empty, Filled}
use Rattle.numerals.specs.Words.{bytes}
use Rattle.lines.specs.Lines.{event_line, slot_line, thread_line}
use Rattle.lines.specs.Twins.{return_by, event_by, slot_by, phase_text}

-- an even code is a call's, an odd one a return's
pub even_line : (kind : List ℕ) (c : ℕ) (x : ℤ) → c % 2 ≡ 0 → event_line (call (c / 2)) ≡ event_by kind c x
even_line kind c x e = ap event_line (sym (event_call (table_of [] kind []) c x e))

pub odd_line : (kind : List ℕ) (c : ℕ) (x : ℤ) → c % 2 ≢ 0 → return_by (c / 2) (kind_of (get_or kind (c / 2) 0)) x ≡ event_by kind c x
odd_line kind c x n = ap event_line (sym (event_ret (table_of [] kind []) c x n))

-- a slot whose mark is 0 is empty, whatever sample stands beside it
pub unmarked_line : (i m : ℕ) (x : ℤ) → m ≡ 0 → slot_line i Empty ≡ slot_by i m x
unmarked_line i m x e = ap (λ (b : Bool). slot_line i (cond b Empty (Filled x))) (sym (eq-eqb m 0 e))

pub marked_line : (i m : ℕ) (x : ℤ) → m ≢ 0 → slot_line i (Filled x) ≡ slot_by i m x
marked_line i m x n = ap (λ (b : Bool). slot_line i (cond b Empty (Filled x))) (sym (ne_eqb m 0 n))

-- a thread's line is its number's part and its phase's part
pub thread_parts : (t : ℕ) (p : Phase) → bytes "thread" ++ (9 ∷ (decimal t ++ (9 ∷ phase_text p))) ≡ thread_line t p
thread_parts t Rest = refl
thread_parts t CalledPut = refl
thread_parts t (Reserved i) = refl
thread_parts t Stored = refl
thread_parts t CalledTake = refl
thread_parts t (Scanning j b) = refl
thread_parts t (Holding x) = refl
