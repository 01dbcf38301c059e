-- The runs that document 01 works by hand, in one table ('Runs worked by hand', A to I). Assumes nothing.
--   Result     what a run shows: that its input passes, reservation count, codes and samples of the events, order, slots, phases, the six counts
--   result_of  the result of a run
--   Worked     the table: each run with its result as the document gives it, and the judge's answers on run A's history
use Rattle.limits.specs.Refusals.{Fit}
use Rattle.limits.specs.declared.Refusal.{Refusal}
use Rattle.linear.specs.declared.Verdict.{Verdict}
use Rattle.std.specs.Prelude.{◌≡◌, List, [], ◌∷◌, ℕ, ℤ, pos, length, Ok, Result as Answer}
use Rattle.limits.specs.Operations.{table_of, input_of}
use Rattle.limits.specs.Refusals.{input_refusal}
use Rattle.linear.specs.declared.Verdict.TheVariants.{Linear, NoOperation, Missing, Turned, Unplayable}
use Rattle.judge.specs.Judge.{judged}
use Rattle.machine.specs.declared.Phase.{Phase}
use Rattle.machine.specs.declared.Phase.TheVariants.{Rest, Reserved, Stored, CalledTake, Holding}
use Rattle.machine.specs.Bench.{Slot, Empty, Filled, Worker, back, start, played}
use Rattle.machine.specs.Counts.{counted, is_idle, is_store, is_swap, is_find, is_fruitless}
use Rattle.machine.specs.Shown.{codes, samples, order}

pub record Result : Type 0 where
  pub fit : Fit
  pub back : ℕ
  pub codes : List ℕ
  pub samples : List ℤ
  pub order : List ℕ
  pub slots : List Slot
  pub phases : List Phase
  pub steps : ℕ
  pub idle : ℕ
  pub stores : ℕ
  pub swaps : ℕ
  pub finds : ℕ
  pub fruitless : ℕ

abbrev pub phases_in : List Worker → List Phase
phases_in [] = []
phases_in (w ∷ ws) = w.phase ∷ phases_in ws

abbrev pub result_of : ℕ → ℕ → List ℕ → List ℕ → List ℤ → List ℕ → Result
result_of threads slots thread kind sample schedule =
    let T = table_of thread kind sample in
    let S = start T threads slots in
    let B = played T S schedule in
    record {
      fit = input_refusal (input_of threads slots thread kind sample schedule);
      back = back B;
      codes = codes B;
      samples = samples B;
      order = order B;
      slots = B.slots;
      phases = phases_in B.workers;
      steps = length schedule;
      idle = counted is_idle T S schedule;
      stores = counted is_store T S schedule;
      swaps = counted is_swap T S schedule;
      finds = counted is_find T S schedule;
      fruitless = counted is_fruitless T S schedule;
    }

-- runs A and B: two puts, threads 0 and 1, and a take, thread 2
abbrev pub two_puts : ℤ → ℤ → List ℕ → Result
two_puts x y schedule = result_of 3 2 (0 ∷ 1 ∷ 2 ∷ []) (1 ∷ 1 ∷ 2 ∷ []) (x ∷ y ∷ pos 0 ∷ []) schedule

-- runs E, F and G: a put of 7 and a take, of one thread
abbrev pub put_take : List ℕ → Result
put_take schedule = result_of 1 1 (0 ∷ 0 ∷ []) (1 ∷ 2 ∷ []) (pos 7 ∷ pos 0 ∷ []) schedule

abbrev pub A : Result
A = two_puts (pos 100) (pos 0) (0 ∷ 0 ∷ 1 ∷ 1 ∷ 1 ∷ 1 ∷ 2 ∷ 2 ∷ 2 ∷ 0 ∷ 2 ∷ 2 ∷ 0 ∷ [])

abbrev pub B : Result
B = two_puts (pos 5) (pos 6) (0 ∷ 0 ∷ 1 ∷ 1 ∷ 2 ∷ 2 ∷ 2 ∷ 0 ∷ 1 ∷ 2 ∷ 2 ∷ [])

abbrev pub judged_on_a : List ℕ → Answer Verdict Refusal
judged_on_a proposed = judged 3 (0 ∷ 1 ∷ 2 ∷ []) (1 ∷ 1 ∷ 2 ∷ []) (pos 100 ∷ pos 0 ∷ pos 0 ∷ []) A.codes A.samples proposed

pub record Worked : Type 0 where
  pub a : A ≡ record {
    fit = Ok tt;
    back = 2;
    codes = 0 ∷ 2 ∷ 3 ∷ 4 ∷ 5 ∷ 1 ∷ [];
    samples = pos 0 ∷ pos 0 ∷ pos 0 ∷ pos 0 ∷ pos 0 ∷ pos 0 ∷ [];
    order = 1 ∷ 2 ∷ 0 ∷ [];
    slots = Filled (pos 100) ∷ Empty ∷ [];
    phases = Rest ∷ Rest ∷ Rest ∷ [];
    steps = 13;
    idle = 0;
    stores = 2;
    swaps = 2;
    finds = 1;
    fruitless = 0;
  }
  pub b : B ≡ record {
    fit = Ok tt;
    back = 2;
    codes = 0 ∷ 2 ∷ 4 ∷ 5 ∷ [];
    samples = pos 0 ∷ pos 0 ∷ pos 0 ∷ pos 6 ∷ [];
    order = 1 ∷ 2 ∷ 0 ∷ [];
    slots = Filled (pos 5) ∷ Empty ∷ [];
    phases = Stored ∷ Stored ∷ Rest ∷ [];
    steps = 11;
    idle = 0;
    stores = 2;
    swaps = 2;
    finds = 1;
    fruitless = 0;
  }
  pub c : result_of 1 1 [] [] [] [] ≡ record { fit = Ok tt; back = 0; codes = []; samples = []; order = []; slots = Empty ∷ []; phases = Rest ∷ []; steps = 0; idle = 0; stores = 0; swaps = 0; finds = 0; fruitless = 0 }
  pub d : result_of 1 1 [] [] [] (0 ∷ 0 ∷ 0 ∷ []) ≡ record { fit = Ok tt; back = 0; codes = []; samples = []; order = []; slots = Empty ∷ []; phases = Rest ∷ []; steps = 3; idle = 3; stores = 0; swaps = 0; finds = 0; fruitless = 0 }
  pub e : put_take (0 ∷ 0 ∷ 0 ∷ 0 ∷ 0 ∷ 0 ∷ 0 ∷ 0 ∷ []) ≡ record {
    fit = Ok tt;
    back = 1;
    codes = 0 ∷ 1 ∷ 2 ∷ 3 ∷ [];
    samples = pos 0 ∷ pos 0 ∷ pos 0 ∷ pos 7 ∷ [];
    order = 0 ∷ 1 ∷ [];
    slots = Empty ∷ [];
    phases = Rest ∷ [];
    steps = 8;
    idle = 0;
    stores = 1;
    swaps = 1;
    finds = 1;
    fruitless = 0;
  }
  pub f : put_take (0 ∷ 0 ∷ 0 ∷ 0 ∷ 0 ∷ 0 ∷ 0 ∷ []) ≡ record {
    fit = Ok tt;
    back = 1;
    codes = 0 ∷ 1 ∷ 2 ∷ [];
    samples = pos 0 ∷ pos 0 ∷ pos 0 ∷ [];
    order = 0 ∷ 1 ∷ [];
    slots = Empty ∷ [];
    phases = Holding (pos 7) ∷ [];
    steps = 7;
    idle = 0;
    stores = 1;
    swaps = 1;
    finds = 1;
    fruitless = 0;
  }
  pub g : put_take (0 ∷ 0 ∷ []) ≡ record { fit = Ok tt; back = 1; codes = 0 ∷ []; samples = pos 0 ∷ []; order = []; slots = Empty ∷ []; phases = Reserved 0 ∷ []; steps = 2; idle = 0; stores = 0; swaps = 0; finds = 0; fruitless = 0 }
  pub h : result_of 1 1 (0 ∷ []) (2 ∷ []) (pos 0 ∷ []) (0 ∷ 0 ∷ 0 ∷ []) ≡ record { fit = Ok tt; back = 0; codes = 0 ∷ []; samples = pos 0 ∷ []; order = []; slots = Empty ∷ []; phases = CalledTake ∷ []; steps = 3; idle = 0; stores = 0; swaps = 0; finds = 0; fruitless = 0 }
  pub i_0 : judged_on_a (1 ∷ 2 ∷ 0 ∷ []) ≡ Ok Linear
  pub i_24 : judged_on_a (0 ∷ 1 ∷ 2 ∷ []) ≡ Ok Unplayable
  pub i_22 : judged_on_a (1 ∷ 2 ∷ []) ≡ Ok Missing
  pub i_23 : judged_on_a (2 ∷ 1 ∷ 0 ∷ []) ≡ Ok Turned
  pub i_20 : judged_on_a (1 ∷ 1 ∷ 2 ∷ []) ≡ Ok NoOperation
