-- The table of operations, and a run's input (document 01, 'Numbers that bound a run'). Assumes nothing.
--   Kind      a put or a take; in a list 1 is a put, 2 a take
--   Table     how many operations, and of each, numbered from 0, its thread, kind and sample
--   table_of  the table that three lists of one length give
--   puts_in   how many puts a list of kinds has
--   Input     a run's input: threads, slots, the operations' threads, kinds and samples, the schedule
--   table     the table that an input gives
use Rattle.std.specs.Prelude.{cond, List, [], ◌∷◌, ℕ, suc, eqb, ℤ, pos, length, get_or}
use Rattle.limits.specs.declared.Kind.{Kind}
use Rattle.limits.specs.declared.Kind.TheVariants.{Put as putting, Take as taking}

pub record Table : Type 0 where
  pub size : ℕ
  pub thread : ℕ → ℕ
  pub kind : ℕ → Kind
  pub sample : ℕ → ℤ

abbrev pub kind_of : ℕ → Kind
kind_of k = cond (eqb k 1) putting taking

abbrev pub table_of : List ℕ → List ℕ → List ℤ → Table
table_of thread kind sample =
    record { size = length thread; thread = λ o. get_or thread o 0; kind = λ o. kind_of (get_or kind o 0); sample = λ o. get_or sample o (pos 0) }

unfoldable pub puts_in : List ℕ → ℕ
puts_in [] = 0
puts_in (k ∷ kind) = cond (eqb k 1) (suc (puts_in kind)) (puts_in kind)

pub record Input : Type 0 where
  pub threads : ℕ
  pub slots : ℕ
  pub thread : List ℕ
  pub kind : List ℕ
  pub sample : List ℤ
  pub schedule : List ℕ

abbrev pub input_of : ℕ → ℕ → List ℕ → List ℕ → List ℤ → List ℕ → Input
input_of threads slots thread kind sample schedule = record { threads = threads; slots = slots; thread = thread; kind = kind; sample = sample; schedule = schedule }

abbrev pub table : Input → Table
table i = table_of i.thread i.kind i.sample
