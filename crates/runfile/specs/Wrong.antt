-- What a text holds, told without reading it (document 01, 'Run files' and refusal 11). Assumes nothing.
--   OpFits           an operation that a line can hold: a thread and a sample of 32 signed bits (kind 1), or a thread alone (kind 2, sample 0)
--   CanHold          what a run file can hold: numbers 0 to 255, and a thread, a kind and a sample for each operation
--   IsRun s          s is the text of what a run file can hold
--   SameLines k s t  the first k lines of s and t are the same: both texts have k line feeds, and the same bytes up to and with the k-th
--   Begins k s       the first k lines of s are those of some run file
--   FirstWrong s k   line k of s, from 1, is the first that is not as written: the lines before it are the first of some run file, and with it they
--                    are so of none. A line that is missing, or not ended, is never among the first k lines
--   File             a run's input: threads, slots, the operations' threads, kinds and samples, the schedule; or the number of the first line that is
--                    not as written
--   Holds s f        f is what the text s holds: a run's input, or the first wrong line of a text that is no run file. It is so of one f only (`holds_one`),
--                    which `read_of` computes (`read_holds`, `holds_read`)
use Rattle.std.specs.Prelude.{◌≡◌, cond, ◌⊎◌, List, [], ◌∷◌, ℕ, zero, suc, ◌≤◌, ◌<◌, eqb, ℤ, pos, length, get_or}
use Rattle.std.specs.Int.{w32}
use Rattle.std.proofs.Common.{SFits}
use Rattle.limits.specs.Lists.{All}
use Rattle.limits.specs.Operations.{Input, input_of}
use Rattle.runfile.specs.RunText.{run_text}

abbrev pub OpFits : ℕ → ℕ → ℤ → Type 0
OpFits t k x = (t ≤ 255) × (((k ≡ 1) × SFits w32 x) ⊎ ((k ≡ 2) × (x ≡ pos 0)))

pub record CanHold (i : Input) : Type 0 where
  pub threads_fit : i.threads ≤ 255
  pub slots_fit : i.slots ≤ 255
  pub kinds : length i.kind ≡ length i.thread
  pub samples : length i.sample ≡ length i.thread
  pub operations : (o : ℕ) → o < length i.thread → OpFits (get_or i.thread o 0) (get_or i.kind o 0) (get_or i.sample o (pos 0))
  pub steps : All (λ t. t ≤ 255) i.schedule

abbrev pub IsRun : List ℕ → Type 0
IsRun s = (i : Input) × CanHold i × (s ≡ run_text i)

abbrev pub SameLines : ℕ → List ℕ → List ℕ → Type 0
SameLines zero s t = Unit {0}
SameLines (suc k) [] t = ⊥
SameLines (suc k) (c ∷ s) [] = ⊥
SameLines (suc k) (c ∷ s) (d ∷ t) = (c ≡ d) × cond (eqb c 10) (SameLines k s t) (SameLines (suc k) s t)

abbrev pub Begins : ℕ → List ℕ → Type 0
Begins k s = (t : List ℕ) × IsRun t × SameLines k s t

abbrev pub FirstWrong : List ℕ → ℕ → Type 0
FirstWrong s zero = ⊥
FirstWrong s (suc k) = Begins k s × (¬ Begins (suc k) s)

pub data File : Type 0 where
  file : ℕ → ℕ → List ℕ → List ℕ → List ℤ → List ℕ → File
  wrong : ℕ → File

abbrev pub Holds : List ℕ → File → Type 0
Holds s (file threads slots thread kind sample schedule) = let i = input_of threads slots thread kind sample schedule in CanHold i × (s ≡ run_text i)
Holds s (wrong k) = (¬ IsRun s) × FirstWrong s k
