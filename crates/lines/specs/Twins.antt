-- Nothing in this file has to be believed: what is written of an event, a slot or a phase, by the definitions of Lines.
--   return_by   the line of a return, by its operation's kind and the sample beside it
--   event_by    the line of an event, by its code and the sample beside it
--   slot_by     the line of a slot, by its mark and the sample it holds
--   phase_text  what follows a thread's number
use Rattle.std.specs.Prelude.{cond, List, [], ℕ, eqb, ℤ}
use Rattle.limits.specs.declared.Kind.{Kind}
use Rattle.limits.specs.Operations.{table_of}
use Rattle.history.specs.History.{ret, answer, event_of}
use Rattle.machine.specs.declared.Phase.{Phase}
use Rattle.machine.specs.Bench.{Empty, Filled}
use Rattle.numerals.specs.Words.{line}
use Rattle.lines.specs.Lines.{event_line, slot_line, phase_fields}

abbrev pub event_by : List ℕ → ℕ → ℤ → List ℕ
event_by kind c x = event_line (event_of (table_of [] kind []) c x)

abbrev pub return_by : ℕ → Kind → ℤ → List ℕ
return_by o kind x = event_line (ret o (answer kind x))

abbrev pub slot_by : ℕ → ℕ → ℤ → List ℕ
slot_by i mark x = slot_line i (cond (eqb mark 0) Empty (Filled x))

abbrev pub phase_text : Phase → List ℕ
phase_text p = line (phase_fields p)
