-- `show_records` meets its contract. The invariant: the lists begin with what the records passed show. Assumes nothing.
use lib.ListN.{take}
use Rattle.outside.specs.RecordTwin.{Shows}
use Rattle.outside.proofs.records.show_records.Given as goal

abbrev pub invariant-loop-i : goal.invariant-loop-i
invariant-loop-i l = Shows (take l.i l.records) l.initial.phases l.initial.numbers l.initial.ends l.phases l.numbers l.ends
