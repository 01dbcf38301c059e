-- The invariant: what is left of the schedule, played from here, is the whole run.
use Rattle.std.proofs.Common.{◌≡◌, drop}
use Rattle.stepping.specs.Twins.{SameLists, Within, world_with, run_world}
use Rattle.stepping.proofs.Moving.run_all.Given as goal

abbrev pub invariant-loop-t : goal.invariant-loop-t
invariant-loop-t l =
    record {
      rest : run_world l.script.table.kind.now l.script.table.sample.now l.script.next (world_with l.moving l.finds l.events) (drop l.t-index l.schedule)
          ≡ run_world l.script.table.kind.now l.script.table.sample.now l.script.next (world_with l.initial.moving l.initial.finds l.initial.events) l.schedule;
      same : SameLists l.initial.events l.events;
      counts : Within l.t-index l.moving.counts;
    }
