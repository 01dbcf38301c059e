-- `pollenloom_run` tells in numbers what the run says, and writes the records only of an accepted run. Assumes nothing.
use Rattle.std.proofs.Common.{arith, rules, ap}
use Rattle.std.proofs.lemmas.Grind.{common_steps}
use Rattle.std.specs.Prelude.{Ok, Err}
use Rattle.limits.specs.Operations.{input_of}
use Rattle.run.specs.Lent.{lists_in}
use Rattle.run.specs.Run.{Lists, lists_of}
use Rattle.outside.proofs.OutsideLaws.{says_within, rooms, tells_refused, tells_ran}
use Rattle.outside.proofs.pollenloom_run.Goals as goal

pub shared_ref_as_front-show_records : goal.shared_ref_as_front-show_records
shared_ref_as_front-show_records c =
    let a = c.args in
    let i = input_of a.threads a.slots a.thread.now a.kind.now a.sample.now a.schedule.now in
    let l = lists_of a.codes.now a.values.now a.order.now a.marks.now a.held.now in
    let m = lists_in c.run_core.new.lent in
    let says = says_within i l a.phases.now a.numbers.now a.ends.now c.min.result c.min-room.result m (Ok c.in-Ok.ran) c.min.ensures c.min-room.ensures (rw c.lent_input-input.ensures at c.in-Ok.ensures.says) in
    (rooms i l a.phases.now a.numbers.now a.ends.now m c.in-Ok.ran says).most

pub show_records-requires : goal.show_records-requires
show_records-requires c =
    let a = c.args in
    let i = input_of a.threads a.slots a.thread.now a.kind.now a.sample.now a.schedule.now in
    let l = lists_of a.codes.now a.values.now a.order.now a.marks.now a.held.now in
    let m = lists_in c.run_core.new.lent in
    let says = says_within i l a.phases.now a.numbers.now a.ends.now c.min.result c.min-room.result m (Ok c.in-Ok.ran) c.min.ensures c.min-room.ensures (rw c.lent_input-input.ensures at c.in-Ok.ensures.says) in
    let room = rooms i l a.phases.now a.numbers.now a.ends.now m c.in-Ok.ran says in
    record { phase_room = grind (arith, common_steps, room.phases); number_room = grind (arith, common_steps, room.numbers); end_room = grind (arith, common_steps, room.ends) }

-- the lent lists end as the run left them
pub returns-in-Err : goal.returns-in-Err
returns-in-Err c =
    let a = c.args in
    let i = input_of a.threads a.slots a.thread.now a.kind.now a.sample.now a.schedule.now in
    let l = lists_of a.codes.now a.values.now a.order.now a.marks.now a.held.now in
    let m = lists_in c.run_core.new.lent in
    let says = says_within i l a.phases.now a.numbers.now a.ends.now c.min.result c.min-room.result m (Err c.in-Err.refusal) c.min.ensures c.min-room.ensures (rw c.lent_input-input.ensures at c.in-Err.ensures.says) in
    let tells = tells_refused i l a.phases.now a.numbers.now a.ends.now m c.from-in-Err.result c.in-Err.refusal says c.from-in-Err.ensures in
    let codes = ap (λ (x : Lists). x.codes) tells.lists in
    let samples = ap (λ (x : Lists). x.samples) tells.lists in
    let order = ap (λ (x : Lists). x.order) tells.lists in
    let marks = ap (λ (x : Lists). x.marks) tells.lists in
    let held = ap (λ (x : Lists). x.held) tells.lists in
    record { answer = tells.answer; lists = search rules; phases = tells.phases; numbers = tells.numbers; ends = tells.ends }

pub returns-in-Ok : goal.returns-in-Ok
returns-in-Ok c =
    let a = c.args in
    let i = input_of a.threads a.slots a.thread.now a.kind.now a.sample.now a.schedule.now in
    let l = lists_of a.codes.now a.values.now a.order.now a.marks.now a.held.now in
    let m = lists_in c.run_core.new.lent in
    let says = says_within i l a.phases.now a.numbers.now a.ends.now c.min.result c.min-room.result m (Ok c.in-Ok.ran) c.min.ensures c.min-room.ensures (rw c.lent_input-input.ensures at c.in-Ok.ensures.says) in
    let k = c.show_records.new in
    let tells = tells_ran i l a.phases.now a.numbers.now a.ends.now m c.in-Ok.ran says c.from.result k.phases k.numbers k.ends c.from.ensures c.show_records.ensures in
    let codes = ap (λ (x : Lists). x.codes) tells.lists in
    let samples = ap (λ (x : Lists). x.samples) tells.lists in
    let order = ap (λ (x : Lists). x.order) tells.lists in
    let marks = ap (λ (x : Lists). x.marks) tells.lists in
    let held = ap (λ (x : Lists). x.held) tells.lists in
    record { answer = tells.answer; lists = search rules; phases = tells.phases; numbers = tells.numbers; ends = tells.ends }
