-- What passes the first eight refusals can be played; with room, it is played to the end.
use Rattle.std.proofs.Common.{◌≡◌, rules, sym, ap, ◌∙◌}
use Rattle.std.specs.Prelude.{Ok, Err}
use Rattle.limits.specs.Refusals.{input_refusal}
use Rattle.limits.specs.Inputs.{input_in}
use Rattle.stepping.specs.Twins.{World, world_with, state_with, no_finds, play_run, play_fit, play_twin}
use Rattle.stepping.proofs.TwinLaws.{playable, start_within}
use Rattle.stepping.proofs.play.Goals as goal

pub returns-in_err-check : goal.returns-in_err-check
unfolding play_twin play_fit
returns-in_err-check c =
    let e : input_refusal (input_in c.args.input.now) ≡ Err c.in_err-check.field-0.0 = sym c.in_err-check.ensures in
    rw e (search rules)

pub has_room-requires : goal.has_room-requires
has_room-requires c = (playable (input_in c.args.input.now) (sym c.in_ok-check.ensures)).few

pub returns-then-not-has_room : goal.returns-then-not-has_room
unfolding play_twin play_fit
returns-then-not-has_room c =
    let e : input_refusal (input_in c.args.input.now) ≡ Ok tt = sym c.in_ok-check.ensures in
    rw (e, sym c.has_room.ensures ∙ c.if-not-has_room.true)

pub new-requires : goal.new-requires
new-requires c = let p = playable (input_in c.args.input.now) (sym c.in_ok-check.ensures) in (p.few, p.owned)

pub run_all-moving-requires-clause-within : goal.run_all-moving-requires-clause-within
run_all-moving-requires-clause-within c = start_within (state_with c.new-2.result no_finds) c.new.result.first c.new-2.ensures

pub run_all-moving-requires-clause-schedule_small : goal.run_all-moving-requires-clause-schedule_small
run_all-moving-requires-clause-schedule_small c = let p = playable (input_in c.args.input.now) (sym c.in_ok-check.ensures) in (p.short, p.named)

pub returns : goal.returns
unfolding play_twin play_fit play_run
returns c =
    let a = c.args in
    let table = a.input.now.table in
    let e : input_refusal (input_in a.input.now) ≡ Ok tt = sym c.in_ok-check.ensures in
    let w = play_run (input_in a.input.now) a.codes.now a.values.now in
    let ran : world_with c.run_all-moving.result c.run_all-moving.new.finds c.run_all-moving.new.events ≡ w =
    rw (c.run_all-moving.ensures.world_after, c.new-2.ensures, c.new.ensures) in
    let state : state_with c.run_all-moving.result c.run_all-moving.new.finds ≡ w.state = ap (λ (v : World). v.state) ran in
    let codes : c.run_all-moving.new.events.codes.now ≡ w.codes = ap (λ (v : World). v.codes) ran in
    let values : c.run_all-moving.new.events.values.now ≡ w.values = ap (λ (v : World). v.values) ran in
    rw (e, sym c.has_room.ensures ∙ c.if-not-has_room.false) (search rules)
