-- Refused, nothing changed; played, the bench after the schedule is shown.
use Rattle.std.proofs.Common.{◌≡◌, rules}
use Rattle.std.specs.Prelude.{Ok, Err}
use Rattle.limits.specs.Inputs.{input_in}
use Rattle.stepping.specs.Twins.{played, play_twin}
use Rattle.run.specs.Lent.{lists_in}
use Rattle.run.specs.FinalTwin.{rest_room}
use Rattle.run.proofs.CoreLaws.{says_refused, concludes, says_ran}
use Rattle.run.proofs.run_core.Goals as goal

pub returns-in_err-state-clause-says : goal.returns-in_err-state-clause-says
returns-in_err-state-clause-says c =
    let a = c.args in
    let l = a.lent.now in
    let i = input_in a.input.now in
    let e = c.in_err-state.ensures in
    let ran : played (Err c.in_err-state.field-0.0) c.play.new.codes c.play.new.values ≡ play_twin i (rest_room i (lists_in l) a.room) l.codes.now l.values.now = rw c.is_roomy-roomy.ensures at e in
    let told : c.from_residual.result ≡ Err c.in_err-state.field-0.0 = search rules in
    rw told (says_refused i (lists_in l) a.room c.in_err-state.field-0.0 c.play.new.codes c.play.new.values ran)

pub conclude-requires : goal.conclude-requires
conclude-requires c =
    let a = c.args in
    let l = a.lent.now in
    let i = input_in a.input.now in
    let e = c.in_ok-state.ensures in
    let ran : played (Ok c.in_ok-state.state) c.play.new.codes c.play.new.values ≡ play_twin i (rest_room i (lists_in l) a.room) l.codes.now l.values.now = rw c.is_roomy-roomy.ensures at e in
    concludes i (lists_in l) a.room c.in_ok-state.state c.play.new.codes c.play.new.values ran

pub returns-clause-says : goal.returns-clause-says
returns-clause-says c =
    let a = c.args in
    let l = a.lent.now in
    let i = input_in a.input.now in
    let e = c.in_ok-state.ensures in
    let ran : played (Ok c.in_ok-state.state) c.play.new.codes c.play.new.values ≡ play_twin i (rest_room i (lists_in l) a.room) l.codes.now l.values.now = rw c.is_roomy-roomy.ensures at e in
    says_ran i (lists_in l) a.room c.in_ok-state.state c.play.new.codes c.play.new.values ran (lists_in c.conclude.new.self) c.conclude.result c.conclude.ensures.concluded
