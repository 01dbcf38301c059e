-- The core says what its records are; the first of them are stored, and a refused run leaves the lent ones as they are.
use Rattle.std.proofs.Common.{◌≡◌, rules}
use Rattle.std.specs.Prelude.{Err}
use Rattle.limits.specs.Inputs.{input_in}
use Rattle.run.specs.Lent.{lists_in}
use Rattle.records.proofs.SayLaws.{few_threads, says_refused, says_ran}
use Rattle.records.proofs.run.Goals as goal

pub returns-in_err-ran-clause-says : goal.returns-in_err-ran-clause-says
returns-in_err-ran-clause-says c =
    let a = c.args in
    let told : c.from_residual.result ≡ Err c.in_err-ran.field-0.0 = search rules in
    rw told (says_refused (input_in a.input.now) (lists_in a.lent.now) a.records.now (lists_in c.run_core.new.lent) c.in_err-ran.field-0.0 c.in_err-ran.ensures.says)

pub put_records-requires : goal.put_records-requires
put_records-requires c =
    let a = c.args in
    few_threads (input_in a.input.now) (lists_in a.lent.now) a.records.now (lists_in c.run_core.new.lent) c.in_ok-ran.ran c.in_ok-ran.ensures.says

pub returns-clause-says : goal.returns-clause-says
returns-clause-says c =
    let a = c.args in
    says_ran (input_in a.input.now) (lists_in a.lent.now) a.records.now (lists_in c.run_core.new.lent) c.in_ok-ran.ran c.in_ok-ran.ensures.says
    c.put_records.new.records c.put_records.ensures
