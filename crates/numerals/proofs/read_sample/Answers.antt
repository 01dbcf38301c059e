-- A sample is read with or without a minus. Assumes nothing.
use Rattle.std.proofs.Common.{arith, rules, None, Some, ◌≤◌, ◌<◌, ◌∙◌, ap, sym, length, subst, w32, FitsSigned}
use mir.ValLaws.{to_z-of_z}
use Rattle.numerals.proofs.SampleLaws.{sample_none, sample_minus, sample_plus, negated_is}
use Rattle.numerals.proofs.SignLaws.{minus_fits}
use Rattle.numerals.proofs.read_sample.Goals as goal

pub returns-then-is_empty : goal.returns-then-is_empty
returns-then-is_empty c = sample_none c.args.s.now (search rules)

pub returns-in_err-value : goal.returns-in_err-value
returns-in_err-value c =
    let some : 0 < length c.args.s.now = search rules in
    c.from_residual.ensures ∙ sample_minus c.args.s.now None some c.if-s-eq45.true c.in_err-value.ensures.value

pub returns-then-s-eq45 : goal.returns-then-s-eq45
returns-then-s-eq45 c =
    let s = c.args.s.now in
    let v = c.in_ok-value.value in
    let some : 0 < length s = search rules in
    ap Some (to_z-of_z w32 c.minus.result (subst (FitsSigned w32) (sym c.minus.ensures) (minus_fits v c.in_ok-value.ensures.within)) ∙ c.minus.ensures)
    ∙ negated_is v c.if-value-eq0.false
    ∙ sample_minus s (Some v) some c.if-s-eq45.true c.in_ok-value.ensures.value

pub returns-in_err-value-2 : goal.returns-in_err-value-2
returns-in_err-value-2 c =
    let some : 0 < length c.args.s.now = search rules in
    c.from_residual-in_err-value-2.ensures ∙ sample_plus c.args.s.now None some c.if-s-eq45.false c.in_err-value-2.ensures.value

pub returns : goal.returns
returns c =
    let s = c.args.s.now in
    let v = c.in_ok-value-2.value in
    let l : v ≤ 2147483647 = c.in_ok-value-2.ensures.within in
    let some : 0 < length s = search rules in
    ap Some (to_z-of_z w32 c.plus.result (subst (FitsSigned w32) (sym c.plus.ensures) (record { sfits = omega arith })) ∙ c.plus.ensures)
    ∙ sample_plus s (Some v) some c.if-s-eq45.false c.in_ok-value-2.ensures.value
