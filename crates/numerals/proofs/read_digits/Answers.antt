use Rattle.std.proofs.Common.{arith, rules, ◌≤◌, ◌+◌, ◌∙◌, drop, get_or}
use Rattle.numerals.proofs.DigitLaws.{judge_over, next_at, from_judge}
use Rattle.numerals.proofs.read_digits.Goals as goal

pub returns-then-limit-value-clause-value : goal.returns-then-limit-value-clause-value
returns-then-limit-value-clause-value c =
    let s = c.args.s.now in
    let l = c.args.limit in
    let h = c.loop-digit in
    let low : 48 ≤ get_or s h.digit-index 0 = search rules in
    let high : get_or s h.digit-index 0 ≤ 57 = search rules in
    from_judge s l _ h.invariant.plain_so_far
    (h.invariant.judged ∙ next_at s l h.value h.digit-index (omega arith) low high ∙ judge_over l _ (drop (h.digit-index + 1) s) c.if-limit-value.true)
