-- The bytes that are tested are those of the line of a step of one or two digits.
use Rattle.std.proofs.Common.{rules, ◌+◌, ◌≤◌, refl, slice_index_or}
use Rattle.reader.proofs.ShortLaws.{short_one, short_two}
use Rattle.reader.proofs.fields.read_short.Goals as goal

pub returns-then-d-eq10 : goal.returns-then-d-eq10
returns-then-d-eq10 c =
    let a = c.args in
    let low : 48 ≤ slice_index_or a.text.now (a.a + 5) 0 = search rules in
    let high : slice_index_or a.text.now (a.a + 5) 0 ≤ 57 = search rules in
    short_one a.text.now a.a (a.a + 5) refl c.if-text-a-lt8.false (c.same.ensures.0 c.if-not-same.false) low high c.if-d-eq10.true

pub returns-then-text-f-eq10 : goal.returns-then-text-f-eq10
returns-then-text-f-eq10 c =
    let a = c.args in
    let low : 48 ≤ slice_index_or a.text.now (a.a + 5) 0 = search rules in
    let high : slice_index_or a.text.now (a.a + 5) 0 ≤ 57 = search rules in
    let low_next : 48 ≤ slice_index_or a.text.now (a.a + 5 + 1) 0 = search rules in
    let high_next : slice_index_or a.text.now (a.a + 5 + 1) 0 ≤ 57 = search rules in
    short_two a.text.now a.a (a.a + 5) refl c.if-text-a-lt8.false (c.same.ensures.0 c.if-not-same.false) low high c.if-c-ne48.true low_next high_next c.if-text-f-eq10.true
