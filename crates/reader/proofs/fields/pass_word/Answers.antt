-- The line begins with the word and a tab exactly where all tests hold.
use Rattle.std.proofs.Common.{◌+◌, refl, length}
use Rattle.reader.proofs.WordLaws.{pass_at, pass_other, pass_untabbed}
use Rattle.reader.proofs.fields.pass_word.Goals as goal
use Rattle.reader.proofs.fields.pass_word.Goals.{else-text-b-eq9-via-then-text-b-eq9+else-same, else-text-b-eq9-via-else-text-b-eq9}

pub returns-then-same : goal.returns-then-same
returns-then-same c =
    let a = c.args in
    pass_at a.text.now a.a a.e c.requires.0 c.requires.1 a.w.now (a.a + length a.w.now) refl c.if-e-a.false c.if-text-b-eq9.true (c.same.ensures.0 c.if-same.true)

pub returns : goal.returns
returns c =
    let a = c.args in
    elim c.else-text-b-eq9.branch [
      | else-text-b-eq9-via-then-text-b-eq9+else-same w ↦
          pass_other a.text.now a.a a.e c.requires.0 c.requires.1 a.w.now (a.a + length a.w.now) refl c.if-e-a.false (λ q. let t = w.same.ensures.1 q in let f = w.if-same.false in cc)
      | else-text-b-eq9-via-else-text-b-eq9 w ↦
          pass_untabbed a.text.now a.a a.e c.requires.0 c.requires.1 a.w.now (a.a + length a.w.now) refl c.if-e-a.false w.if-text-b-eq9.false
    ]
