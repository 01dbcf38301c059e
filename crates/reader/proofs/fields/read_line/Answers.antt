-- The line ends at the first line feed, and its fields say whether it is one of the word and a number.
use Rattle.std.proofs.Common.{sym}
use Rattle.reader.proofs.LineLaws.{line_unended, line_bad, line_is}
use Rattle.reader.proofs.fields.read_line.Goals as goal

pub returns-then-text-e : goal.returns-then-text-e
returns-then-text-e c =
    let a = c.args in
    line_unended a.w.now a.text.now a.a c.find-e.result c.find-e.ensures c.requires.0 c.if-text-e.true

pub returns-in_err-n : goal.returns-in_err-n
returns-in_err-n c =
    let a = c.args in
    rw c.from_residual.ensures (line_bad a.w.now a.text.now a.a c.find-e.result c.find-e.ensures c.requires.0 c.if-text-e.false (sym c.in_err-n.ensures))

pub returns : goal.returns
returns c =
    let a = c.args in
    line_is a.w.now a.text.now a.a c.find-e.result c.find-e.ensures c.requires.0 c.if-text-e.false c.in_ok-n.n (sym c.in_ok-n.ensures)
