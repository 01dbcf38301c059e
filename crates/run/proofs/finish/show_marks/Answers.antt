-- The first n marks are the table of them.
use Rattle.std.proofs.Common.{◌≤◌, ◌≡◌, arith, length, rules}
use Rattle.run.proofs.FinalLaws.{take_tab}
use Rattle.run.proofs.finish.show_marks.Goals as goal

pub returns : goal.returns
returns c =
    let full : length c.args.marks.now ≡ 64 = search rules in
    let le : c.args.n ≤ length c.args.marks.now = omega (arith, c.requires.0) in
    rw (← take_tab c.args.marks.now 0 c.args.n le) (search rules)
