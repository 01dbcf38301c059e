use Rattle.std.proofs.Common.{arith, rules, sym}
use Rattle.limits.specs.Inputs.{input_in}
use Rattle.limits.proofs.PassLaws.{input_passed}
use Rattle.writer.proofs.WriteLaws.{written, no_room, refused}
use Rattle.writer.proofs.write_run.Goals as goal

pub returns-in_err-check : goal.returns-in_err-check
returns-in_err-check c = refused _ (sym c.in_err-check.ensures) (search rules)

pub write_text-requires : goal.write_text-requires
write_text-requires c = let p = input_passed (input_in c.args.input.now) (sym c.in_ok-check.ensures) in (p.kinds, p.samples)

pub returns-then-text-count : goal.returns-then-text-count
returns-then-text-count c =
    no_room (input_in c.args.input.now) (sym c.in_ok-check.ensures) (omega arith) c.new-counted.ensures.start c.write_text.ensures.put c.write_text.ensures.fitting

pub write_text-requires-2 : goal.write_text-requires-2
write_text-requires-2 c = let p = input_passed (input_in c.args.input.now) (sym c.in_ok-check.ensures) in (p.kinds, p.samples)

pub returns : goal.returns
returns c =
    let p = c.new-page.ensures in
    written (input_in c.args.input.now) (sym c.in_ok-check.ensures) (omega (arith, p.start, c.new-counted.ensures.start, c.write_text.ensures.put.put.place, c.write_text-2.ensures.put.put.place)) p.text p.start c.write_text-2.ensures.put c.write_text-2.ensures.fitting c.count-2.ensures (search rules)
