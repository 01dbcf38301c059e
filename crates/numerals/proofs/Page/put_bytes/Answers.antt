use Rattle.std.proofs.Common.{arith, refl, sym}
use Rattle.std.proofs.lemmas.List.{take_more}
use Rattle.numerals.proofs.PrintLaws.{sets_over, sets_out, wrote_then, wrote_as}
use Rattle.numerals.proofs.Page.put_bytes.Goals as goal

pub loop-byte-preserved : goal.loop-byte-preserved
loop-byte-preserved c =
    let w = c.args.w.now in
    let i = c.loop-byte.byte-index in
    wrote_as (sym (take_more w i 0 (omega arith))) (wrote_then c.loop-byte.invariant c.put_byte.ensures)

pub returns-then-w-self : goal.returns-then-w-self
returns-then-w-self c =
    let p = c.args.self.now in
    record {
      same = refl;
      put = record { place = omega arith; text = sets_over p.text.now c.args.w.now p.at _ c.copy_from_slice.new.self (omega arith) (omega arith) c.copy_from_slice.ensures.after };
    }

pub returns-then-self : goal.returns-then-self
returns-then-self c =
    let p = c.args.self.now in
    record {
      same = refl;
      put = record { place = omega arith; text = sym (sets_out p.text.now p.at c.args.w.now (omega arith)) };
    }
