use Rattle.std.proofs.Common.{arith, refl, sym}
use Rattle.numerals.specs.Decimal.{decimal}
use Rattle.numerals.proofs.PrintLaws.{sets_out, sets_rest}
use Rattle.numerals.proofs.Page.put_long.Goals as goal
use Rattle.numerals.proofs.Page.put_long.Goals.{then-self, else-self}

pub returns : goal.returns
returns c =
    let p = c.args.self.now in
    elim c.if-self.branch [
      | then-self w ↦ record { same = rw w.self-is refl; put = record { place = omega arith; text = rw w.self-is (sets_rest p.text.now (decimal c.args.n) p.at w.store_digits.new.text (omega arith) w.store_digits.ensures) } }
      | else-self w ↦ record { same = rw w.self-is refl; put = record { place = omega arith; text = rw w.self-is (sym (sets_out p.text.now p.at (decimal c.args.n) (omega arith))) } }
    ]
