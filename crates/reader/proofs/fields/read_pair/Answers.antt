-- What follows the word and its tab is read as the number; where they are missing, so is the line.
use Rattle.std.proofs.Common.{◌-◌, ◌∙◌, sym, take, drop}
use Rattle.runfile.proofs.FieldLaws.{number_none}
use Rattle.reader.proofs.WordLaws.{pair_at}
use Rattle.reader.proofs.fields.read_pair.Goals as goal

pub returns-in_err-f : goal.returns-in_err-f
returns-in_err-f c =
    let a = c.args in
    c.from_residual.ensures ∙ sym (number_none a.w.now (take (a.e - a.a) (drop a.a a.text.now)) c.in_err-f.ensures)

pub returns : goal.returns
returns c =
    let a = c.args in
    c.read_number.ensures ∙ pair_at a.text.now a.a a.e c.requires.0 c.requires.1.0 a.w.now c.requires.1.1 c.in_ok-f.f c.in_ok-f.ensures
