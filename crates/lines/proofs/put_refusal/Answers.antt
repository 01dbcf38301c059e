-- A word, the refusal's number and its detail, put one after the other.
use Rattle.std.proofs.Common.{arith, ◌≡◌, [], ◌∷◌}
use Rattle.limits.specs.Refusals.{refusal_told}
use Rattle.numerals.proofs.PrintLaws.{wrote_then, wrote_as}
use Rattle.numerals.specs.Decimal.{decimal}
use Rattle.numerals.specs.Words.{bytes, line}
use Rattle.lines.specs.Lines.{refused_line}
use Rattle.lines.proofs.LengthLaws.{refused_short}
use Rattle.lines.proofs.put_refusal.Goals as goal

pub returns-clause-put : goal.returns-clause-put
unfolding refused_line
returns-clause-put c =
    let n : c.number.result ≡ (refusal_told c.args.r).0 = c.number.ensures in
    let d : c.detail.result ≡ (refusal_told c.args.r).1 = c.detail.ensures in
    wrote_as (λ i. line (bytes "refused" ∷ decimal (n i) ∷ decimal (d i) ∷ []))
    (wrote_then c.put_bytes.ensures (wrote_then c.put_number.ensures (wrote_then c.put_byte.ensures c.end_number.ensures)))

pub returns-clause-short : goal.returns-clause-short
returns-clause-short c = refused_short c.args.r (omega (arith, c.number.type_inv, c.number.ensures)) (omega (arith, c.detail.type_inv, c.detail.ensures))
