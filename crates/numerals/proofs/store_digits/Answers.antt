use Rattle.std.proofs.Common.{arith, [], ◌≡◌, ◌∙◌, ◌+◌, ◌-◌, ◌%◌, ap, refl, sym, ◌++◌, List, ℕ}
use mathlib.Core.List.{append-nil}
use lib.Seq.{set_out}
use Rattle.std.proofs.lemmas.List.Edits.{sets}
use Rattle.numerals.proofs.PrintLaws.{lows, decimal_lows, digit_next}
use Rattle.numerals.proofs.store_digits.Goals as goal
use Rattle.numerals.proofs.store_digits.Goals.{then-i-text, else-i-text}

pub loop-i-init : goal.loop-i-init
loop-i-init c = ([], (decimal_lows c.args.count c.args.n (sym c.requires) ∙ sym (append-nil _), refl))

pub loop-i-preserved : goal.loop-i-preserved
loop-i-preserved c =
    let h = c.loop-i.invariant in
    let i = c.loop-i.i in
    let n = digit_next c.args.text.now i c.args.n c.loop-i.rest c.loop-i.text h.0 (omega arith) h.1.0 h.1.1 in (
      _,
      (
        n.0,
        elim c.if-i-text.branch [
          | then-i-text w ↦ w.text-is ∙ n.1
          | else-i-text w ↦ w.text-is ∙ sym (set_out c.loop-i.text (i - 1) (48 + c.loop-i.rest % 10) (omega arith)) ∙ n.1
        ],
      ),
    )

pub returns : goal.returns
returns c =
    let h = c.loop-i.invariant in
    let text = c.args.text.now in
    let none : c.loop-i.i ≡ 0 = omega arith in
    let digits = h.1.0 ∙ ap (λ (k : ℕ). lows k c.loop-i.rest ++ h.0) none in
    h.1.1 ∙ ap (λ (k : ℕ). sets text k h.0) none ∙ ap (λ (s : List ℕ). sets text 0 s) (sym digits)
