-- `order::list_order` meets its contract: rows that fit are laid out behind the place of the takes, then merged there. Assumes nothing.
use mathlib.Core.Path.{sym, ◌∙◌}
use Prim.Native.Nat.{◌+◌, ◌≤◌}
use native.Mathlib.Omega.{arith}
use lib.ListN.{length}
use Rattle.order.proofs.FitLaws.{fits_true, answer_unfit, answer_done}
use Rattle.order.proofs.WeavingLaws.{laid_row, laid_rest, listing_laid, listing_long}
use Rattle.order.proofs.list_order.Goals as goal

pub returns-then-not-fit : goal.returns-then-not-fit
returns-then-not-fit c =
    let r = c.args.rows.now in
    let e = answer_unfit c.args.codes.now r.takes.now r.puts.now r.others.now c.args.order.now (sym c.fit.ensures ∙ c.if-not-fit.true) in
    record { value = e.0; order_after = e.1 }

pub returns : goal.returns
returns c =
    let codes = c.args.codes.now in
    let r = c.args.rows.now in
    let order = c.args.order.now in
    let m = length r.takes.now in
    let fitting = sym c.fit.ensures ∙ c.if-not-fit.false in
    let together = fits_true m (length r.puts.now) (length r.others.now) (length order) fitting in
    let laid = c.copy_from_slice.ensures.after in
    let also = c.copy_from_slice-2.ensures.after in
    let fits : m + length r.puts.now + length r.others.now ≤ length order = omega (arith, together) in
    let d = answer_done codes r.takes.now r.puts.now r.others.now order _ (m + length r.puts.now + length r.others.now) fitting
    (listing_long codes r.takes.now r.puts.now r.others.now together.0)
    (listing_laid codes r.takes.now r.puts.now r.others.now order _ c.merge_rows.new.order _ together.0 fits
    (laid_row order r.puts.now r.others.now c.copy_from_slice.new.self c.copy_from_slice-2.new.self m laid also fits)
    c.merge_rows.ensures
    (laid_rest order r.puts.now r.others.now c.copy_from_slice.new.self c.copy_from_slice-2.new.self m laid also fits)) in
    record { value = d.0; order_after = d.1 }
