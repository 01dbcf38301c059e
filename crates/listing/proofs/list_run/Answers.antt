-- The run is refused for nothing but its input, and what is filled is the listing of what it says.
use Rattle.std.proofs.Common.{rules, refl}
use Rattle.listing.proofs.RunnerLaws.{list_refused, filled, list_ran}
use Rattle.listing.proofs.list_run.Goals as goal

pub returns-in_err-ran : goal.returns-in_err-ran
returns-in_err-ran c = list_refused c.args.text.now c.in_err-ran.ensures.says (search rules)

pub slice_bounds-codes-end : goal.slice_bounds-codes-end
slice_bounds-codes-end c = let f = filled c.in_ok-ran.ensures.says in search rules

pub slice_bounds-shown-end : goal.slice_bounds-shown-end
slice_bounds-shown-end c = let f = filled c.in_ok-ran.ensures.says in search rules

pub slice_bounds-values-end : goal.slice_bounds-values-end
slice_bounds-values-end c = let f = filled c.in_ok-ran.ensures.says in search rules

pub slice_bounds-shown-end-2 : goal.slice_bounds-shown-end-2
slice_bounds-shown-end-2 c = let f = filled c.in_ok-ran.ensures.says in search rules

pub slice_bounds-order-end : goal.slice_bounds-order-end
slice_bounds-order-end c = let f = filled c.in_ok-ran.ensures.says in search rules

pub slice_bounds-shown-end-3 : goal.slice_bounds-shown-end-3
slice_bounds-shown-end-3 c = let f = filled c.in_ok-ran.ensures.says in search rules

pub slice_bounds-marks-end : goal.slice_bounds-marks-end
slice_bounds-marks-end c = let f = filled c.in_ok-ran.ensures.says in search rules

pub slice_bounds-shown-end-4 : goal.slice_bounds-shown-end-4
slice_bounds-shown-end-4 c = let f = filled c.in_ok-ran.ensures.says in search rules

pub slice_bounds-held-end : goal.slice_bounds-held-end
slice_bounds-held-end c = let f = filled c.in_ok-ran.ensures.says in search rules

pub slice_bounds-shown-end-5 : goal.slice_bounds-shown-end-5
slice_bounds-shown-end-5 c = let f = filled c.in_ok-ran.ensures.says in search rules

pub shared_ref_as_front-shown : goal.shared_ref_as_front-shown
shared_ref_as_front-shown c = (filled c.in_ok-ran.ensures.says).threads_in

pub returns : goal.returns
returns c =
    let f = filled c.in_ok-ran.ensures.says in
    list_ran f.pass
    (record {
      summary = f.summary;
      kind = refl;
      codes = search rules;
      values = search rules;
      order = search rules;
      marks = search rules;
      held = search rules;
      records = f.records;
    })
    c.fill.ensures.text_says c.fill.ensures.short
