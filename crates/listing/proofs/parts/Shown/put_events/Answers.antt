use Rattle.std.proofs.Common.{arith, rules, ◌≡◌, ◌≤◌, ℕ, ◌+◌, ◌∙◌, subst, ap, length, pos, w32, FitsSigned, [], ◌∷◌, ◌++◌, length-append}
use Rattle.std.proofs.lemmas.Slice.Zip.{zip_turn, zip_end}
use mir.ValLaws.{to_z-of_z}
use Rattle.numerals.proofs.PrintLaws.{wrote_as}
use Rattle.lines.specs.Twins.{event_by}
use Rattle.lines.proofs.LengthLaws.{event_low}
use Rattle.listing.specs.Twins.{event_at}
use Rattle.listing.proofs.LoopLaws.{Printed, printed_first, printed_next}
use Rattle.listing.proofs.parts.Shown.put_events.Goals as goal

pub loop-code-init : goal.loop-code-init
loop-code-init c =
    let s = c.args.self.now in
    printed_first c.args.page.now (event_at s.kind.now s.codes.now s.values.now) 31

-- the turn's code and sample are those at its index
pub loop-code-preserved : goal.loop-code-preserved
loop-code-preserved c =
    let s = c.args.self.now in
    let g = event_at s.kind.now s.codes.now s.values.now in
    let done = c.loop-code.yielded in
    let code = c.in-Some.code.now in
    let value = c.in-Some.value.now in
    let at = zip_turn s.codes.now s.values.now done c.into_iter-code-iterator.result c.loop-code.code-iterator c.next.new.self c.next.result (search rules) (search rules) c.loop-code.yielded_by _ c.in-Some.is c.next.ensures.steps in
    let fits : FitsSigned w32 value = search rules in
    let low : length (event_by s.kind.now code value) ≤ 31 = event_low s.kind.now code value (search rules) fits in
    let same : event_by s.kind.now code value ≡ g (length done) = λ j. event_by s.kind.now (at.2 0 j) (at.3 (pos 0) j) in
    let next : length done + 1 ≡ length (done ++ ((c.in-Some.code, c.in-Some.value) ∷ [])) = omega (arith, length-append done ((c.in-Some.code, c.in-Some.value) ∷ [])) in
    subst (λ (n : ℕ). Printed c.args.page.now g 31 c.put_event.new.page n) next
    (printed_next g c.loop-code.invariant (wrote_as (ap (event_by s.kind.now code) (to_z-of_z w32 value fits) ∙ same) c.put_event.ensures) (rw same at low))

turns : (c : goal.In-None) → length c.loop-code.yielded ≡ length c.args.self.now.codes.now
turns c =
    let s = c.args.self.now in
    omega (arith, zip_end s.codes.now s.values.now c.loop-code.yielded c.into_iter-code-iterator.result c.loop-code.code-iterator c.next.new.self c.next.result (search rules) (search rules) c.loop-code.yielded_by c.in-None.is c.next.ensures.steps)

pub returns-clause-put : goal.returns-clause-put
returns-clause-put c = rw (turns c) at c.loop-code.invariant.put

pub returns-clause-short : goal.returns-clause-short
returns-clause-short c =
    let s = c.args.self.now in
    let low = c.loop-code.invariant.low in
    let all = rw (turns c) at low in
    omega (arith, all)
