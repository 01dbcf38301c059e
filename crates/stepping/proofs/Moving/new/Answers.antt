-- Each thread waits for its first operation: `map` says so entry by entry.
use Rattle.std.proofs.Common.{rules, ◌≡◌, ℕ, ◌<◌, map, length, get_or, sym, ◌∙◌, arith}
use Rattle.std.specs.Prelude.{None}
use Rattle.std.proofs.lemmas.List.{ext_get_or}
use lib.ListN.{length-map, get_or-map}
use Rattle.stepping.specs.declared.Doing.TheVariants.{Rest}
use Rattle.stepping.specs.Twins.{start_state, resting}
use Rattle.stepping.proofs.Moving.new.Goals as goal

pub returns : goal.returns
unfolding start_state
returns c =
    let first = c.args.first in
    let m = c.map.ensures.items in
    let same = λ (i : ℕ) (lt : i < length c.map.result).
    let z = (m.at i None resting (omega arith)).2 in
    let e : get_or c.map.result i resting ≡ Rest (get_or first i None) = search rules in
    e ∙ sym (get_or-map Rest first i None) in
    let full : length first ≡ 16 = search rules in
    let e : c.map.result ≡ map Rest first = ext_get_or resting c.map.result (map Rest first) (m.long ∙ sym full ∙ sym (length-map first Rest)) same in
    rw e
