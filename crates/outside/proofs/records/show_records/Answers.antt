-- `show_records` meets its contract: one turn writes what one record more shows. Assumes nothing.
use mathlib.Core.Path.{◌≡◌, ap, ◌∙◌}
use mathlib.Core.List.{List, map, append_assoc}
use Prim.Native.Nat.{ℕ, suc, ◌+◌, ◌<◌, ◌≤◌}
use native.Mathlib.Omega.{arith}
use lib.IntN.{ℤ, pos}
use lib.ListN.{length, set, get_or, take, drop, length-map}
use lib.Seq.{length-take-le, drop-cons, set_at}
use borrow.Author.Rules.{rules}
use Rattle.std.proofs.lemmas.List.{map_more}
use Rattle.limits.specs.Lists.{over}
use Rattle.limits.proofs.LimitsLaws.{back32}
use Rattle.run.specs.Core.{rest_record}
use Rattle.outside.proofs.records.show_records.Goals as goal

over_more : {A B : Type 0} (f : A → B) (xs : List A) (l now : List B) (i : ℕ) (z : A) (x d : B) → i < length xs → length xs ≤ length l
    → now ≡ over (map f (take i xs)) l → x ≡ f (get_or xs i z) → set now i x ≡ over (map f (take (i + 1) xs)) l
over_more f xs l now i z x d lt room e y =
    let n : length (map f (take i xs)) ≡ i = length-map (take i xs) f ∙ length-take-le i xs (omega arith) in
    let m : length (map f (take (i + 1) xs)) ≡ suc i = length-map (take (i + 1) xs) f ∙ length-take-le (i + 1) xs (omega arith) ∙ omega arith in
    rw (e, n, m, map_more f xs i z lt, drop-cons l i d (omega arith), append_assoc, y) (set_at (map f (take i xs)) (get_or l i d) (drop (suc i) l) (f (get_or xs i z)) i n)

pub loop-i-preserved : goal.loop-i-preserved
loop-i-preserved c =
    let rs = c.args.records.now in
    let told = c.tell.ensures in
    let h = c.loop-i in
    record {
      phases = over_more _ rs _ _ h.i rest_record _ 0 (omega arith) c.requires.phase_room h.invariant.phases (ap (λ (x : ℕ × ℤ × ℕ). x.0) told);
      numbers = over_more _ rs _ _ h.i rest_record _ (pos 0) (omega arith) c.requires.number_room h.invariant.numbers (back32 c.tell.result.1 (search rules) ∙ ap (λ (x : ℕ × ℤ × ℕ). x.1) told);
      ends = over_more _ rs _ _ h.i rest_record _ 0 (omega arith) c.requires.end_room h.invariant.ends (ap (λ (x : ℕ × ℤ × ℕ). x.2) told);
    }
