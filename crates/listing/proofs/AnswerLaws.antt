-- The answer where a text is written into a lent one, and where it does not fit. Assumes nothing.
use mathlib.Core.Path.{◌≡◌, refl, sym, ap, ◌∙◌}
use mathlib.Core.Bool.{true, false}
use mathlib.Core.List.{List}
use Prim.Native.Nat.{ℕ, ◌≤◌, ◌<◌}
use native.Mathlib.Omega.{arith}
use borrow.Author.Tests.{le-leb, lt-leb}
use lib.Dec.{leb}
use lib.ListN.{length}
use Rattle.limits.specs.declared.Refusal.{Refusal}
use Rattle.limits.specs.declared.Refusal.TheVariants.{Room}
use Rattle.order.proofs.StoreLaws.{sets_front}
use Rattle.numerals.specs.declared.Page.{Page}
use Rattle.numerals.specs.Places.{Put, Wrote}
use Rattle.std.specs.Prelude.{Result, Ok, Err}
use Rattle.lines.specs.Lines.{refused_line}
use Rattle.listing.specs.Listing.{RefusalSays}
use Rattle.listing.specs.Twins.{TextSays}

-- a text that was put from 0 on, in a list long enough for it, stands there whole, and what stood after it still stands
pub text_fits : {w text new : List ℕ} {n : ℕ} → length w ≤ length text → length text ≤ 18446744073709551615 → Put text 0 w n new → TextSays w text (Ok n) new
text_fits {w} {text} {new} {n} fits small p =
    let e : n ≡ length w = omega (arith, p.place) in
    let b : leb (length w) (length text) ≡ true = le-leb (length w) (length text) fits in
    record { answer = rw (b, e); bytes = rw b (p.text ∙ sets_front text w (length w) refl fits) }

-- the same of a page opened on it; new is what the text holds afterwards
pub text_made : {w text new : List ℕ} {p q : Page} {n : ℕ} → length w ≤ length text → p.text.now ≡ text → p.at ≡ 0 → Wrote p w q → n ≡ q.at → new ≡ q.text.now → TextSays w text (Ok n) new
text_made {w} {text} {new} {p} {q} {n} fits t z x e f =
    let m : length text ≤ 18446744073709551615 = omega (arith, ap length t, p.reach) in
    let o : Put text 0 w q.at q.text.now = rw (sym t, sym z) x.put in
    text_fits fits m (rw (e, f) o)

-- where it does not fit, nothing is written
pub text_short : {w text : List ℕ} → length text < length w → TextSays w text (Err Room) text
text_short {w} {text} short =
    let b : leb (length w) (length text) ≡ false = lt-leb (length w) (length text) short in
    record { answer = rw b; bytes = rw b }

pub refusal_says : {r : Refusal} {text new : List ℕ} {n : Result ℕ Refusal} → TextSays (refused_line r) text n new → length (refused_line r) ≤ 64 → RefusalSays r text n new
refusal_says t short = record { answer = t.answer; bytes = t.bytes; short = short }
