-- What the listing answers, refusals too, and what the lent text holds afterwards (document 01, 'Numbered refusals': the listing, made from a
-- run's own inputs, tests 1 to 9, and for 9 needs room for the bytes it writes; 'Refused input prints one line'). Assumes nothing.
--   listing_text  the listing of a run
--   text_fit      a text of some bytes in a lent text of some length: 9 where it does not fit
--   listing_fit   the refusal that the input gets, or none: 1 to 8, then 9
--   ListSays      the answer to a run's input, the number of bytes written, or the refusal; and the lent text afterwards: exactly the listing and then what
--                 stood there; on a refusal as it was; and that 12,288 bytes are room for the listing of every accepted input
--   RefusalSays   the same for the one line of a refusal, of which nothing but 9 is tested; 64 bytes are room for it
use Rattle.limits.specs.Refusals.{Fit}
use Rattle.std.specs.Prelude.{◌≡◌, List, ℕ, ◌≤◌, leb, length, Err, Ok, Result}
use Rattle.limits.specs.declared.Refusal.{Refusal}
use Rattle.limits.specs.declared.Refusal.TheVariants.{Room}
use Rattle.limits.specs.Operations.{Input}
use Rattle.limits.specs.Refusals.{input_refusal, and_then, unless, by_fit, lent_after}
use Rattle.run.specs.Run.{bench_after, summary_of}
use Rattle.lines.specs.Lines.{listing_of, refused_line}

unfoldable pub listing_text : Input → List ℕ
listing_text i = listing_of (summary_of i) (bench_after i)

abbrev pub text_fit : ℕ → ℕ → Fit
text_fit bytes room = unless (leb bytes room) Room (Ok tt)

unfoldable pub listing_fit : Input → ℕ → Fit
listing_fit i room = and_then (input_refusal i) (text_fit (length (listing_text i)) room)

pub record ListSays (i : Input) (text : List ℕ) (r : Result ℕ Refusal) (text' : List ℕ) : Type 0 where
  pub answer : r ≡ by_fit (listing_fit i (length text)) (Ok (length (listing_text i))) Err
  pub bytes : text' ≡ lent_after (listing_fit i (length text)) (listing_text i) text
  pub short : input_refusal i ≡ Ok tt → length (listing_text i) ≤ 12288

pub record RefusalSays (refusal : Refusal) (text : List ℕ) (r : Result ℕ Refusal) (text' : List ℕ) : Type 0 where
  pub answer : r ≡ by_fit (text_fit (length (refused_line refusal)) (length text)) (Ok (length (refused_line refusal))) Err
  pub bytes : text' ≡ lent_after (text_fit (length (refused_line refusal)) (length text)) (refused_line refusal) text
  pub short : length (refused_line refusal) ≤ 64
