-- What the writer and the listing say, told in numbers. Assumes nothing.
--   tells_written, tells_listed   their answers in numbers, and the lent text as they leave it
--   list_tells_fits               the listing of an accepted input is told whole in every text of 12,288 bytes
use Rattle.std.specs.Prelude.{Err, Ok, Result}
use Rattle.limits.specs.declared.Refusal.{Refusal}
use mathlib.Core.Path.{◌≡◌, refl, sym, ap, ◌∙◌}
use mathlib.Core.List.{List}
use Prim.Native.Nat.{ℕ, ◌≤◌}
use lib.ListN.{length}
use Rattle.limits.specs.Lists.{over}
use Rattle.limits.specs.Operations.{Input}
use Rattle.limits.specs.Refusals.{input_refusal}
use Rattle.runfile.specs.RunText.{run_text}
use Rattle.runfile.specs.Answers.{write_fit, WriteSays}
use Rattle.listing.specs.Listing.{listing_text, listing_fit, ListSays}
use Rattle.listing.proofs.OnlyLaws.{list_fits}
use Rattle.outside.specs.declared.texts.TextAnswer.{TextAnswer}
use Rattle.outside.specs.Texts.{text_numbers, WriteTells, ListTells}
use Rattle.outside.specs.Told.{text_told}
use Rattle.limits.proofs.FitLaws.{in_numbers}

module _ (i : Input) (text text' : List ℕ) where
  pub tells_written : (q : Result ℕ Refusal) (r : TextAnswer) → WriteSays i text q text' → r ≡ text_told q → WriteTells i text r text'
  tells_written q r says told =
      record {
        answer = told ∙ ap text_told says.answer ∙ in_numbers text_told (write_fit i (length text)) (Ok (length (run_text i))) Err;
        bytes = says.bytes;
      }

  pub tells_listed : (q : Result ℕ Refusal) (r : TextAnswer) → ListSays i text q text' → r ≡ text_told q → ListTells i text r text'
  tells_listed q r says told =
      record {
        answer = told ∙ ap text_told says.answer ∙ in_numbers text_told (listing_fit i (length text)) (Ok (length (listing_text i))) Err;
        bytes = says.bytes;
        short = says.short;
      }

  pub list_tells_fits : (r : TextAnswer) → input_refusal i ≡ Ok tt → 12288 ≤ length text → ListTells i text r text'
      → (r ≡ text_numbers (0, 0) (length (listing_text i))) × (text' ≡ over (listing_text i) text)
  list_tells_fits r pass room tells =
      let k = list_fits i text _ text' pass room (record { answer = refl; bytes = tells.bytes; short = tells.short }) in
      (tells.answer ∙ sym (in_numbers text_told (listing_fit i (length text)) (Ok (length (listing_text i))) Err) ∙ ap text_told k.0, k.1)
