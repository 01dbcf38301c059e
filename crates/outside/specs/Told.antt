-- Nothing in this file has to be believed: an answer or its refusal, in the numbers of Outside.antt and Texts.antt.
--   outcome_numbers   a run's
--   text_told         that of a text made
use Rattle.std.specs.Prelude.{ℕ, Err, Ok, Result}
use Rattle.limits.specs.declared.Refusal.{Refusal}
use Rattle.limits.specs.Refusals.{refusal_told}
use Rattle.run.specs.declared.Summary.{Summary}
use Rattle.outside.specs.declared.RunAnswer.{RunAnswer}
use Rattle.outside.specs.declared.texts.TextAnswer.{TextAnswer}
use Rattle.outside.specs.Outside.{run_numbers, nothing}
use Rattle.outside.specs.Texts.{text_numbers}

abbrev pub outcome_numbers : Result Summary Refusal → RunAnswer
outcome_numbers (Ok s) = run_numbers (0, 0) s
outcome_numbers (Err x) = run_numbers (refusal_told x) nothing

abbrev pub text_told : Result ℕ Refusal → TextAnswer
text_told (Ok n) = text_numbers (0, 0) n
text_told (Err x) = text_numbers (refusal_told x) 0
