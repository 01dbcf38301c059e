-- The numbers of the verdicts (document 01, 'The judge'). Assumes nothing.
--   verdict_number  the document's number of each verdict
use Rattle.std.specs.Prelude.{ℕ}
use Rattle.linear.specs.declared.Verdict.{Verdict}
use Rattle.linear.specs.declared.Verdict.TheVariants.{Linear, NoOperation, Uncalled, Missing, Turned, Unplayable}

abbrev pub verdict_number : Verdict → ℕ
verdict_number Linear = 0
verdict_number NoOperation = 20
verdict_number Uncalled = 21
verdict_number Missing = 22
verdict_number Turned = 23
verdict_number Unplayable = 24
