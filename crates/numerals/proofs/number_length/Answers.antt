use Rattle.std.proofs.Common.{arith}
use Rattle.numerals.proofs.PrintLaws.{length_one, length_more}
use Rattle.numerals.proofs.number_length.Goals as goal

pub loop-rest-preserved : goal.loop-rest-preserved
loop-rest-preserved c = record { small = omega arith; counted = omega (arith, length_more c.loop-rest.rest (omega arith)) }

pub returns : goal.returns
returns c = omega (arith, length_one c.loop-rest.rest (omega arith))
