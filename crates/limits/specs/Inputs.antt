-- The input that a call is given, in the words of Operations.antt. Assumes nothing.
--   input_in  the numbers and lists of a struct `Input`
--   (the struct's lists are lent: `now` is what stands in them)
use Rattle.limits.specs.Operations.{Input, input_of}
use Rattle.limits.specs.declared.Input.{Input as Given}

abbrev pub input_in : Given → Input
input_in i = input_of i.threads i.slots i.table.thread.now i.table.kind.now i.table.sample.now i.schedule.now
