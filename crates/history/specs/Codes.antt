-- Nothing in this file has to be believed: what the code says of an event, which it has without its sample.
--   event_code  the event's code, as `code_of` of History.antt gives it
use Rattle.std.specs.Prelude.{ℕ}
use Rattle.std.proofs.Math.Option.{none}
use Rattle.history.specs.History.{call, ret, code_of}
use Rattle.history.specs.declared.Event.{Event}
use Rattle.history.specs.declared.Event.TheVariants.{Call, Return}

abbrev pub event_code : Event → ℕ
event_code (Call o) = code_of (call o)
event_code (Return o) = code_of (ret o none)
