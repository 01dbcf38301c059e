-- The first bytes are put.
use Rattle.std.proofs.Common.{take}
use Rattle.numerals.specs.Places.{Wrote}
use Rattle.numerals.proofs.Page.put_bytes.Given as goal

abbrev pub invariant-loop-byte : goal.invariant-loop-byte
invariant-loop-byte l = Wrote l.fn.self (take l.byte-index l.w) l.self
