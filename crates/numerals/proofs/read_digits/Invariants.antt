-- What is read so far leaves the rest to be judged after the value.
use Rattle.std.proofs.Common.{◌≡◌, ◌≤◌, drop}
use Rattle.numerals.specs.Reading.{plain, all_digits}
use Rattle.numerals.proofs.DigitLaws.{judge}
use Rattle.numerals.proofs.read_digits.Given as goal

abbrev pub invariant-loop-digit : goal.invariant-loop-digit
invariant-loop-digit l =
    record {
      small : l.value ≤ l.limit;
      plain_so_far : plain l.s ≡ all_digits l.s;
      judged : judge l.limit 0 l.s ≡ judge l.limit l.value (drop l.digit-index l.s);
    }
