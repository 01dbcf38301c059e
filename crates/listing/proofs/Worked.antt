-- Run A of document 01, 'Runs worked by hand': the definition of a listing gives the document's, byte for byte. Assumes nothing.
use mathlib.Core.Path.{◌≡◌, refl}
use mathlib.Core.List.{List, [], ◌∷◌}
use Prim.Native.Nat.{ℕ}
use native.Mathlib.Decide.{ℕ_discrete}
use lib.IntN.{pos}
use Rattle.numerals.specs.Decimal.{decimal}
use Rattle.numerals.specs.Samples.{sample_text}
use Rattle.machine.specs.Bench.{step, own_from, resting, start, played}
use Rattle.machine.specs.Counts.{counted}
use Rattle.machine.specs.Shown.{unfound}
use Rattle.limits.specs.Operations.{input_of}
use Rattle.run.specs.Run.{summary_of}
use Rattle.order.specs.Order.{merge}
use Rattle.lines.specs.Lines.{lines_from, listing_of}
use Rattle.listing.specs.Listing.{listing_text}

-- the listing that document 01 prints, a line a line
pub listing_a : List ℕ
listing_a =
    98 ∷ 97 ∷ 99 ∷ 107 ∷ 9 ∷ 50 ∷ 10 ∷
    101 ∷ 118 ∷ 101 ∷ 110 ∷ 116 ∷ 9 ∷ 99 ∷ 97 ∷ 108 ∷ 108 ∷ 9 ∷ 48 ∷ 10 ∷
    101 ∷ 118 ∷ 101 ∷ 110 ∷ 116 ∷ 9 ∷ 99 ∷ 97 ∷ 108 ∷ 108 ∷ 9 ∷ 49 ∷ 10 ∷
    101 ∷ 118 ∷ 101 ∷ 110 ∷ 116 ∷ 9 ∷ 114 ∷ 101 ∷ 116 ∷ 117 ∷ 114 ∷ 110 ∷ 9 ∷ 49 ∷ 10 ∷
    101 ∷ 118 ∷ 101 ∷ 110 ∷ 116 ∷ 9 ∷ 99 ∷ 97 ∷ 108 ∷ 108 ∷ 9 ∷ 50 ∷ 10 ∷
    101 ∷ 118 ∷ 101 ∷ 110 ∷ 116 ∷ 9 ∷ 114 ∷ 101 ∷ 116 ∷ 117 ∷ 114 ∷ 110 ∷ 9 ∷ 50 ∷ 9 ∷ 48 ∷ 10 ∷
    101 ∷ 118 ∷ 101 ∷ 110 ∷ 116 ∷ 9 ∷ 114 ∷ 101 ∷ 116 ∷ 117 ∷ 114 ∷ 110 ∷ 9 ∷ 48 ∷ 10 ∷
    111 ∷ 114 ∷ 100 ∷ 101 ∷ 114 ∷ 9 ∷ 49 ∷ 10 ∷
    111 ∷ 114 ∷ 100 ∷ 101 ∷ 114 ∷ 9 ∷ 50 ∷ 10 ∷
    111 ∷ 114 ∷ 100 ∷ 101 ∷ 114 ∷ 9 ∷ 48 ∷ 10 ∷
    115 ∷ 108 ∷ 111 ∷ 116 ∷ 9 ∷ 48 ∷ 9 ∷ 49 ∷ 48 ∷ 48 ∷ 10 ∷
    115 ∷ 108 ∷ 111 ∷ 116 ∷ 9 ∷ 49 ∷ 9 ∷ 101 ∷ 109 ∷ 112 ∷ 116 ∷ 121 ∷ 10 ∷
    116 ∷ 104 ∷ 114 ∷ 101 ∷ 97 ∷ 100 ∷ 9 ∷ 48 ∷ 9 ∷ 114 ∷ 101 ∷ 115 ∷ 116 ∷ 10 ∷
    116 ∷ 104 ∷ 114 ∷ 101 ∷ 97 ∷ 100 ∷ 9 ∷ 49 ∷ 9 ∷ 114 ∷ 101 ∷ 115 ∷ 116 ∷ 10 ∷
    116 ∷ 104 ∷ 114 ∷ 101 ∷ 97 ∷ 100 ∷ 9 ∷ 50 ∷ 9 ∷ 114 ∷ 101 ∷ 115 ∷ 116 ∷ 10 ∷
    99 ∷ 111 ∷ 117 ∷ 110 ∷ 116 ∷ 9 ∷ 115 ∷ 116 ∷ 101 ∷ 112 ∷ 115 ∷ 9 ∷ 49 ∷ 51 ∷ 10 ∷
    99 ∷ 111 ∷ 117 ∷ 110 ∷ 116 ∷ 9 ∷ 105 ∷ 100 ∷ 108 ∷ 101 ∷ 9 ∷ 48 ∷ 10 ∷
    99 ∷ 111 ∷ 117 ∷ 110 ∷ 116 ∷ 9 ∷ 115 ∷ 116 ∷ 111 ∷ 114 ∷ 101 ∷ 115 ∷ 9 ∷ 50 ∷ 10 ∷
    99 ∷ 111 ∷ 117 ∷ 110 ∷ 116 ∷ 9 ∷ 115 ∷ 119 ∷ 97 ∷ 112 ∷ 115 ∷ 9 ∷ 50 ∷ 10 ∷
    99 ∷ 111 ∷ 117 ∷ 110 ∷ 116 ∷ 9 ∷ 102 ∷ 105 ∷ 110 ∷ 100 ∷ 115 ∷ 9 ∷ 49 ∷ 10 ∷
    99 ∷ 111 ∷ 117 ∷ 110 ∷ 116 ∷ 9 ∷ 102 ∷ 114 ∷ 117 ∷ 105 ∷ 116 ∷ 108 ∷ 101 ∷ 115 ∷ 115 ∷ 9 ∷ 48 ∷ 10 ∷
    []

-- 3 threads, 2 slots; put 100 on thread 0, put 0 on thread 1, take on thread 2
pub run_a : listing_text (input_of 3 2 (0 ∷ 1 ∷ 2 ∷ []) (1 ∷ 1 ∷ 2 ∷ []) (pos 100 ∷ pos 0 ∷ pos 0 ∷ []) (0 ∷ 0 ∷ 1 ∷ 1 ∷ 1 ∷ 1 ∷ 2 ∷ 2 ∷ 2 ∷ 0 ∷ 2 ∷ 2 ∷ 0 ∷ [])) ≡ listing_a
unfolding listing_text listing_of lines_from summary_of decimal sample_text step own_from resting start played counted unfound merge ℕ_discrete listing_a
run_a = refl
