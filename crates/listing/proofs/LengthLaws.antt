-- How long a listing can be. Assumes nothing.
use mathlib.Core.List.{List, ◌++◌}
use Prim.Native.Nat.{ℕ, ◌≤◌}
use native.Mathlib.Omega.{arith}
use lib.ListN.{length, length-append}

-- 256 events, 128 entries of the order, 64 slots and 16 threads at most
pub parts_low : (back events listed slots threads counts : List ℕ) → length back ≤ 26 → length events ≤ 7936 → length listed ≤ 1280 → length slots ≤ 1280 → length threads ≤ 768
    → length counts ≤ 222 → length (back ++ (events ++ (listed ++ (slots ++ (threads ++ counts))))) ≤ 12288
parts_low back events listed slots threads counts a b c d e f =
    omega (
      arith,
      length-append back (events ++ (listed ++ (slots ++ (threads ++ counts)))),
      length-append events (listed ++ (slots ++ (threads ++ counts))),
      length-append listed (slots ++ (threads ++ counts)),
      length-append slots (threads ++ counts),
      length-append threads counts,
    )
