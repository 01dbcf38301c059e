use Rattle.std.proofs.Common.{arith, ap, ℕ, [], ◌∷◌, ◌+◌, ◌%◌, ◌≡◌}
use Rattle.numerals.proofs.PrintLaws.{number_one, number_two, wrote_as}
use Rattle.numerals.proofs.Page.put_number.Goals as goal

pub returns-then-n-lt10 : goal.returns-then-n-lt10
returns-then-n-lt10 c =
    let n = c.args.n in
    let same : n ≡ n % 10 = omega arith in
    number_one n (omega arith) (wrote_as (ap (λ (d : ℕ). (48 + d) ∷ []) same) c.put_byte.ensures)

pub returns-then-n-lt100 : goal.returns-then-n-lt100
returns-then-n-lt100 c = number_two c.args.n (omega arith) (omega arith) c.put_byte-then-n-lt100.ensures c.put_byte-then-n-lt100-2.ensures
