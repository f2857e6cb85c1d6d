-- A space and a number, one after the other.
use Prim.Native.Nat.{◌≤◌}
use native.Mathlib.Omega.{arith}
use lib.ListN.{length}
use Rattle.report.specs.Text.{decimal}
use Rattle.report.specs.Laws.Decimal.{length_decimal}
use Rattle.report.specs.Laws.Puts.{◌▹◌}
use Rattle.report.proofs.text.spaced.Goals as goal

pub number-requires : goal.number-requires
number-requires c =
    let n = c.args.n in
    let d : length (decimal n) ≤ 10 = length_decimal 10 n (omega arith) (omega arith) in
    omega arith

pub returns : goal.returns
returns c =
    let n = c.args.n in
    let d : length (decimal n) ≤ 10 = length_decimal 10 n (omega arith) (omega arith) in
    record { puts = c.put-at.ensures ▹ c.number.ensures; upper_bound = omega arith }
