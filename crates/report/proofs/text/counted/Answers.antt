-- A number and a text, one after the other.
use Prim.Native.Nat.{◌≤◌}
use native.Mathlib.Omega.{arith}
use lib.ListN.{length}
use Rattle.report.specs.Text.{decimal}
use Rattle.report.specs.Laws.Decimal.{length_decimal}
use Rattle.report.specs.Laws.Puts.{◌▹◌}
use Rattle.report.proofs.text.counted.Goals as goal

pub number-at-requires : goal.number-at-requires
number-at-requires c =
    let n = c.args.n in
    let d : length (decimal n) ≤ 10 = length_decimal 10 n (omega arith) (omega arith) in
    omega arith

pub put-requires : goal.put-requires
put-requires c =
    let n = c.args.n in
    let d : length (decimal n) ≤ 10 = length_decimal 10 n (omega arith) (omega arith) in
    omega arith

pub returns : goal.returns
returns c =
    let n = c.args.n in
    let d : length (decimal n) ≤ 10 = length_decimal 10 n (omega arith) (omega arith) in
    record { puts = c.number-at.ensures ▹ c.put.ensures; upper_bound = omega arith }
