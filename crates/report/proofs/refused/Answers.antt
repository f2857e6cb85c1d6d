-- The pieces of the line, one after the other; a place has at most 20 digits.
use Prim.Native.Nat.{◌≤◌}
use native.Mathlib.Omega.{arith}
use lib.ListN.{length}
use Rattle.report.specs.Text.{decimal}
use Rattle.report.specs.Laws.Decimal.{length_decimal}
use Rattle.report.specs.Laws.Puts.{◌▹◌}
use Rattle.report.proofs.refused.Goals as goal

pub number-at-requires : goal.number-at-requires
number-at-requires c =
    let p = c.args.place in
    let d : length (decimal p) ≤ 20 = length_decimal 20 p (omega arith) (omega arith) in
    omega arith

pub put-requires : goal.put-requires
put-requires c =
    let p = c.args.place in
    let d : length (decimal p) ≤ 20 = length_decimal 20 p (omega arith) (omega arith) in
    omega arith

pub returns : goal.returns
returns c = c.put-at.ensures ▹ c.counted-at.ensures.puts ▹ c.number-at.ensures ▹ c.put.ensures
