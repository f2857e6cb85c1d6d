use native.Mathlib.Omega.{arith}
use Rattle.nulls.proofs.null_in_short.Goals as goal

pub null_at_ends-requires : goal.null_at_ends-requires
null_at_ends-requires c = (omega arith, omega arith)

pub null_at_ends-requires-then-s-ge4 : goal.null_at_ends-requires-then-s-ge4
null_at_ends-requires-then-s-ge4 c = (omega arith, omega arith)

pub returns-then-s-ge8 : goal.returns-then-s-ge8
returns-then-s-ge8 c = c.null_at_ends.ensures

pub returns-then-s-ge4 : goal.returns-then-s-ge4
returns-then-s-ge4 c = c.null_at_ends-then-s-ge4.ensures

pub returns-else-s-ge4 : goal.returns-else-s-ge4
returns-else-s-ge4 c = c.any_null.ensures
