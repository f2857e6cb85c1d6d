use native.Mathlib.Omega.{arith}
use Prim.Native.Nat.{◌+◌, ◌*◌}
use mathlib.Core.Path.{refl}
use Rattle.members.proofs.Nth.{nth, none}
use Rattle.members.proofs.read_nth.Goals as goal

pub overflow_cast-start : goal.overflow_cast-start
overflow_cast-start c = omega (arith, c.type_inv.list (2 * c.args.i))

pub overflow_cast-size : goal.overflow_cast-size
overflow_cast-size c = omega (arith, c.type_inv.list (2 * c.args.i + 1))

pub returns-then-i-n : goal.returns-then-i-n
returns-then-i-n c = nth _ _ _ c.part.ensures c.read_in_share.ensures

pub returns-else-i-n : goal.returns-else-i-n
returns-else-i-n c = none _ _ _ (omega arith) refl c.read_member.ensures.checks c.read_member.ensures.demands.place.1
