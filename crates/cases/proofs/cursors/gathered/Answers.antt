use Rattle.std.proofs.Common.{arith}
use Rattle.cases.specs.Laws.Digits.{byte_in, small_power}
use Rattle.cases.proofs.cursors.gathered.Goals as goal

pub overflow_mul-codes : goal.overflow_mul-codes
overflow_mul-codes c = let a = c.args in rw (small_power c.requires.0 c.power.ensures) (omega (arith, byte_in a.c.left a.c.codes a.b c.requires.0 c.requires.1 (omega arith)))

pub overflow_add-codes : goal.overflow_add-codes
overflow_add-codes c = let a = c.args in rw (small_power c.requires.0 c.power.ensures) (omega (arith, byte_in a.c.left a.c.codes a.b c.requires.0 c.requires.1 (omega arith)))
