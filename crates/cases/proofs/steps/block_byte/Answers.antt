use Rattle.std.proofs.Common.{arith}
use borrow.Author.Tests.{lt-ltb, le-ltb}
use Rattle.cases.specs.Laws.Digits.{byte_in, small_power}
use Rattle.cases.specs.Laws.Agree.{blocking, written, block_full, place_in, filled_in}
use Rattle.cases.proofs.steps.block_byte.Goals as goal

pub overflow_mul-block : goal.overflow_mul-block
overflow_mul-block c = let a = c.args in let f = filled_in a.count a.c c.requires.1 c.requires.0 in rw (small_power f c.power.ensures) (omega (arith, byte_in a.c.filled a.c.block a.b f c.requires.1.block_in (omega arith)))

pub overflow_add-block : goal.overflow_add-block
overflow_add-block c = let a = c.args in let f = filled_in a.count a.c c.requires.1 c.requires.0 in rw (small_power f c.power.ensures) (omega (arith, byte_in a.c.filled a.c.block a.b f c.requires.1.block_in (omega arith)))

pub blocked-requires : goal.blocked-requires
blocked-requires c = let a = c.args in (omega arith, filled_in a.count a.c c.requires.1 c.requires.0)

pub following-requires : goal.following-requires
following-requires c = c.requires.1.at_in

pub passed-requires : goal.passed-requires
passed-requires c = let a = c.args in place_in a.count a.c c.requires.1 c.requires.0 (omega arith)

pub returns-then-c-lt7 : goal.returns-then-c-lt7
returns-then-c-lt7 c =
    let a = c.args in
    rw (c.silent-then-c-lt7.ensures, c.blocked.ensures, small_power (filled_in a.count a.c c.requires.1 c.requires.0) c.power.ensures)
    (blocking a.kind a.count a.bias a.c a.b c.requires.1 c.requires.0 (omega arith) c.requires.2 (lt-ltb _ _ (omega arith)) (lt-ltb _ _ c.if-c-lt7.true))

pub returns-else-c-lt7 : goal.returns-else-c-lt7
returns-else-c-lt7 c =
    let a = c.args in
    rw (c.writing.ensures, c.passed.ensures, c.following.ensures, small_power (filled_in a.count a.c c.requires.1 c.requires.0) c.power.ensures)
    (written a.kind a.count a.bias a.c a.b c.requires.1 c.requires.0 (omega arith) c.requires.2 (lt-ltb _ _ (omega arith)) (le-ltb _ _ c.if-c-lt7.false))

pub returns-then-c-eq-LIMIT : goal.returns-then-c-eq-LIMIT
returns-then-c-eq-LIMIT c = let a = c.args in rw (c.silent.ensures, c.stopped.ensures) (block_full a.kind a.count a.bias a.c a.b c.requires.1 c.requires.0 (omega arith) c.requires.2 (le-ltb _ _ (omega arith)))
