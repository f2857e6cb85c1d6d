use Rattle.std.proofs.Common.{arith}
use borrow.Author.Tests.{lt-ltb, le-ltb}
use Rattle.cases.specs.Laws.Agree.{gathering, gather_full, left_in}
use Rattle.cases.proofs.steps.code_byte.Goals as goal

pub gathered-requires : goal.gathered-requires
gathered-requires c = let a = c.args in let q = left_in a.count a.c c.requires.1 c.requires.0 in (q.0, c.requires.1.codes_in, omega arith, q.1)

pub returns-then-c-lt-LIMIT : goal.returns-then-c-lt-LIMIT
returns-then-c-lt-LIMIT c = let a = c.args in rw (c.silent.ensures, c.gathered.ensures) (gathering a.kind a.count a.bias a.c a.b c.requires.1 (omega arith) c.requires.0 (lt-ltb _ _ c.if-c-lt-LIMIT.true))

pub returns-else-c-lt-LIMIT : goal.returns-else-c-lt-LIMIT
returns-else-c-lt-LIMIT c = let a = c.args in rw (c.silent-else-c-lt-LIMIT.ensures, c.stopped.ensures) (gather_full a.kind a.count a.bias a.c a.b c.requires.1 (omega arith) c.requires.0 (le-ltb _ _ c.if-c-lt-LIMIT.false))
