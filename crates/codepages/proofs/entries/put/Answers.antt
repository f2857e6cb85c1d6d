use native.Mathlib.Omega.{arith}
use Rattle.codepages.specs.Laws.Branches.{size_one, size_two, size_three, put_one, put_two, put_three}
use lib.ListN.{length-set}
use Rattle.codepages.proofs.entries.put.Goals as goal

pub bounds-out-w : goal.bounds-out-w
bounds-out-w c = omega (arith, size_one c.args.c (omega arith))

pub returns-then-c-lt-TWO_BYTES : goal.returns-then-c-lt-TWO_BYTES
returns-then-c-lt-TWO_BYTES c = put_one _ _ _ (omega arith)

pub bounds-out-w-then-c-lt-THREE_BYTES : goal.bounds-out-w-then-c-lt-THREE_BYTES
bounds-out-w-then-c-lt-THREE_BYTES c = omega (arith, size_two c.args.c (omega arith) (omega arith))

pub bounds-out-w-then-c-lt-THREE_BYTES-2 : goal.bounds-out-w-then-c-lt-THREE_BYTES-2
bounds-out-w-then-c-lt-THREE_BYTES-2 c = simp length-set (omega (arith, size_two c.args.c (omega arith) (omega arith)))

pub returns-then-c-lt-THREE_BYTES : goal.returns-then-c-lt-THREE_BYTES
returns-then-c-lt-THREE_BYTES c = put_two _ _ _ (omega arith) (omega arith)

pub bounds-out-w-2 : goal.bounds-out-w-2
bounds-out-w-2 c = omega (arith, size_three c.args.c (omega arith) (omega arith))

pub bounds-out-w-3 : goal.bounds-out-w-3
bounds-out-w-3 c = simp length-set (omega (arith, size_three c.args.c (omega arith) (omega arith)))

pub bounds-out-w-4 : goal.bounds-out-w-4
bounds-out-w-4 c = simp length-set (omega (arith, size_three c.args.c (omega arith) (omega arith)))

pub returns : goal.returns
returns c = put_three _ _ _ (omega arith) (omega arith)
