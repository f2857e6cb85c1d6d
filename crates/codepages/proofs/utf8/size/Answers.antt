use native.Mathlib.Omega.{arith}
use Rattle.codepages.specs.Laws.Branches.{size_one, size_two, size_three, size_four}
use Rattle.codepages.proofs.utf8.size.Goals as goal

pub returns-then-c-lt-TWO_BYTES : goal.returns-then-c-lt-TWO_BYTES
returns-then-c-lt-TWO_BYTES c = size_one _ (omega arith)

pub returns-then-c-lt-THREE_BYTES : goal.returns-then-c-lt-THREE_BYTES
returns-then-c-lt-THREE_BYTES c = size_two _ (omega arith) (omega arith)

pub returns-then-c-lt-FOUR_BYTES : goal.returns-then-c-lt-FOUR_BYTES
returns-then-c-lt-FOUR_BYTES c = size_three _ (omega arith) (omega arith)

pub returns : goal.returns
returns c = size_four _ (omega arith)
