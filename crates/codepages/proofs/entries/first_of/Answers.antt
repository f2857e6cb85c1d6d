use native.Mathlib.Omega.{arith}
use Rattle.codepages.specs.Laws.Pairs.{first_low, first_high}
use Rattle.codepages.proofs.entries.first_of.Goals as goal

pub returns-then-b-lt-ASCII : goal.returns-then-b-lt-ASCII
returns-then-b-lt-ASCII c = (first_low _ _ (omega arith), omega arith)

pub returns-else-b-lt-ASCII : goal.returns-else-b-lt-ASCII
returns-else-b-lt-ASCII c = (first_high _ _ (omega arith), omega arith)
