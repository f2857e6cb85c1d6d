-- Two words and what stands between.
use native.Mathlib.Omega.{arith}
use Rattle.grammar.specs.RecordWords as spec
use Rattle.once.proofs.index_place.Goals as goal

pub returns : goal.returns
unfolding spec.leaf
returns c = omega (arith, c.word.ensures, c.word-2.ensures)
