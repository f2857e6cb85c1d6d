use mathlib.Core.Path.{◌∙◌}
use native.Mathlib.Omega.{arith}
use Rattle.total.specs.Laws.Leaf.{word_sums}
use Rattle.total.proofs.leaf.leaf_sums.Goals as goal

pub sums_under-requires : goal.sums_under-requires
unfolding word_sums
sums_under-requires c = omega (arith, c.grid_of-g.ensures.1)

pub returns : goal.returns
unfolding word_sums
returns c = c.sums_under.ensures ∙ rw c.grid_of-g.ensures.0
