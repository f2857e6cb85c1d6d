use Rattle.std.proofs.Common.{◌∙◌}
use Rattle.sizes.specs.Basics.{pick}
use Rattle.total.specs.Laws.Leaf.{word_answer}
use Rattle.total.proofs.leaf.leaf_answer.Goals as goal

pub returns-then-is_there : goal.returns-then-is_there
unfolding word_answer pick
returns-then-is_there c = rw (← c.is_there.ensures, c.if-is_there.true, ← c.leaf_sums-s.ensures) c.answered.ensures

pub returns-else-is_there : goal.returns-else-is_there
unfolding word_answer pick
returns-else-is_there c = rw (← c.is_there.ensures, c.if-is_there.false) (c.refused.ensures ∙ rw c.number.ensures)
