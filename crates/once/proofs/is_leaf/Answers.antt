use Rattle.grammar.specs.RecordWords as spec
use Rattle.once.proofs.is_leaf.Goals as goal

pub returns : goal.returns
unfolding spec.is_leaf
returns c = rw c.word.ensures
