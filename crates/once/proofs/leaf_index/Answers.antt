use Rattle.grammar.specs.RecordWords as spec
use Rattle.once.proofs.leaf_index.Goals as goal

pub returns : goal.returns
unfolding spec.leaf
returns c = c.word.ensures
