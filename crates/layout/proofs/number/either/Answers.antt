use Rattle.grammar.specs.Layout.{passes}
use Rattle.grammar.specs.Laws.Layout.Read.{refusal}
use Rattle.layout.specs.Reads.{verdict}
use Rattle.layout.proofs.number.either.Goals as goal

pub returns : goal.returns
unfolding verdict passes refusal
returns c = c.unless_either.ensures.code
