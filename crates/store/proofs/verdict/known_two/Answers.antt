use Rattle.grammar.specs.Layout.{passes}
use Rattle.grammar.specs.Laws.Layout.Read.{refusal}
use Rattle.layout.specs.Reads.{verdict}
use Rattle.store.proofs.verdict.known_two.Goals as goal

pub returns-clause-code : goal.returns-clause-code
unfolding verdict passes refusal
returns-clause-code c = c.unless_either.ensures.code
