use Rattle.std.proofs.Common.{ne_eqb}
use Rattle.sizes.specs.Basics.{among, pick}
use Rattle.grammar.specs.Layout.{passes}
use Rattle.grammar.specs.Laws.Layout.Read.{refusal}
use Rattle.layout.specs.Reads.{verdict}
use Rattle.table.proofs.known_kind.Goals as goal

pub returns-then-v-eq0 : goal.returns-then-v-eq0
unfolding verdict passes among refusal pick
returns-then-v-eq0 c = simp c.if-v-eq0.true

pub returns : goal.returns
unfolding verdict passes among refusal pick
returns c = rw (c.unless_either.ensures.code, ne_eqb c.args.v 0 c.if-v-eq0.false)
