use Rattle.grammar.specs.Sections.{HeaderNumbers}
use Rattle.layout.specs.Steps.{reads}
use Rattle.sections.proofs.header.numbers.Goals as goal

pub returns : goal.returns
unfolding HeaderNumbers
returns c = search reads depth 20
