use Rattle.grammar.specs.Sections.{HeaderStart}
use Rattle.layout.specs.Steps.{reads}
use Rattle.sections.proofs.header.start.Goals as goal

pub returns : goal.returns
unfolding HeaderStart
returns c = search reads depth 20
