use Rattle.grammar.specs.Sections.{HeaderRest}
use Rattle.layout.specs.Steps.{reads}
use Rattle.sections.proofs.header.rest.Goals as goal

pub returns : goal.returns
unfolding HeaderRest
returns c = search reads depth 20
