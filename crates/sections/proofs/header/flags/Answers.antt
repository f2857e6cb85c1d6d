use Rattle.grammar.specs.Sections.{HeaderFlags}
use Rattle.layout.specs.Steps.{reads}
use Rattle.sections.proofs.header.flags.Goals as goal

pub returns : goal.returns
unfolding HeaderFlags
returns c = search reads depth 20
