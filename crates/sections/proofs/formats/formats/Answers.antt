use Rattle.grammar.specs.Sections.{Formats}
use Rattle.layout.specs.Steps.{reads}
use Rattle.sections.proofs.formats.formats.Goals as goal

pub returns : goal.returns
unfolding Formats
returns c = search reads depth 20
