use Rattle.grammar.specs.Sections.{BordersContent}
use Rattle.layout.specs.Steps.{reads}
use Rattle.sections.proofs.borders.content.Goals as goal

pub returns : goal.returns
unfolding BordersContent
returns c = search reads depth 20
