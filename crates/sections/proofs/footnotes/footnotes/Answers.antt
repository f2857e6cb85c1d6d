use Rattle.grammar.specs.Sections.{Footnotes}
use Rattle.layout.specs.Steps.{reads}
use Rattle.sections.proofs.footnotes.footnotes.Goals as goal

pub returns : goal.returns
unfolding Footnotes
returns c = search reads depth 20
