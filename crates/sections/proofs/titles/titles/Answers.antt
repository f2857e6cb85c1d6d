use Rattle.grammar.specs.Sections.{Titles}
use Rattle.layout.specs.Steps.{reads}
use Rattle.sections.proofs.titles.titles.Goals as goal

pub returns : goal.returns
unfolding Titles
returns c = search reads depth 20
