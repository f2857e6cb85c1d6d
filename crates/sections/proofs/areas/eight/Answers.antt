use Rattle.grammar.specs.Sections.{EightAreas}
use Rattle.layout.specs.Steps.{reads}
use Rattle.sections.proofs.areas.eight.Goals as goal

pub returns : goal.returns
unfolding EightAreas
returns c = search reads depth 20
