use Rattle.grammar.specs.Sections.{AreaFont}
use Rattle.layout.specs.Steps.{reads}
use Rattle.sections.proofs.areas.font.Goals as goal

pub returns : goal.returns
unfolding AreaFont
returns c = search reads depth 20
