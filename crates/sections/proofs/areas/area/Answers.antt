-- The symbols of an Area in their order, each by what its reader ensures.
use Rattle.grammar.specs.Sections.{Area}
use Rattle.layout.specs.Steps.{reads}
use Rattle.sections.proofs.areas.area.Goals as goal

pub returns : goal.returns
unfolding Area
returns c = search reads depth 20
