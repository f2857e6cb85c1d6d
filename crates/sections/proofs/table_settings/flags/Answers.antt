use Rattle.grammar.specs.Sections.{TableFlags}
use Rattle.layout.specs.Steps.{reads}
use Rattle.sections.proofs.table_settings.flags.Goals as goal

pub returns : goal.returns
unfolding TableFlags
returns c = search reads depth 20
