use Rattle.grammar.specs.Sections.{TableSettings}
use Rattle.layout.specs.Steps.{reads}
use Rattle.sections.proofs.table_settings.table_settings.Goals as goal

pub returns : goal.returns
unfolding TableSettings
returns c = search reads depth 20
