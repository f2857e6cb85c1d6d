use Rattle.grammar.specs.Sections.{TableSettingsContent}
use Rattle.layout.specs.Steps.{reads}
use Rattle.sections.proofs.table_settings.ContentProduction.read.Goals as goal

pub returns : goal.returns
unfolding TableSettingsContent
returns c = search reads depth 20
