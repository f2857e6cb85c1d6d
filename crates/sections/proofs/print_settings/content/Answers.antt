use Rattle.grammar.specs.Sections.{PrintSettingsContent}
use Rattle.layout.specs.Steps.{reads}
use Rattle.sections.proofs.print_settings.content.Goals as goal

pub returns : goal.returns
unfolding PrintSettingsContent
returns c = search reads depth 20
