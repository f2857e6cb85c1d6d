use Rattle.grammar.specs.Sections.{PrintSettings}
use Rattle.layout.specs.Steps.{reads}
use Rattle.sections.proofs.print_settings.print_settings.Goals as goal

pub returns : goal.returns
unfolding PrintSettings
returns c = search reads depth 20
