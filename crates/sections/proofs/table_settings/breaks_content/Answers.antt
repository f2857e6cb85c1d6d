use Rattle.grammar.specs.Sections.{BreaksContent}
use Rattle.layout.specs.Steps.{reads}
use Rattle.sections.proofs.table_settings.breaks_content.Goals as goal

pub returns : goal.returns
unfolding BreaksContent
returns c = search reads depth 20
