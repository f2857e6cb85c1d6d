use Rattle.layout.specs.Steps.{reads}
use Rattle.sections.proofs.table_settings.breaks.Goals as goal

pub returns : goal.returns
returns c = search reads depth 20
