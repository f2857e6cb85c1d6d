use Rattle.layout.specs.Steps.{reads}
use Rattle.sections.proofs.formats.outer_content.Goals as goal

pub returns : goal.returns
returns c = search reads depth 20
