use Rattle.layout.specs.Steps.{reads}
use Rattle.value.proofs.modifier.mod_region.Goals as goal

pub returns : goal.returns
returns c = search reads depth 20
