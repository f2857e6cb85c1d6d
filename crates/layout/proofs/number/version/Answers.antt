use Rattle.layout.specs.Steps.{reads}
use Rattle.layout.proofs.number.version.Goals as goal

pub returns : goal.returns
returns c = search reads
