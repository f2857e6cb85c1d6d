use Rattle.layout.specs.Steps.{reads}
use Rattle.layout.proofs.number.count.Goals as goal

pub returns : goal.returns
returns c = search reads
