use Rattle.layout.specs.Steps.{reads}
use Rattle.layout.proofs.number.one_of_two.Goals as goal

pub returns : goal.returns
returns c = search reads
