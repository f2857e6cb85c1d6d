use Rattle.layout.specs.Steps.{reads}
use Rattle.table.proofs.kind_field.Goals as goal

pub returns : goal.returns
returns c = search reads
