use Rattle.layout.specs.Steps.{reads}
use Rattle.grammar.specs.Table.{DimProperties}
use Rattle.table.proofs.dimension.properties.Goals as goal

pub returns : goal.returns
unfolding DimProperties
returns c = search reads depth 20
