use Rattle.layout.specs.Steps.Numbers.{free_of}
use Rattle.regions.proofs.rows.FieldProduction.read.Goals as goal

pub returns : goal.returns
returns c = free_of c.field.ensures
