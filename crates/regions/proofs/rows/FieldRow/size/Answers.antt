use Rattle.layout.specs.Steps.Rows.{flat_field}
use Rattle.regions.proofs.rows.FieldRow.size.Goals as goal

pub returns : goal.returns
returns c = flat_field
