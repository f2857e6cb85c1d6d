use Rattle.layout.specs.Steps.Rows.{flat_field, flat_then}
use Rattle.sections.proofs.arrays.StyleMapRow.size.Goals as goal

pub returns : goal.returns
returns c = flat_then flat_field flat_field
