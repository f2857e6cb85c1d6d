use Rattle.layout.specs.Steps.Numbers.{free_of}
use Rattle.layout.proofs.number.any.Goals as goal

pub returns : goal.returns
returns c = record { low = free_of c.field.ensures; high = free_of c.field.ensures }
