use Rattle.layout.specs.Steps.Counted.{string_of}
use Rattle.regions.proofs.region.string.Goals as goal

pub returns : goal.returns
returns c = string_of (rw c.width.ensures at c.past.ensures) c.part.ensures
