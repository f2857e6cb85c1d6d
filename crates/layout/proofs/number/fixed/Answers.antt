use Rattle.layout.specs.Steps.{reads}
use Rattle.layout.proofs.number.fixed.Goals as goal

pub returns : goal.returns
returns c = rw (← c.width-w.ensures) (search reads)
