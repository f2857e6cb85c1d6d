use Rattle.layout.specs.Steps.{reads}
use Rattle.sections.proofs.arrays.TripleProduction.read.Goals as goal

pub returns : goal.returns
returns c = search reads depth 20
