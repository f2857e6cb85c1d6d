use mathlib.Core.Path.{refl}
use Rattle.layout.specs.Steps.Chain.{empty_of}
use Rattle.layout.specs.Steps.Counted.{region_of}
use Rattle.grammar.specs.Sections.{X3}
use Rattle.sections.proofs.formats.x3.Goals as goal

pub returns : goal.returns
unfolding X3
returns c = region_of c.close_open.ensures empty_of refl c.part-p.ensures
