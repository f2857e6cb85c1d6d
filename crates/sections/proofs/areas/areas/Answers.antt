use mathlib.Core.Path.{refl}
use Rattle.layout.specs.Steps.Runs.{begins, leading_of}
use Rattle.grammar.specs.Sections.{Areas, EightAreas, Area, AreaFont}
use Rattle.sections.proofs.areas.areas.Goals as goal

pub returns : goal.returns
unfolding begins Areas EightAreas Area AreaFont
returns c = leading_of refl c.eight.ensures c.skip.ensures
