use Rattle.std.proofs.Common.{rules}
use Rattle.styles.specs.Styles.{areas}
use Rattle.styles.proofs.area_styles.areas_of.Goals as goal

pub returns : goal.returns
unfolding areas
returns c = search rules
