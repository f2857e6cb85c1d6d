use Rattle.std.proofs.Common.{rules}
use Rattle.styles.specs.Styles.{borders}
use Rattle.styles.proofs.border_styles.borders_of.Goals as goal

pub returns : goal.returns
unfolding borders
returns c = search rules
