use Rattle.std.proofs.Common.{rules}
use Rattle.styles.specs.Styles.{styles}
use Rattle.styles.proofs.styles_of.Goals as goal

pub returns : goal.returns
unfolding styles
returns c = search rules
