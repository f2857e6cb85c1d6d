use Rattle.std.proofs.Common.{◌∙◌, arith}
use Rattle.sizes.specs.Basics.{undigit}
use Rattle.cases.specs.Steps.{eight_at}
use Rattle.cases.proofs.bytes.eight_bytes.Goals as goal

pub returns : goal.returns
unfolding undigit eight_at
returns c = c.from_le_bytes.ensures ∙ omega arith
