use mathlib.Core.Path.{refl}
use Rattle.sizes.specs.Basics.{among}
use Rattle.sections_put.specs.Laws.NoZero.{letters_puts}
use Rattle.sections_put.proofs.word.empty.Goals as goal

pub returns : goal.returns
unfolding among
returns c = letters_puts refl c.text.ensures
