use Rattle.std.proofs.lemmas.Bool.{lt-ltb, le-ltb}
use mathlib.Core.Path.{ap, ◌∙◌}
use Rattle.sizes.specs.Basics.{among}
use Rattle.sections_put.specs.Names.{has_zero}
use Rattle.sections_put.proofs.word.has_null_byte.Goals as goal

pub returns-then-n-lt4294967296 : goal.returns-then-n-lt4294967296
unfolding has_zero
returns-then-n-lt4294967296 c = c.has_null.ensures ∙ ap (among 0) c.part.ensures ∙ rw (lt-ltb _ _ c.if-n-lt4294967296.true)

pub returns-else-n-lt4294967296 : goal.returns-else-n-lt4294967296
unfolding has_zero
returns-else-n-lt4294967296 c = rw (le-ltb _ _ c.if-n-lt4294967296.false)
