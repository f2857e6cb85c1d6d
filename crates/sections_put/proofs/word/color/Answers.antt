use mathlib.Core.Path.{sym, ap}
use lib.ListN.{length}
use Rattle.sections_put.specs.Fields.{hex}
use Rattle.sections_put.specs.Laws.NoZero.{letters_puts, hex_clean}
use Rattle.sections_put.proofs.word.color.Goals as goal

pub returns : goal.returns
returns c = letters_puts (hex_clean _) (rw c.hex.ensures at c.text.ensures)

pub slice_bounds-text-end : goal.slice_bounds-text-end
unfolding hex
slice_bounds-text-end c = sym (ap length c.hex.ensures)
