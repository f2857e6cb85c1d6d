-- The first repeat is that of the first m cells, of which there are no more than there may be.
use Rattle.std.proofs.Common.{◌≡◌, min, arith}
use Rattle.sizes.specs.Sizes.{most_cells}
use Rattle.cells.specs.Laws.Reading.{tested_once, tested_repeat}
use Rattle.cells.proofs.cell.once_each.Goals as goal

pub returns-then-repeat-m : goal.returns-then-repeat-m
returns-then-repeat-m c =
    let m : min c.args.m most_cells ≡ c.args.m = omega (arith, c.requires) in
    rw c.word-value.ensures (tested_repeat (rw m at c.first_repeat-repeat.ensures.first) c.if-repeat-m.true)

pub returns : goal.returns
returns c =
    let m : min c.args.m most_cells ≡ c.args.m = omega (arith, c.requires) in
    tested_once (rw m at c.first_repeat-repeat.ensures.first) (omega arith)
