use Rattle.std.proofs.Common.{◌≡◌, min, arith, lt-ltb, le-ltb}
use Rattle.sizes.specs.Sizes.{most_cells}
use Rattle.axes.proofs.Tests.{fresh_below, fresh_above}
use Rattle.axes.proofs.axis.is_fresh.Goals as goal

pub returns-then-x-d : goal.returns-then-x-d
returns-then-x-d c =
    let j : min c.args.j most_cells ≡ c.args.j = omega arith in
    fresh_below _ _ _ (lt-ltb _ _ c.if-x-d.true) (rw j at c.seen_before.ensures)

pub returns-else-x-d : goal.returns-else-x-d
returns-else-x-d c = let e = le-ltb _ _ c.if-x-d.false in rw e (fresh_above _ _ _ e)
