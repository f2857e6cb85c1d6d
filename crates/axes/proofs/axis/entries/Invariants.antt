use Rattle.std.proofs.Common.{◌≡◌, length}
use Rattle.sizes.specs.Sizes.{most_dimensions}
use Rattle.axes.specs.Laws.Rows.{Storing}
use Rattle.axes.specs.Laws.Axes.{entry_kind, entry_of}
use Rattle.axes.proofs.axis.entries.Given as goal

abbrev pub invariant-loop-j : goal.invariant-loop-j
invariant-loop-j l = Storing entry_kind (entry_of l.d) l.s l.n l.at-2 l.initial.order l.j l.at l.order × (length l.order ≡ most_dimensions)
