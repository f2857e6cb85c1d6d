-- The measure is the depth, and who calls whom at one depth.
use Rattle.std.proofs.Common.{◌≡◌, ◌+◌, ◌*◌, length}
use Rattle.table.specs.Laws.Nodes.{Walking}
use Rattle.table.proofs.+below_categories_category.Given as goal

abbrev pub decreases-below : goal.decreases-below
decreases-below l = 3 * l.level.depth + 2

abbrev pub decreases-categories : goal.decreases-categories
decreases-categories l = 3 * l.level.depth + 1

abbrev pub decreases-category : goal.decreases-category
decreases-category l = 3 * l.level.depth

abbrev pub invariant-categories-loop : goal.invariant-categories-loop
invariant-categories-loop l =
    (length l.nodes ≡ length l.initial.nodes) × Walking l.member.version l.level.depth l.level.dimension l.level.parent l.member.bytes.now l.count l.initial.reached.at l.initial.reached.used l.initial.nodes l.counter l.reached.at l.reached.used l.nodes
