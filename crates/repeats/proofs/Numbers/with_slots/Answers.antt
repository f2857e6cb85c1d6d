-- The list of slots is long enough, and empty.
use Rattle.repeats.specs.Laws.Places.{all_empty}
use Rattle.repeats.proofs.Numbers.with_slots.Goals as goal

pub by_trees-requires : goal.by_trees-requires
by_trees-requires g c = all_empty _ _ c.requires.0
