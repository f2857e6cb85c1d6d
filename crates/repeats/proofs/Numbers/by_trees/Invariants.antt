-- The loop keeps the trees of the places before, which are all new.
use Rattle.std.proofs.Common.{◌+◌, ◌*◌, ◌≤◌}
use Rattle.grammar.specs.Repeat.{strided}
use Rattle.repeats.specs.Laws.Repeats.{AllNew}
use Rattle.repeats.specs.Laws.Places.{PlaceTrees}
use Rattle.repeats.proofs.Numbers.by_trees.Given as goal

abbrev pub invariant-loop-place : goal.invariant-loop-place
invariant-loop-place l =
    (l.steps ≤ 34 * l.place) × (l.place ≤ l.steps + 1) × PlaceTrees (strided l.self.step l.self.words.now) l.place l.slots
    × AllNew (strided l.self.step l.self.words.now) l.place
