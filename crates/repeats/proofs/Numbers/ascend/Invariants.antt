-- The loop keeps that the numbers so far ascend to the last one.
use Rattle.std.proofs.Common.{◌≡◌, ◌+◌, ◌≤◌}
use Rattle.grammar.specs.Repeat.{strided}
use Rattle.repeats.specs.Laws.Repeats.{Ascends}
use Rattle.repeats.proofs.Numbers.ascend.Given as goal

abbrev pub invariant-loop-j : goal.invariant-loop-j
invariant-loop-j l = (l.steps + 1 ≡ l.j) × (l.steps ≤ l.self.count) × Ascends (strided l.self.step l.self.words.now) l.last l.j
