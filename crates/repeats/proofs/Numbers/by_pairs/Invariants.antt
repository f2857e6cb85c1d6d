-- The loop keeps that the places before are all new.
use Rattle.std.proofs.Common.{◌+◌, ◌*◌, ◌≤◌}
use Rattle.grammar.specs.Repeat.{strided}
use Rattle.repeats.specs.Laws.Repeats.{AllNew}
use Rattle.repeats.proofs.Numbers.by_pairs.Given as goal

abbrev pub invariant-loop-k : goal.invariant-loop-k
invariant-loop-k l = (l.steps ≤ 34 * l.k) × (l.k ≤ l.steps + 1) × AllNew (strided l.self.step l.self.words.now) l.k
