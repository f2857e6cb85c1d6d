-- The loop keeps that none of the numbers passed is x.
use Rattle.std.proofs.Common.{◌≡◌}
use Rattle.grammar.specs.Repeat.{strided}
use Rattle.repeats.specs.Laws.Repeats.{NoneOf}
use Rattle.repeats.proofs.Numbers.compare.Given as goal

abbrev pub invariant-loop-i : goal.invariant-loop-i
invariant-loop-i l = (l.steps ≡ l.i) × NoneOf (strided l.self.step l.self.words.now) l.i l.x
