-- The loop keeps that the places before are all new, and have their marks.
use Rattle.std.proofs.Common.{◌≡◌, ◌*◌, length}
use Rattle.grammar.specs.RecordWords.{firsts}
use Rattle.grammar.specs.Repeat.{strided}
use Rattle.once.specs.Laws.Marks.{Marks}
use Rattle.repeats.specs.Laws.Repeats.{AllNew}
use Rattle.repeats.proofs.Numbers.by_marks.Given as goal

abbrev pub invariant-loop-k : goal.invariant-loop-k
invariant-loop-k l =
    (l.steps ≡ 3 * l.k) × Marks (length l.initial.marks) l.marks (firsts l.self.step l.self.words.now l.k) × AllNew (strided l.self.step l.self.words.now) l.k
