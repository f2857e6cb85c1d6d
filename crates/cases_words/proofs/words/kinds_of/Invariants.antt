use Rattle.std.proofs.Common.{◌≡◌}
use Rattle.cases.specs.Answers.{padded}
use Rattle.cases_words.specs.StateWords.{kinds_of}
use Rattle.cases_words.proofs.words.kinds_of.Given as goal

abbrev pub invariant-loop-i : goal.invariant-loop-i
invariant-loop-i l = l.kinds ≡ padded l.i (kinds_of l.words)
