use Rattle.std.proofs.Common.{◌≡◌}
use Rattle.cases.specs.Answers.{padded}
use Rattle.cases.specs.Steps.{firsts}
use Rattle.cases_words.proofs.words.widened.Given as goal

abbrev pub invariant-loop-i : goal.invariant-loop-i
invariant-loop-i l = l.words ≡ padded l.i (firsts 256 l.kinds)
