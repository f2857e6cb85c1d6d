use Rattle.std.proofs.lemmas.Bool.{le-leb, lt-leb}
use Rattle.value_words.proofs.ValueCalls.{with_argument, without_argument}
use Rattle.value_words.proofs.argument_answer.Goals as goal

pub returns-then-answer-lt-ARGUMENT_ANSWER_WORDS : goal.returns-then-answer-lt-ARGUMENT_ANSWER_WORDS
returns-then-answer-lt-ARGUMENT_ANSWER_WORDS c = without_argument _ _ _ (lt-leb _ _ c.if-answer-lt-ARGUMENT_ANSWER_WORDS.true)

pub returns : goal.returns
returns c =
    rw (← c.from.ensures) (with_argument _ _ _ _ (le-leb _ _ c.if-answer-lt-ARGUMENT_ANSWER_WORDS.false) c.read_argument.ensures c.argument_words.ensures)
