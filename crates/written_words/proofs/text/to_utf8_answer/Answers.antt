use Rattle.std.proofs.lemmas.Bool.{le-leb, lt-leb}
use Rattle.written_words.proofs.Convert.{with_answer, without_answer}
use Rattle.written_words.proofs.text.to_utf8_answer.Goals as goal

pub returns-then-answer-lt-WRITE_ANSWER_WORDS : goal.returns-then-answer-lt-WRITE_ANSWER_WORDS
returns-then-answer-lt-WRITE_ANSWER_WORDS c = without_answer _ _ _ (lt-leb _ _ c.if-answer-lt-WRITE_ANSWER_WORDS.true)

pub returns : goal.returns
returns c = with_answer _ _ _ _ (le-leb _ _ c.if-answer-lt-WRITE_ANSWER_WORDS.false) (c.to_utf8.ensures.value, c.to_utf8.ensures.out_after) c.answer_words.ensures
