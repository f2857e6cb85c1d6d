use Rattle.std.proofs.lemmas.Bool.{le-leb, lt-leb}
use Rattle.total.specs.Laws.Calls.{read_all, none_read}
use Rattle.total.proofs.answers.totals_words.Goals as goal

pub returns : goal.returns
returns c = read_all _ _ _ _ _ _ _ (le-leb _ _ c.if-answer-lt-TOTALS_ANSWER_WORDS.false) c.totals-x.ensures.answers c.totals-x.ensures.demands c.dimension_words.ensures

pub returns-then-answer-lt-TOTALS_ANSWER_WORDS : goal.returns-then-answer-lt-TOTALS_ANSWER_WORDS
returns-then-answer-lt-TOTALS_ANSWER_WORDS c = none_read _ _ _ _ _ _ (lt-leb _ _ c.if-answer-lt-TOTALS_ANSWER_WORDS.true)
