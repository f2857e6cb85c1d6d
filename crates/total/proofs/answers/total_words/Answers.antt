use Rattle.std.proofs.lemmas.Bool.{le-leb, lt-leb}
use lib.ListN.{length}
use Rattle.grammar.specs.Laws.Member.Checked.{checked}
use Rattle.total.specs.Laws.Doubles.{total_numbers}
use Rattle.total.specs.Laws.Calls.{read, not_read}
use Rattle.total.proofs.answers.total_words.Goals as goal

pub answer_words-requires : goal.answer_words-requires
answer_words-requires c = let a = c.args in rw c.total-x.ensures.answers.answer (total_numbers (checked a.member.now) (length a.nodes.now) (length a.cells.now) a.dimension a.leaf)

pub returns : goal.returns
returns c = read _ _ _ _ _ _ _ (le-leb _ _ c.if-answer-lt-TOTAL_ANSWER_WORDS.false) c.total-x.ensures.answers c.total-x.ensures.demands c.answer_words.ensures

pub returns-then-answer-lt-TOTAL_ANSWER_WORDS : goal.returns-then-answer-lt-TOTAL_ANSWER_WORDS
returns-then-answer-lt-TOTAL_ANSWER_WORDS c = not_read _ _ _ _ _ _ (lt-leb _ _ c.if-answer-lt-TOTAL_ANSWER_WORDS.true)
