use Rattle.std.proofs.Common.{refl, length, arith}
use Rattle.std.proofs.lemmas.Bool.{lt-leb}
use Rattle.sizes.specs.Basics.{pick}
use Rattle.sizes.specs.Sizes.{index_answer_words}
use Rattle.position_words.proofs.index_answer.Goals as goal

pub returns-then-answer-lt-INDEX_ANSWER_WORDS : goal.returns-then-answer-lt-INDEX_ANSWER_WORDS
unfolding pick
returns-then-answer-lt-INDEX_ANSWER_WORDS c = record { words = rw (lt-leb index_answer_words (length c.args.answer.now) (omega arith)) (refl, refl) }
