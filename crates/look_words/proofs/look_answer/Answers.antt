use Rattle.std.proofs.Common.{ap}
use Rattle.std.proofs.lemmas.Bool.{le-leb, lt-leb}
use Rattle.refusals.specs.Numbers.{by_number}
use Rattle.sizes.specs.Sizes.{look_answer_words}
use Rattle.grammar.specs.Laws.Layout.Read.{read}
use Rattle.look.specs.Look.{TableLook}
use Rattle.look.specs.Answers.{expected}
use Rattle.look_words.specs.FieldWords.{answer_words_of}
use Rattle.store.specs.Laws.Puts.{◌⟩◌, without_room}
use Rattle.look_words.proofs.Answered.{answered}
use Rattle.look_words.proofs.look_answer.Goals as goal

pub returns-then-area-lt-LOOK_ANSWER_WORDS : goal.returns-then-area-lt-LOOK_ANSWER_WORDS
returns-then-area-lt-LOOK_ANSWER_WORDS c =
    let a = c.args in
    without_room look_answer_words (answer_words_of (expected (read TableLook a.file.now 0))) a.area.now (lt-leb _ _ c.if-area-lt-LOOK_ANSWER_WORDS.true)

pub returns-in-Ok : goal.returns-in-Ok
returns-in-Ok c =
    let a = c.args in
    answered a.file.now c.read_look.ensures.1 a.area.now (by_number c.read_look.result) c.read_look.ensures.0 (le-leb _ _ c.if-area-lt-LOOK_ANSWER_WORDS.false)
    (ap by_number c.in-Ok.is) (c.put-st.ensures ⟩ c.whole.ensures)

pub returns-in-Err : goal.returns-in-Err
returns-in-Err c =
    let a = c.args in
    answered a.file.now c.read_look.ensures.1 a.area.now (by_number c.read_look.result) c.read_look.ensures.0 (le-leb _ _ c.if-area-lt-LOOK_ANSWER_WORDS.false)
    (ap by_number c.in-Err.is) (rw (c.word.ensures, c.number.ensures) at (c.put-st-in-Err.ensures ⟩ c.put.ensures))
