use Rattle.std.proofs.Common.{arith}
use Rattle.std.proofs.Math.Path.{refl}
use Rattle.std.proofs.lemmas.Bool.{le-leb, lt-leb}
use Rattle.store.specs.Laws.Puts.{long_words}
use Rattle.members_words.proofs.MemberList.{words_below, room_after, members_read, members_unread, list_refused, list_unread}
use Rattle.members_words.proofs.members_answer.Goals as goal

pub returns-in-Err : goal.returns-in-Err
returns-in-Err c =
    list_refused _ _ _ _ _ (rw c.in-Err.is at c.list_refusal.ensures.code) (rw (rw c.in-Err.is at c.list_refusal.ensures.reason) refl) (le-leb _ _ c.if-answers-lt-MEMBERS_ANSWER_WORDS.false) (rw c.number.ensures at c.put.ensures)

pub returns-then-answers-lt-MEMBERS_ANSWER_WORDS : goal.returns-then-answers-lt-MEMBERS_ANSWER_WORDS
returns-then-answers-lt-MEMBERS_ANSWER_WORDS c = list_unread _ _ _ _ _ (rw c.in-Err.is at c.list_refusal.ensures.code) (rw (rw c.in-Err.is at c.list_refusal.ensures.reason) refl) (lt-leb _ _ c.if-answers-lt-MEMBERS_ANSWER_WORDS.true)

pub overflow_mul-words : goal.overflow_mul-words
overflow_mul-words c =
    let a = c.args in
    omega (arith, words_below a.buffer.now a.list.now a.answers.now a.nodes.now a.cells.now (rw c.in_default.is at c.list_refusal.ensures.code) refl)

pub overflow_add-words : goal.overflow_add-words
overflow_add-words c =
    let a = c.args in
    omega (arith, words_below a.buffer.now a.list.now a.answers.now a.nodes.now a.cells.now (rw c.in_default.is at c.list_refusal.ensures.code) refl)

pub returns-then-answers-words : goal.returns-then-answers-words
returns-then-answers-words c = members_unread _ _ _ _ _ (rw c.in_default.is at c.list_refusal.ensures.code) refl (lt-leb _ _ c.if-answers-words.true)

pub read_all-requires : goal.read_all-requires
read_all-requires c =
    let a = c.args in
    room_after a.buffer.now a.list.now a.answers.now a.nodes.now a.cells.now (le-leb _ _ c.if-answers-words.false) c.put-2.new.out (long_words c.put-2.ensures)

pub returns : goal.returns
returns c =
    members_read _ _ _ _ _ (rw c.in_default.is at c.list_refusal.ensures.code) refl (le-leb _ _ c.if-answers-words.false) c.put-2.ensures c.read_all.ensures
