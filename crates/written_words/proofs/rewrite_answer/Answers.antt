use Rattle.std.proofs.lemmas.Bool.{le-leb, lt-leb}
use Rattle.refusals.specs.Numbers.{by_number}
use Rattle.written_words.proofs.Rewrite.{done, not_asked}
use Rattle.written_words.proofs.rewrite_answer.Goals as goal

pub returns-then-room : goal.returns-then-room
returns-then-room c = done _ c.read_look-got.ensures.1 _ _ _ c.read_look-got.ensures.0 (le-leb _ _ c.if-room.true) c.write_again.ensures c.answer_words.ensures

pub returns-else-room : goal.returns-else-room
returns-else-room c = not_asked _ c.read_look-got.ensures.1 _ _ (by_number c.read_look-got.result) c.read_look-got.ensures.0 (lt-leb _ _ c.if-room.false)
