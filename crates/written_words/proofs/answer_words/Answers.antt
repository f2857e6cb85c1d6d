use mathlib.Core.Path.{refl}
use Rattle.std.proofs.lemmas.Bool.{le-leb}
use Rattle.sizes.specs.Sizes.{write_answer_words}
use Rattle.store.specs.Laws.Puts.{with_room}
use Rattle.written_words.proofs.answer_words.Goals as goal

pub returns-in-Ok : goal.returns-in-Ok
returns-in-Ok c = rw c.in-Ok.is (with_room write_answer_words _ _ refl (le-leb _ _ c.requires) c.step_words.ensures)

pub returns-in-Err : goal.returns-in-Err
returns-in-Err c = rw c.in-Err.is (with_room write_answer_words _ _ refl (le-leb _ _ c.requires) (rw c.number.ensures at c.step_words-in-Err.ensures))
