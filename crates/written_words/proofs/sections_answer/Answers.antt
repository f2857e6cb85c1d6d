use Rattle.std.proofs.lemmas.Bool.{le-leb, lt-leb}
use Rattle.written_words.proofs.Sections.{sectioned, not_sectioned}
use Rattle.written_words.proofs.sections_answer.Goals as goal

pub returns-then-asked : goal.returns-then-asked
returns-then-asked c = sectioned (le-leb _ _ c.if-asked.true) c.look_sections.ensures c.answer_words.ensures

pub returns-else-asked : goal.returns-else-asked
returns-else-asked c = not_sectioned (lt-leb _ _ c.if-asked.false)
