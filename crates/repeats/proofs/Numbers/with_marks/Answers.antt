-- None of the marks is set.
use Rattle.once.specs.Laws.Marks.{all_clear}
use Rattle.repeats.proofs.Numbers.with_marks.Goals as goal

pub by_marks-requires : goal.by_marks-requires
by_marks-requires g c = all_clear g.row.MARKS
