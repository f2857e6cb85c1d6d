use native.Mathlib.Omega.{arith}
use Rattle.total.specs.Laws.Words.{record_says, figure_counts, no_figure_counts}
use Rattle.total.proofs.under.kind_at.Goals as goal

pub overflow_mul-at : goal.overflow_mul-at
overflow_mul-at c = record { fits = omega arith }

pub overflow_add-at : goal.overflow_add-at
overflow_add-at c = record { fits = omega arith }

pub overflow_add-at-2 : goal.overflow_add-at-2
overflow_add-at-2 c = record { fits = omega arith }

pub returns-in-Some : goal.returns-in-Some
returns-in-Some c = rw (c.kind_of.ensures, rw c.in-Some.is at c.read_figure.ensures.value, c.part.ensures, figure_counts, c.word-place.ensures, c.word-n.ensures)

pub returns-in-None : goal.returns-in-None
returns-in-None c =
    let a = c.args in
    let e = rw c.in-None.is at c.read_figure.ensures.value in
    no_figure_counts (record_says a.member.now a.version a.words.now a.i).contents.raw (rw (c.part.ensures, c.word-place.ensures, c.word-n.ensures) at e)
