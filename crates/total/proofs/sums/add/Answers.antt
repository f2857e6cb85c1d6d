use native.Mathlib.Omega.{arith}
use Rattle.total.specs.Total.{add}
use Rattle.total.proofs.sums.add.Goals as goal

pub overflow_add-result : goal.overflow_add-result
unfolding add
overflow_add-result c = record { fits = omega arith }

pub overflow_add-result-in-Missing : goal.overflow_add-result-in-Missing
unfolding add
overflow_add-result-in-Missing c = record { fits = omega arith }

pub overflow_add-result-in-Number : goal.overflow_add-result-in-Number
unfolding add
overflow_add-result-in-Number c = record { fits = omega arith }

pub overflow_add-result-in-Number-2 : goal.overflow_add-result-in-Number-2
unfolding add
overflow_add-result-in-Number-2 c = record { fits = omega arith }

pub returns-in-Text : goal.returns-in-Text
unfolding add
returns-in-Text c = rw c.in-Text.is

pub returns-in-Missing : goal.returns-in-Missing
unfolding add
returns-in-Missing c = rw c.in-Missing.is

pub returns-in-Number : goal.returns-in-Number
unfolding add
returns-in-Number c = rw (c.in-Number.is, c.max.ensures, c.least.ensures)

pub returns-in-Bad : goal.returns-in-Bad
unfolding add
returns-in-Bad c = rw c.in-Bad.is
