use native.Mathlib.Omega.{arith}
use lib.ListN.{length-set}
use Rattle.total.specs.Laws.Rows.{eleven_sets}
use Rattle.total.proofs.rows.put_row.Goals as goal

pub bounds-area-at-2 : goal.bounds-area-at-2
bounds-area-at-2 c = simp length-set (omega arith)

pub bounds-area-at-3 : goal.bounds-area-at-3
bounds-area-at-3 c = simp length-set (omega arith)

pub bounds-area-at-4 : goal.bounds-area-at-4
bounds-area-at-4 c = simp length-set (omega arith)

pub bounds-area-at-5 : goal.bounds-area-at-5
bounds-area-at-5 c = simp length-set (omega arith)

pub bounds-area-at-6 : goal.bounds-area-at-6
bounds-area-at-6 c = simp length-set (omega arith)

pub bounds-area-at-7 : goal.bounds-area-at-7
bounds-area-at-7 c = simp length-set (omega arith)

pub bounds-area-at-8 : goal.bounds-area-at-8
bounds-area-at-8 c = simp length-set (omega arith)

pub bounds-area-at-9 : goal.bounds-area-at-9
bounds-area-at-9 c = simp length-set (omega arith)

pub bounds-area-at-10 : goal.bounds-area-at-10
bounds-area-at-10 c = simp length-set (omega arith)

pub bounds-area-at-11 : goal.bounds-area-at-11
bounds-area-at-11 c = simp length-set (omega arith)

pub shape_of-area : goal.shape_of-area
shape_of-area c = simp length-set

pub returns : goal.returns
returns c = let a = c.args in eleven_sets a.area.now a.at a.w0 a.w1 a.w2 a.w3 a.w4 a.w5 a.w6 a.w7 a.w8 a.w9 a.w10
