use native.Mathlib.Omega.{arith}
use Rattle.grammar.specs.Laws.Layout.Part.{part_inside, part_outside}
use Rattle.layout.proofs.slice.part.Goals as goal

pub returns-then-length-s : goal.returns-then-length-s
returns-then-length-s c =
    let a = c.args in
    part_inside a.s.now a.place a.length (omega arith)

pub returns-else-length-s : goal.returns-else-length-s
returns-else-length-s c =
    let a = c.args in
    part_outside a.s.now a.place a.length (omega arith)

pub returns-else-place-s : goal.returns-else-place-s
returns-else-place-s c =
    let a = c.args in
    part_outside a.s.now a.place a.length (omega arith)
