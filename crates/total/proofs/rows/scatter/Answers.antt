use mathlib.Core.Path.{◌∙◌}
use native.Mathlib.Omega.{arith}
use Rattle.total.specs.Laws.Sums.{room}
use Rattle.total.specs.Laws.Words.{record_says}
use Rattle.total.specs.Laws.LeafRows.{scatter_in, scatter_out}
use Rattle.total.proofs.rows.scatter.Goals as goal

pub kind_at-k-requires : goal.kind_at-k-requires
kind_at-k-requires c = c.requires.0

pub row-requires : goal.row-requires
row-requires c = omega (arith, c.if-leaf-n.true, c.requires.1)

pub add-requires : goal.add-requires
add-requires c = room {s = c.row.result} (rw c.row.ensures (c.requires.3 _ c.if-leaf-n.true))

pub returns-then-leaf-n : goal.returns-then-leaf-n
returns-then-leaf-n c =
    let a = c.args in
    scatter_in a.block a.step a.n (record_says a.member.now a.version a.words.now a.i) a.area.now (c.coordinate-leaf.ensures ∙ rw c.word.ensures) c.if-leaf-n.true c.row.ensures
    (c.add.ensures ∙ rw (c.kind_at-k.ensures, c.word-place.ensures)) c.set_row.ensures

pub returns-else-leaf-n : goal.returns-else-leaf-n
returns-else-leaf-n c =
    let a = c.args in
    scatter_out a.block a.step a.n (record_says a.member.now a.version a.words.now a.i) a.area.now (c.coordinate-leaf.ensures ∙ rw c.word.ensures) c.if-leaf-n.false
