use mathlib.Core.Path.{◌≡◌, ◌∙◌}
use Prim.Native.Nat.{◌-◌}
use native.Mathlib.Nat.{sub_self, sub-zero}
use native.Mathlib.Omega.{arith}
use Rattle.total.specs.Total.{sums}
use Rattle.total.specs.Laws.Sums.{room}
use Rattle.total.specs.Laws.Words.{under_by, record_says, records_say, cell_added, cell_left, before_others, records_within}
use Rattle.total.proofs.under.sums_under.Goals as goal

pub loop-i-init : goal.loop-i-init
unfolding sums records_say
loop-i-init c = rw sub_self c.no_sums-s.ensures

pub overflow_mul-at : goal.overflow_mul-at
unfolding sums records_say
overflow_mul-at c = record { fits = omega (arith, c.loop-i.auto.i, c.requires) }

pub kind_at-k-requires : goal.kind_at-k-requires
unfolding sums records_say
kind_at-k-requires c = omega (arith, c.loop-i.auto.i, c.requires)

pub overflow_add-at : goal.overflow_add-at
unfolding sums records_say
overflow_add-at c = record { fits = omega (arith, c.loop-i.auto.i, c.requires) }

pub add-s-requires : goal.add-s-requires
unfolding sums records_say
add-s-requires c =
    let a = c.args in
    room (records_within a.x.member.now a.g.version a.x.cell_list.now (under_by a.g.block a.g.step a.leaf) c.loop-i.i (a.g.cells - c.loop-i.i) (omega (arith, c.requires)) c.loop-i.invariant)

pub loop-i-preserved-then-is_under : goal.loop-i-preserved-then-is_under
unfolding sums records_say
loop-i-preserved-then-is_under c =
    let l = c.loop-i in
    let a = c.args in
    before_others a.x.member.now a.g.version a.x.cell_list.now _ l.i a.g.cells (omega arith) l.auto.i l.invariant
    (cell_added (under_by a.g.block a.g.step a.leaf) (record_says a.x.member.now a.g.version a.x.cell_list.now (l.i - 1)) l.s (c.is_under.ensures ∙ rw c.word.ensures) c.if-is_under.true
    (c.add-s.ensures ∙ rw (c.kind_at-k.ensures, c.word-then-is_under.ensures)))

pub loop-i-preserved : goal.loop-i-preserved
unfolding sums records_say
loop-i-preserved c =
    let l = c.loop-i in
    let a = c.args in
    before_others a.x.member.now a.g.version a.x.cell_list.now _ l.i a.g.cells (omega arith) l.auto.i l.invariant
    (cell_left (under_by a.g.block a.g.step a.leaf) (record_says a.x.member.now a.g.version a.x.cell_list.now (l.i - 1)) l.s (c.is_under.ensures ∙ rw c.word.ensures) c.if-is_under.false)

pub returns : goal.returns
unfolding sums records_say
returns c =
    let l = c.loop-i in
    let z : l.i ≡ 0 = omega arith in
    rw sub-zero at (rw z at l.invariant)
