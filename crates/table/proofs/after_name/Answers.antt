use Rattle.std.proofs.Common.{arith, eq-eqb, ne_eqb}
use Rattle.layout.specs.Steps.Chain.{◌◂◌}
use Rattle.table.specs.Laws.InMember.{in_member}
use Rattle.table.specs.Laws.Heads.{leaf_head, group_head}
use Rattle.table.proofs.after_name.Goals as goal

pub returns-then-kind-eq0 : goal.returns-then-kind-eq0
returns-then-kind-eq0 c =
    let a = c.fixed-a.ensures in
    rw c.node.ensures (leaf_head _ (in_member c.args.member.are_bytes) (omega (arith, c.args.member.short)) c.requires c.kind_field-st.ensures _
    c.peek-kind.ensures (eq-eqb _ _ c.if-kind-eq0.true) a c.peek-index.ensures (c.fixed-end.ensures ◂ c.any.ensures.low ◂ a))

pub returns-else-kind-eq0 : goal.returns-else-kind-eq0
returns-else-kind-eq0 c =
    let a = c.fixed-b.ensures ◂ c.any-a.ensures.low in
    rw c.node-else-kind-eq0.ensures (group_head _ (in_member c.args.member.are_bytes) (omega (arith, c.args.member.short)) c.requires c.kind_field-st.ensures _
    c.peek-kind.ensures (ne_eqb _ _ c.if-kind-eq0.false) a c.peek-n.ensures (c.any-end.ensures.low ◂ a))
