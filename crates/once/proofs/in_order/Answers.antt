use Rattle.std.proofs.Common.{sym, ap, ◌∙◌, ◌+◌, ◌-◌, ◌≡◌, length, zero-add, arith}
use Rattle.grammar.specs.RecordWords as spec
use Rattle.once.proofs.Walk.{at_leaf, at_group, at_end, past_group}
use Rattle.once.proofs.Ordered.{none_seen, past_leaf}
use Rattle.once.proofs.in_order.Goals as goal
use Rattle.once.proofs.in_order.Goals.{then-is_leaf+else-leaf_index-next, else-is_leaf}

pub loop-i-init : goal.loop-i-init
loop-i-init c =
    let z : c.args.first + c.args.k - c.args.first ≡ c.args.k = omega arith in
    (omega arith, rw (zero-add, z), none_seen _ _ _ _)

pub loop-i-preserved : goal.loop-i-preserved
unfolding spec.leaf
loop-i-preserved c =
    let ws = c.args.nodes.now in
    let end = c.args.first + c.args.k in
    let i = c.loop-i.invariant in
    let h = c.loop-i-test.true in
    elim c.if-is_leaf.branch [
      | then-is_leaf+else-leaf_index-next w ↦
          let l = sym c.is_leaf.ensures ∙ w.if-is_leaf.true in
          let e = ap length (at_leaf ws c.loop-i.i end h l) in
          (omega arith, omega (arith, i.1, e), rw w.next-is (past_leaf i.2 h l (sym w.leaf_index.ensures ∙ w.if-leaf_index-next.false) (omega (arith, i.1, e))))
      | else-is_leaf w ↦
          let g = sym c.is_leaf.ensures ∙ w.if-is_leaf.false in
          let e = ap length (at_group ws c.loop-i.i end h g) in
          (omega arith, omega (arith, i.1, e), rw w.next-is (past_group i.2 h g))
    ]

pub returns : goal.returns
unfolding spec.leaves
returns c =
    let z : c.args.first + c.args.k - c.loop-i.i ≡ 0 = omega arith in
    record { count = omega (arith, rw z at c.loop-i.invariant.1); first = sym (at_end c.loop-i.invariant.2 (omega arith)) }
