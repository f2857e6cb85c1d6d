use Rattle.std.proofs.Common.{sym, ap, ◌∙◌, ◌+◌, ◌-◌, ◌≡◌, length, zero-add, arith}
use Rattle.grammar.specs.RecordWords as spec
use Rattle.once.proofs.Walk.{at_leaf, at_group}
use Rattle.once.proofs.count_leaves.Goals as goal
use Rattle.once.proofs.count_leaves.Goals.{then-is_leaf, else-is_leaf}

pub loop-i-init : goal.loop-i-init
loop-i-init c = let z : c.args.first + c.args.k - c.args.first ≡ c.args.k = omega arith in (omega arith, rw (zero-add, z))

pub loop-i-preserved : goal.loop-i-preserved
loop-i-preserved c =
    let ws = c.args.nodes.now in
    let end = c.args.first + c.args.k in
    let i = c.loop-i.invariant in
    let h = c.loop-i-test.true in
    elim c.if-is_leaf.branch [
      | then-is_leaf w ↦
          let e = ap length (at_leaf ws c.loop-i.i end h (sym c.is_leaf.ensures ∙ w.if-is_leaf.true)) in
          (omega arith, omega (arith, i.1, e))
      | else-is_leaf w ↦
          let e = ap length (at_group ws c.loop-i.i end h (sym c.is_leaf.ensures ∙ w.if-is_leaf.false)) in
          (omega arith, omega (arith, i.1, e))
    ]

pub returns : goal.returns
unfolding spec.leaves
returns c =
    let z : c.args.first + c.args.k - c.loop-i.i ≡ 0 = omega arith in
    omega (arith, rw z at c.loop-i.invariant.1)
