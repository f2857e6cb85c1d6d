use Rattle.std.proofs.Common.{◌≡◌, ◌∙◌, ◌+◌, ◌*◌, min, refl, get_or, arith}
use Rattle.sizes.specs.Sizes.{node_words, node_size}
use Rattle.desk.proofs.Tests.{leads_to, no_size, no_record}
use Rattle.desk.proofs.after_of.Goals as goal
use Rattle.desk.proofs.after_of.Goals.{else-n-ge1-via-then-n-ge1+else-i-n, else-n-ge1-via-else-n-ge1}

pub overflow_add-i : goal.overflow_add-i
overflow_add-i c = omega (arith, c.type_inv.nodes (node_words * c.args.i + node_size))

pub returns-then-i-n : goal.returns-then-i-n
returns-then-i-n c =
    let a = c.args in
    let n = get_or a.nodes.now (node_words * a.i + node_size) 0 in
    let e : a.i + n ≡ min (a.i + n) a.count = omega arith in
    e ∙ leads_to a.nodes.now a.count a.i (omega arith) refl (omega arith)

pub returns-else-n-ge1 : goal.returns-else-n-ge1
returns-else-n-ge1 c =
    let a = c.args in
    let n = get_or a.nodes.now (node_words * a.i + node_size) 0 in
    elim c.else-n-ge1.branch [
      | else-n-ge1-via-then-n-ge1+else-i-n w ↦
          let e : a.count ≡ min (a.i + n) a.count = omega arith in
          e ∙ leads_to a.nodes.now a.count a.i (omega arith) refl (omega arith)
      | else-n-ge1-via-else-n-ge1 w ↦ no_size a.nodes.now a.count a.i (omega arith) (omega arith)
    ]

pub returns-else-i-records : goal.returns-else-i-records
returns-else-i-records c = let a = c.args in no_record a.nodes.now a.count a.i (omega arith)
