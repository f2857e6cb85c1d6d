-- Document 02, T-07: "A node's descendants are then exactly the records directly after it, that many less one." Over the records of a whole
-- member, all dimensions together.
use Rattle.std.specs.Prelude.{◌≡◌, ◌↔◌, List, [], ℕ, ◌+◌, ◌≤◌, ◌<◌}
use Rattle.std.proofs.Common.{sym, append-nil, zero-add, arith}
use Rattle.sizes.specs.Sizes.{no_parent}
use Rattle.grammar.specs.Below.{parent_of, size_of, Below}
use Rattle.grammar.specs.Laws.Table.Groups.{Groups, group_of, below_exactly, next_child, next_top}
use Rattle.grammar.proofs.Laws.Table.Groups.{dims_groups}
use Rattle.grammar.specs.Member.{version, dimensions, nodes, dimensions_at, node_records, MemberDerivation}

module _ {bs : List ℕ} (d : MemberDerivation bs) where
  all_groups : Groups (node_records d.tree) no_parent 0 (nodes d.tree)
  all_groups =
      let ws = node_records d.tree in
      rw (← zero-add (nodes d.tree)) (dims_groups (version d.tree) ws 0 0 (dimensions_at d.tree) (dimensions d.tree) [] (sym (append-nil ws)))

  -- node j is below node i, by the parent words, exactly when it is one of the records directly after it, as many as its size less one
  pub nodes_below : (i j : ℕ) → i < nodes d.tree → let ws = node_records d.tree in Below ws (nodes d.tree) i j ↔ ((i < j) × (j < i + size_of ws i))
  nodes_below = below_exactly (node_records d.tree) (nodes d.tree) all_groups (omega (arith, d.few_nodes))

  -- a node contains itself, and no more nodes than follow it
  pub size_inside : (i : ℕ) → i < nodes d.tree → let n = size_of (node_records d.tree) i in (1 ≤ n) × (i + n ≤ nodes d.tree)
  size_inside i h = let g = group_of all_groups i (omega arith) h in (g.itself, g.ends)

  -- the node after node i's group has the same parent, where that parent's group goes on there; nodes without a parent likewise
  pub next_sibling : (i : ℕ) → i < nodes d.tree → let ws = node_records d.tree in let p = parent_of ws i in let j = i + size_of ws i in
      (p < nodes d.tree → j < p + size_of ws p → parent_of ws j ≡ p) × (p ≡ no_parent → j < nodes d.tree → parent_of ws j ≡ no_parent)
  next_sibling i h =
      let ws = node_records d.tree in
      let n = nodes d.tree in
      (next_child ws n all_groups (omega (arith, d.few_nodes)) i h, next_top ws n all_groups (omega (arith, d.few_nodes)) i)
