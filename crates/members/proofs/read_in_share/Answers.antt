use native.Mathlib.Omega.{arith}
use lib.ListN.{length}
use Rattle.members.proofs.Lent.{in_share}
use Rattle.members.specs.Laws.Shares.{share_inside}
use Rattle.members.proofs.read_in_share.Goals as goal

pub share_at-node_share-requires : goal.share_at-node_share-requires
share_at-node_share-requires c = (c.requires, share_inside _ _ _ c.requires)

pub share_at-cell_share-requires : goal.share_at-cell_share-requires
share_at-cell_share-requires c = (c.requires, share_inside _ _ _ c.requires)

pub offset_bounds-nodes-node_share : goal.offset_bounds-nodes-node_share
offset_bounds-nodes-node_share c = omega (arith, share_inside (length c.args.nodes.now) _ _ c.requires)

pub slice_bounds-read_member-end : goal.slice_bounds-read_member-end
slice_bounds-read_member-end c = omega (arith, share_inside (length c.args.nodes.now) _ _ c.requires)

pub offset_bounds-cells-cell_share : goal.offset_bounds-cells-cell_share
offset_bounds-cells-cell_share c = omega (arith, share_inside (length c.args.cells.now) _ _ c.requires)

pub slice_bounds-read_member-end-2 : goal.slice_bounds-read_member-end-2
slice_bounds-read_member-end-2 c = omega (arith, share_inside (length c.args.cells.now) _ _ c.requires)

pub returns : goal.returns
returns c =
    in_share _ _ _ c.args.nodes.now c.args.cells.now c.requires c.share_at-node_share.ensures.0 c.share_at-node_share.ensures.1 c.share_at-cell_share.ensures.0 c.share_at-cell_share.ensures.1
    c.read_member.ensures.checks c.read_member.ensures.demands.place.1
