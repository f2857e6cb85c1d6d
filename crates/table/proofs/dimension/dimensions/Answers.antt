use Rattle.std.proofs.Common.{length, arith}
use Rattle.layout.specs.Keeps.{keeps_off}
use Rattle.table.specs.Laws.Within.{too_long, too_short, is_within}
use Rattle.table.specs.Laws.Dims.{node_record_sizes, node_room}
use Rattle.table.proofs.dimension.dimensions.Goals as goal

pub returns-then-s-gt-MEMBER_BYTES-clause-dimensions : goal.returns-then-s-gt-MEMBER_BYTES-clause-dimensions
returns-then-s-gt-MEMBER_BYTES-clause-dimensions c =
    let a = c.args in
    rw (too_long node_record_sizes a.s.now a.at (length a.nodes.now) _ c.if-s-gt-MEMBER_BYTES.true) keeps_off

pub returns-then-nodes-most_node_words-clause-dimensions : goal.returns-then-nodes-most_node_words-clause-dimensions
returns-then-nodes-most_node_words-clause-dimensions c =
    let a = c.args in
    rw (too_short node_record_sizes a.s.now a.at (length a.nodes.now) _ (omega arith) (omega (arith, c.most_node_words.ensures, c.left.ensures))) keeps_off

pub with_room-requires : goal.with_room-requires
with_room-requires c =
    let a = c.args in
    node_room a.s.now a.at _ (omega (arith, c.most_node_words.ensures, c.left.ensures))

pub returns-clause-dimensions : goal.returns-clause-dimensions
returns-clause-dimensions c =
    let a = c.args in
    rw (is_within node_record_sizes a.s.now a.at (length a.nodes.now) _ (omega arith) (omega (arith, c.most_node_words.ensures, c.left.ensures))) c.with_room.ensures
