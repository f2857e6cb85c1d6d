use Rattle.std.proofs.lemmas.Bool.{le-leb, lt-leb}
use Rattle.member.proofs.Areas.{both, short_cells, short_nodes}
use Rattle.member.proofs.deliver.Goals as goal

pub returns-then-nodes-node_words-clause-filled : goal.returns-then-nodes-node_words-clause-filled
returns-then-nodes-node_words-clause-filled c = let a = c.args in short_nodes a.node_records.now a.cell_records.now a.nodes.now a.cells.now (lt-leb _ _ c.if-nodes-node_words.true)

pub returns-then-cells-cell_words-clause-filled : goal.returns-then-cells-cell_words-clause-filled
returns-then-cells-cell_words-clause-filled c = let a = c.args in short_cells a.node_records.now a.cell_records.now a.nodes.now a.cells.now (le-leb _ _ c.if-nodes-node_words.false) (lt-leb _ _ c.if-cells-cell_words.true)

pub returns-clause-filled : goal.returns-clause-filled
returns-clause-filled c = let a = c.args in rw (c.copy_from_slice.ensures.after, c.copy_from_slice-2.ensures.after) (both a.node_records.now a.cell_records.now a.nodes.now a.cells.now (le-leb _ _ c.if-nodes-node_words.false) (le-leb _ _ c.if-cells-cell_words.false))
