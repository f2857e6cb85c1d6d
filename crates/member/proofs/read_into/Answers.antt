use mathlib.Core.Path.{refl, ◌∙◌}
use native.Mathlib.Omega.{arith}
use lib.ListN.{length}
use Rattle.table.specs.Laws.Within.{too_long, too_short, is_within}
use Rattle.table.specs.Laws.Dims.{node_record_sizes}
use Rattle.cells.specs.Laws.Cells.{cell_record_sizes}
use Rattle.member.specs.Laws.IntoLists.{into_lists}
use Rattle.member.specs.Laws.Whole.{none_stored, as_checked}
use Rattle.member.proofs.read_into.Goals as goal

pub returns-then-member-gt-MEMBER_BYTES : goal.returns-then-member-gt-MEMBER_BYTES
returns-then-member-gt-MEMBER_BYTES c =
    let a = c.args in
    let k = length a.node_list.now in
    let m = length a.cell_list.now in
    rw (c.refused.ensures, c.number.ensures) (none_stored (into_lists a.member.now k m) (too_long node_record_sizes a.member.now 0 k _ (omega arith)) refl refl)

pub returns-then-node_list-most_node_words : goal.returns-then-node_list-most_node_words
returns-then-node_list-most_node_words c =
    let a = c.args in
    let k = length a.node_list.now in
    let m = length a.cell_list.now in
    rw (c.refused-then-node_list-most_node_words.ensures, c.number-then-node_list-most_node_words.ensures) (none_stored (into_lists a.member.now k m) (too_short node_record_sizes a.member.now 0 k _ (omega arith) (omega (arith, c.most_node_words.ensures))) refl refl)

pub returns-then-cell_list-most_cell_words : goal.returns-then-cell_list-most_cell_words
returns-then-cell_list-most_cell_words c =
    let a = c.args in
    let k = length a.node_list.now in
    let m = length a.cell_list.now in
    rw (c.refused-then-cell_list-most_cell_words.ensures, c.number-then-cell_list-most_cell_words.ensures) (none_stored (into_lists a.member.now k m)
    (is_within node_record_sizes a.member.now 0 k _ (omega arith) (omega (arith, c.most_node_words.ensures)) ∙ too_short cell_record_sizes a.member.now 0 m _ (omega arith) (omega (arith, c.most_cell_words.ensures))) refl refl)

pub returns : goal.returns
returns c =
    let a = c.args in
    rw (as_checked a.member.now {k = length a.node_list.now} {m = length a.cell_list.now} (omega (arith, c.most_node_words.ensures), omega (arith, c.most_cell_words.ensures))) c.read_ready.ensures
