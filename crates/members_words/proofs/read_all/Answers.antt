use native.Mathlib.Omega.{arith}
use Rattle.members_words.specs.Laws.MembersRead.{read_none, read_next, same_words_length, room_next, read_to_end}
use Rattle.members.specs.Laws.Turns.{same_node_length, same_cell_length}
use Rattle.members_words.proofs.read_all.Goals as goal

pub loop-i-init : goal.loop-i-init
loop-i-init c = read_none _ _ _ _ _

pub read_into-requires : goal.read_into-requires
read_into-requires c = room_next c.loop-i.invariant c.requires (omega arith)

pub loop-i-preserved : goal.loop-i-preserved
loop-i-preserved c = read_next c.loop-i.invariant (omega arith) c.read_into.ensures

pub shape_of-answers : goal.shape_of-answers
shape_of-answers c = same_words_length c.loop-i.invariant c.requires (omega arith)

pub shape_of-nodes : goal.shape_of-nodes
shape_of-nodes c = same_node_length c.loop-i.invariant.areas (omega arith)

pub shape_of-cells : goal.shape_of-cells
shape_of-cells c = same_cell_length c.loop-i.invariant.areas (omega arith)

pub returns : goal.returns
returns c = read_to_end c.loop-i.invariant (omega arith) (omega arith)
