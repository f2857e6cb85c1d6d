use Rattle.std.proofs.Math.Path.{refl}
use native.Mathlib.Omega.{arith}
use Rattle.table.specs.Laws.InMember.{in_member}
use Rattle.grammar.specs.Laws.Member.Checked.{checked}
use Rattle.member.specs.Laws.Whole.{no_dims, dims_later, no_tail, with_tail, none_stored}
use Rattle.member.proofs.read_body.Goals as goal

pub after_dims-requires : goal.after_dims-requires
after_dims-requires c =
    let a = c.args in
    let m = a.member in
    let later = dims_later _ m.bytes.now (in_member m.are_bytes) a.node_list.now a.cell_list.now c.requires.1 c.requires.0 (rw c.in-Ok.is at c.dimensions.ensures.dimensions) in
    omega (arith, later, c.requires.0.1)

pub returns-in-Err : goal.returns-in-Err
returns-in-Err c =
    let a = c.args in
    let m = a.member in
    let e = c.dimensions.ensures in
    rw c.not_read.ensures (none_stored (checked m.bytes.now) (no_dims _ m.bytes.now (in_member m.are_bytes) a.node_list.now a.cell_list.now c.requires.1 c.requires.0 (rw c.in-Err.is at e.dimensions)) e.scratch refl)

pub returns-in-Err-after_dims : goal.returns-in-Err-after_dims
returns-in-Err-after_dims c =
    let a = c.args in
    let m = a.member in
    let e = c.dimensions.ensures in
    rw c.not_read-in-Err-after_dims.ensures (none_stored (checked m.bytes.now) (no_tail _ m.bytes.now (in_member m.are_bytes) a.node_list.now a.cell_list.now c.requires.1 c.requires.0 (rw c.in-Ok.is at e.dimensions) (rw c.in-Err-after_dims.is at c.after_dims.ensures)) e.scratch (omega (arith, c)))

pub returns-in-Ok-after_dims : goal.returns-in-Ok-after_dims
returns-in-Ok-after_dims c =
    let a = c.args in
    let m = a.member in
    with_tail _ m.bytes.now (in_member m.are_bytes) a.node_list.now a.cell_list.now c.requires.1 c.requires.0 (rw c.in-Ok.is at c.dimensions.ensures.dimensions) (rw c.in-Ok-after_dims.is at c.after_dims.ensures)
