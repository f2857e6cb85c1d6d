use Rattle.total.proofs.call.copy_records.Goals as goal

pub returns : goal.returns
returns c = record { node_area = rw c.copy_from_slice.ensures.after; cell_area = rw c.copy_from_slice-2.ensures.after }
