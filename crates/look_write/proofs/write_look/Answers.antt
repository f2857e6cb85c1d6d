use Prim.Native.Nat.{ℕ}
use lib.ListN.{length-replicate}
use Rattle.sizes.specs.Sizes.{longest_look}
use Rattle.layout.specs.Steps.Slices.{bytes_of}
use Rattle.refusals.specs.Numbers.{by_number}
use Rattle.look_write.proofs.Whole.{wrote}
use Rattle.look_write.proofs.write_look.Goals as goal

pub returns : goal.returns
returns c =
    let a = c.args in
    wrote a.look (by_number c.deliver.result) (length-replicate {A = ℕ} longest_look 0) (bytes_of a.names.now c.type_inv.names)
    c.table_look-st.ensures c.deliver.ensures
