use Prim.Native.Nat.{ℕ}
use lib.ListN.{length-replicate}
use Rattle.refusals.specs.Numbers.{by_number}
use Rattle.sections_put.specs.Fields.{longest_sections}
use Rattle.look_sections.proofs.Whole.{stored}
use Rattle.look_sections.proofs.write_sections.Goals as goal

pub returns : goal.returns
returns c = stored c.args.x (by_number c.deliver.result) c.requires (length-replicate {A = ℕ} longest_sections 0) c.sections-st.ensures c.deliver.ensures
