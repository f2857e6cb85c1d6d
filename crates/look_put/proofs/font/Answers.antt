use borrow.Author.Rules.{rules}
use mir.Syntax.{w32}
use mir.ValLaws.{to_z-of_z}
use mir.Val.{SFits}
use Rattle.store.specs.Laws.Puts.{◌⊳◌}
use Rattle.look_put.proofs.font.Goals as goal

pub returns : goal.returns
returns c =
    let f : SFits w32 c.args.x.font_size = search rules in
    (rw (to_z-of_z w32 c.args.x.font_size f) at c.signed-st.ensures)
    ⊳ c.int16-st.ensures.any ⊳ c.zeros-st.ensures
    ⊳ c.int32-st.ensures.any ⊳ c.zeros-st-2.ensures
    ⊳ c.int16-st-2.ensures.any ⊳ c.zeros.ensures
