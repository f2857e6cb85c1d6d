use Rattle.std.proofs.Common.{refl, false}
use Rattle.layout.specs.Steps.Chain.{◌◂◌}
use Rattle.store.specs.Fields.{placed}
use Rattle.fields.specs.Laws.Shows.{◌&◌, shows_nothing, shows_of}
use Rattle.fields.specs.Laws.Gives.{to_shows}
use Rattle.fields.specs.Laws.Exits.{begins, exit_shows}
use Rattle.grammar.specs.Value.{Form01}
use Rattle.contents.specs.Contents.{says_01, raw, none}
use Rattle.contents.proofs.forms.form_01.Goals as goal

pub returns-in_err-format : goal.returns-in_err-format
unfolding Form01
returns-in_err-format c = exit_shows _ _ _ _ _ _ c.from_residual.ensures (search begins depth 20) (c.in_err-format.ensures ◂ c.value_mod-st.ensures)

pub returns-in_err-bits : goal.returns-in_err-bits
unfolding Form01
returns-in_err-bits c = exit_shows _ _ _ _ _ _ c.from_residual-in_err-bits.ensures (search begins depth 20) (c.in_err-bits.ensures ◂ c.in_ok-format.ensures.reads ◂ c.value_mod-st.ensures)

pub returns : goal.returns
unfolding Form01 says_01 placed
returns c =
    shows_of (λ x. raw 1 x.0.1.0 x.1.0 0 false none none none none none 0 0)
    (λ t at. refl)
    (shows_nothing c.value_mod-st.ensures & to_shows c.in_ok-format.ensures & to_shows c.in_ok-bits.ensures)
