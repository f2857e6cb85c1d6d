use Rattle.std.proofs.Common.{refl, false}
use Rattle.layout.specs.Steps.Chain.{◌◂◌}
use Rattle.store.specs.Fields.{placed}
use Rattle.fields.specs.Laws.Shows.{◌&◌, shows_nothing, shows_of}
use Rattle.fields.specs.Laws.Gives.{to_shows}
use Rattle.fields.specs.Laws.Exits.{begins, exit_shows}
use Rattle.grammar.specs.Value.{Form02}
use Rattle.contents.specs.Contents.{says_02, raw, none, bytes_of}
use Rattle.contents.proofs.forms.form_02.Goals as goal

pub returns-in_err-format : goal.returns-in_err-format
unfolding Form02
returns-in_err-format c = exit_shows _ _ _ _ _ _ c.from_residual.ensures (search begins depth 20) (c.in_err-format.ensures ◂ c.value_mod-st.ensures)

pub returns-in_err-bits : goal.returns-in_err-bits
unfolding Form02
returns-in_err-bits c = exit_shows _ _ _ _ _ _ c.from_residual-in_err-bits.ensures (search begins depth 20) (c.in_err-bits.ensures ◂ c.in_ok-format.ensures.reads ◂ c.value_mod-st.ensures)

pub returns-in_err-var_name : goal.returns-in_err-var_name
unfolding Form02
returns-in_err-var_name c = exit_shows _ _ _ _ _ _ c.from_residual-in_err-var_name.ensures (search begins depth 20) (c.in_err-var_name.ensures ◂ c.in_ok-bits.ensures.reads ◂ c.in_ok-format.ensures.reads ◂ c.value_mod-st.ensures)

pub returns-in_err-label : goal.returns-in_err-label
unfolding Form02
returns-in_err-label c = exit_shows _ _ _ _ _ _ c.from_residual-in_err-label.ensures (search begins depth 20) (c.in_err-label.ensures ◂ c.in_ok-var_name.ensures.reads ◂ c.in_ok-bits.ensures.reads ◂ c.in_ok-format.ensures.reads ◂ c.value_mod-st.ensures)

pub returns-in_err-show : goal.returns-in_err-show
unfolding Form02
returns-in_err-show c = exit_shows _ _ _ _ _ _ c.from_residual-in_err-show.ensures (search begins depth 20) (c.in_err-show.ensures ◂ c.in_ok-label.ensures.reads ◂ c.in_ok-var_name.ensures.reads ◂ c.in_ok-bits.ensures.reads ◂ c.in_ok-format.ensures.reads ◂ c.value_mod-st.ensures)

pub returns : goal.returns
unfolding Form02 says_02 placed
returns c =
    shows_of (λ x. raw 2 x.0.0.0.0.1.0 x.0.0.0.1.0 x.1.0 false none (bytes_of x.0.0.1) (bytes_of x.0.1) none none 0 0)
    (λ t at. refl)
    (shows_nothing c.value_mod-st.ensures & to_shows c.in_ok-format.ensures & to_shows c.in_ok-bits.ensures & to_shows c.in_ok-var_name.ensures & to_shows c.in_ok-label.ensures & to_shows c.in_ok-show.ensures)
