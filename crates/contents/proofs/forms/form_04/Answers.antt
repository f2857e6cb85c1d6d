use Rattle.std.proofs.Common.{refl, false}
use Rattle.layout.specs.Steps.Chain.{◌◂◌}
use Rattle.store.specs.Fields.{placed}
use Rattle.fields.specs.Laws.Shows.{◌&◌, shows_nothing, shows_of}
use Rattle.fields.specs.Laws.Gives.{to_shows}
use Rattle.fields.specs.Laws.Exits.{begins, exit_shows}
use Rattle.grammar.specs.Value.{Form04}
use Rattle.contents.specs.Contents.{says_04, raw, none, bytes_of}
use Rattle.contents.proofs.forms.form_04.Goals as goal

pub returns-in_err-format : goal.returns-in_err-format
unfolding Form04
returns-in_err-format c = exit_shows _ _ _ _ _ _ c.from_residual.ensures (search begins depth 20) (c.in_err-format.ensures ◂ c.value_mod-st.ensures)

pub returns-in_err-label : goal.returns-in_err-label
unfolding Form04
returns-in_err-label c = exit_shows _ _ _ _ _ _ c.from_residual-in_err-label.ensures (search begins depth 20) (c.in_err-label.ensures ◂ c.in_ok-format.ensures.reads ◂ c.value_mod-st.ensures)

pub returns-in_err-var_name : goal.returns-in_err-var_name
unfolding Form04
returns-in_err-var_name c = exit_shows _ _ _ _ _ _ c.from_residual-in_err-var_name.ensures (search begins depth 20) (c.in_err-var_name.ensures ◂ c.in_ok-label.ensures.reads ◂ c.in_ok-format.ensures.reads ◂ c.value_mod-st.ensures)

pub returns-in_err-show : goal.returns-in_err-show
unfolding Form04
returns-in_err-show c = exit_shows _ _ _ _ _ _ c.from_residual-in_err-show.ensures (search begins depth 20) (c.in_err-show.ensures ◂ c.in_ok-var_name.ensures.reads ◂ c.in_ok-label.ensures.reads ◂ c.in_ok-format.ensures.reads ◂ c.value_mod-st.ensures)

pub returns-in_err-string : goal.returns-in_err-string
unfolding Form04
returns-in_err-string c = exit_shows _ _ _ _ _ _ c.from_residual-in_err-string.ensures (search begins depth 20) (c.in_err-string.ensures ◂ c.in_ok-show.ensures.reads ◂ c.in_ok-var_name.ensures.reads ◂ c.in_ok-label.ensures.reads ◂ c.in_ok-format.ensures.reads ◂ c.value_mod-st.ensures)

pub returns : goal.returns
unfolding Form04 says_04 placed
returns c =
    shows_of (λ x. raw 4 x.0.0.0.0.1.0 0 x.0.1.0 false (bytes_of x.1) (bytes_of x.0.0.1) (bytes_of x.0.0.0.1) none none 0 0)
    (λ t at. refl)
    (shows_nothing c.value_mod-st.ensures & to_shows c.in_ok-format.ensures & to_shows c.in_ok-label.ensures & to_shows c.in_ok-var_name.ensures & to_shows c.in_ok-show.ensures & to_shows c.in_ok-string.ensures)
