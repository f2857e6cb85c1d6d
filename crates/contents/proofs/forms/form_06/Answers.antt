use Rattle.std.proofs.Common.{refl, false}
use Rattle.layout.specs.Steps.Chain.{◌◂◌}
use Rattle.store.specs.Fields.{placed}
use Rattle.fields.specs.Laws.Shows.{◌&◌, shows_nothing, shows_of}
use Rattle.fields.specs.Laws.Gives.{to_shows}
use Rattle.fields.specs.Laws.Exits.{begins, exit_shows}
use Rattle.grammar.specs.Value.{Form06}
use Rattle.contents.specs.Contents.{says_06, raw, none, bytes_of}
use Rattle.contents.proofs.forms.form_06.Goals as goal

pub returns-in_err-local : goal.returns-in_err-local
unfolding Form06
returns-in_err-local c = exit_shows _ _ _ _ _ _ c.from_residual.ensures (search begins depth 20) c.in_err-local.ensures

pub returns-in_err-id : goal.returns-in_err-id
unfolding Form06
returns-in_err-id c = exit_shows _ _ _ _ _ _ c.from_residual-in_err-id.ensures (search begins depth 20) (c.in_err-id.ensures ◂ c.value_mod-st.ensures ◂ c.in_ok-local.ensures.reads)

pub returns-in_err-c : goal.returns-in_err-c
unfolding Form06
returns-in_err-c c = exit_shows _ _ _ _ _ _ c.from_residual-in_err-c.ensures (search begins depth 20) (c.in_err-c.ensures ◂ c.in_ok-id.ensures.reads ◂ c.value_mod-st.ensures ◂ c.in_ok-local.ensures.reads)

pub returns : goal.returns
unfolding Form06 says_06 placed
returns c =
    shows_of (λ x. raw 6 0 0 0 false (bytes_of x.0.0.0) none none (bytes_of x.0.1) (bytes_of x.1) 0 0)
    (λ t at. refl)
    (to_shows c.in_ok-local.ensures & shows_nothing c.value_mod-st.ensures & to_shows c.in_ok-id.ensures & to_shows c.in_ok-c.ensures)
