use Rattle.std.proofs.Common.{refl, eqb}
use Rattle.layout.specs.Steps.Chain.{◌◂◌}
use Rattle.store.specs.Fields.{placed}
use Rattle.fields.specs.Laws.Shows.{◌&◌, shows_nothing, shows_of}
use Rattle.fields.specs.Laws.Gives.{to_shows, bit_of}
use Rattle.fields.specs.Laws.Exits.{begins, exit_shows}
use Rattle.grammar.specs.Value.{Form03}
use Rattle.contents.specs.Contents.{says_03, raw, none, bytes_of}
use Rattle.contents.proofs.forms.form_03.Goals as goal

pub returns-in_err-local : goal.returns-in_err-local
unfolding Form03
returns-in_err-local c = exit_shows _ _ _ _ _ _ c.from_residual.ensures (search begins depth 20) c.in_err-local.ensures

pub returns-in_err-id : goal.returns-in_err-id
unfolding Form03
returns-in_err-id c = exit_shows _ _ _ _ _ _ c.from_residual-in_err-id.ensures (search begins depth 20) (c.in_err-id.ensures ◂ c.value_mod-st.ensures ◂ c.in_ok-local.ensures.reads)

pub returns-in_err-c : goal.returns-in_err-c
unfolding Form03
returns-in_err-c c = exit_shows _ _ _ _ _ _ c.from_residual-in_err-c.ensures (search begins depth 20) (c.in_err-c.ensures ◂ c.in_ok-id.ensures.reads ◂ c.value_mod-st.ensures ◂ c.in_ok-local.ensures.reads)

pub returns-in_err-fixed : goal.returns-in_err-fixed
unfolding Form03
returns-in_err-fixed c = exit_shows _ _ _ _ _ _ c.from_residual-in_err-fixed.ensures (search begins depth 20) (c.in_err-fixed.ensures ◂ c.in_ok-c.ensures.reads ◂ c.in_ok-id.ensures.reads ◂ c.value_mod-st.ensures ◂ c.in_ok-local.ensures.reads)

pub returns : goal.returns
unfolding Form03 says_03 placed
returns c =
    rw (← (bit_of c.in_ok-fixed.fixed))
    (shows_of (λ x. raw 3 0 0 0 (eqb x.1.0 1) (bytes_of x.0.0.0.0) none none (bytes_of x.0.0.1) (bytes_of x.0.1) 0 0)
    (λ t at. refl)
    (to_shows c.in_ok-local.ensures & shows_nothing c.value_mod-st.ensures & to_shows c.in_ok-id.ensures & to_shows c.in_ok-c.ensures & to_shows c.in_ok-fixed.ensures))
