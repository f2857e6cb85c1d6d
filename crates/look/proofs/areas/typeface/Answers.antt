use Rattle.layout.specs.Steps.Chain.{◌◂◌}
use Rattle.fields.specs.Laws.Gives.{◌⟩◌}
use Rattle.fields.specs.Laws.Exits.{begins, exit}
use Rattle.look.proofs.areas.typeface.Goals as goal

pub returns-in_err-italic : goal.returns-in_err-italic
returns-in_err-italic c = exit _ _ _ _ _ c.from_residual.ensures (search begins depth 20) c.in_err-italic.ensures

pub returns-in_err-underline : goal.returns-in_err-underline
returns-in_err-underline c = exit _ _ _ _ _ c.from_residual-in_err-underline.ensures (search begins depth 20) (c.in_err-underline.ensures ◂ c.in_ok-italic.ensures.reads)

pub returns-in_err-strikethrough : goal.returns-in_err-strikethrough
returns-in_err-strikethrough c = exit _ _ _ _ _ c.from_residual-in_err-strikethrough.ensures (search begins depth 20) (c.in_err-strikethrough.ensures ◂ (c.in_ok-italic.ensures ⟩ c.in_ok-underline.ensures).reads)

pub returns-in_err-rtf_charset_number : goal.returns-in_err-rtf_charset_number
returns-in_err-rtf_charset_number c = exit _ _ _ _ _ c.from_residual-in_err-rtf_charset_number.ensures (search begins depth 20) (c.in_err-rtf_charset_number.ensures ◂ (c.in_ok-italic.ensures ⟩ c.in_ok-underline.ensures ⟩ c.in_ok-strikethrough.ensures).reads)

pub returns-in_err-x : goal.returns-in_err-x
returns-in_err-x c = exit _ _ _ _ _ c.from_residual-in_err-x.ensures (search begins depth 20) (c.in_err-x.ensures ◂ (c.in_ok-italic.ensures ⟩ c.in_ok-underline.ensures ⟩ c.in_ok-strikethrough.ensures ⟩ c.in_ok-rtf_charset_number.ensures).reads)

pub returns-in_err-font_name : goal.returns-in_err-font_name
returns-in_err-font_name c = exit _ _ _ _ _ c.from_residual-in_err-font_name.ensures (search begins depth 20) (c.in_err-font_name.ensures ◂ (c.in_ok-italic.ensures ⟩ c.in_ok-underline.ensures ⟩ c.in_ok-strikethrough.ensures ⟩ c.in_ok-rtf_charset_number.ensures ⟩ c.in_ok-x.ensures).reads)

pub returns-in_err-text_color : goal.returns-in_err-text_color
returns-in_err-text_color c = exit _ _ _ _ _ c.from_residual-in_err-text_color.ensures (search begins depth 20) (c.in_err-text_color.ensures ◂ (c.in_ok-italic.ensures ⟩ c.in_ok-underline.ensures ⟩ c.in_ok-strikethrough.ensures ⟩ c.in_ok-rtf_charset_number.ensures ⟩ c.in_ok-x.ensures ⟩ c.in_ok-font_name.ensures).reads)

pub returns-in_err-end : goal.returns-in_err-end
returns-in_err-end c = exit _ _ _ _ _ c.from_residual-in_err-end.ensures (search begins depth 20) (c.in_err-end.ensures.reads ◂ (c.in_ok-italic.ensures ⟩ c.in_ok-underline.ensures ⟩ c.in_ok-strikethrough.ensures ⟩ c.in_ok-rtf_charset_number.ensures ⟩ c.in_ok-x.ensures ⟩ c.in_ok-font_name.ensures ⟩ c.in_ok-text_color.ensures).reads)

pub returns : goal.returns
returns c = c.in_ok-italic.ensures ⟩ c.in_ok-underline.ensures ⟩ c.in_ok-strikethrough.ensures ⟩ c.in_ok-rtf_charset_number.ensures ⟩ c.in_ok-x.ensures ⟩ c.in_ok-font_name.ensures ⟩ c.in_ok-text_color.ensures ⟩ c.in_ok-end.ensures
