use mathlib.Core.Path.{refl, sym, ◌∙◌}
use mathlib.Core.List.{[]}
use native.Mathlib.Omega.{arith}
use Rattle.store.specs.Laws.Puts.{text_puts, stores_other}
use Rattle.sections_put.specs.Laws.NoZero.{zero_refused, zero_free}
use Rattle.sections_put.specs.Laws.Puts.{string_puts}
use Rattle.sections_put.proofs.word.typeface.Goals as goal

pub returns-then-has_null_byte : goal.returns-then-has_null_byte
returns-then-has_null_byte c =
    let a = c.args in
    let zero = sym c.has_null_byte.ensures ∙ c.if-has_null_byte.true in
    text_puts {xs = []} tt (zero_refused a.names.now a.n zero) (λ z. absurd (omega arith)) (stores_other refl c.number.ensures)

pub returns : goal.returns
returns c =
    let a = c.args in
    let free = sym c.has_null_byte.ensures ∙ c.if-has_null_byte.false in
    string_puts (zero_free a.names.now a.n free) c.name.ensures
