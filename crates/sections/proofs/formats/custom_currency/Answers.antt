use Rattle.grammar.specs.Sections.{CustomCurrency}
use Rattle.sections.proofs.formats.custom_currency.Goals as goal

pub returns : goal.returns
unfolding CustomCurrency
returns c = c.many_strings.ensures
