use Rattle.grammar.specs.Value.{TemplateString}
use Rattle.layout.specs.Steps.{reads}
use Rattle.value.proofs.modifier.template_string.Goals as goal

pub returns : goal.returns
unfolding TemplateString
returns c = search reads depth 20
