use Rattle.grammar.specs.Value.{TemplatePrefix}
use Rattle.layout.specs.Steps.{reads}
use Rattle.value.proofs.modifier.template_prefix.Goals as goal

pub returns : goal.returns
unfolding TemplatePrefix
returns c = search reads depth 20
