use Rattle.grammar.specs.Sections.{Footnote}
use Rattle.layout.specs.Steps.{reads}
use Rattle.sections.proofs.footnotes.FootnoteProduction.read.Goals as goal

pub returns : goal.returns
unfolding Footnote
returns c = search reads depth 20
