use Rattle.grammar.specs.Sections.{Borders}
use Rattle.sections_put.specs.Fields.{borders}
use Rattle.sections_put.specs.Laws.Long.{content_short}
use Rattle.sections_put.specs.Laws.Puts.{plain_region}
use Rattle.sections_put.proofs.line.borders.Goals as goal

pub returns : goal.returns
unfolding borders Borders
returns c = plain_region c.start-inside.ensures c.content-last.ensures c.end.ensures (λ s. content_short s _)
