use borrow.Author.Tests.{eq-eqb, ne_eqb}
use Rattle.grammar.specs.Sections.{FormatsEnd}
use Rattle.layout.specs.Steps.{reads}
use Rattle.sections.proofs.formats.end.Goals as goal

pub returns-then-version-eq1 : goal.returns-then-version-eq1
unfolding FormatsEnd
returns-then-version-eq1 c = let e = eq-eqb _ _ c.if-version-eq1.true in search reads depth 20

pub returns : goal.returns
unfolding FormatsEnd
returns c = let e = ne_eqb _ _ c.if-version-eq1.false in search reads depth 20
