use borrow.Author.Tests.{eq-eqb, ne_eqb}
use Rattle.layout.specs.Steps.{reads}
use Rattle.sections.proofs.optional.in_version_3.Goals as goal

pub returns-then-version-eq3 : goal.returns-then-version-eq3
returns-then-version-eq3 g c = let e = eq-eqb _ _ c.if-version-eq3.true in search reads depth 20

pub returns-else-version-eq3 : goal.returns-else-version-eq3
returns-else-version-eq3 g c = let e = ne_eqb _ _ c.if-version-eq3.false in search reads depth 20
