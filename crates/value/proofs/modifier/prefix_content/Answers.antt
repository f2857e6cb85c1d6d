use borrow.Author.Tests.{eq-eqb, ne_eqb}
use Rattle.layout.specs.Steps.{reads}
use Rattle.value.proofs.modifier.prefix_content.Goals as goal

pub returns-then-x-eq88 : goal.returns-then-x-eq88
returns-then-x-eq88 c = let e = eq-eqb _ _ c.if-x-eq88.true in search reads depth 20

pub returns-else-x-eq88 : goal.returns-else-x-eq88
returns-else-x-eq88 c = let e = ne_eqb _ _ c.if-x-eq88.false in search reads depth 20
