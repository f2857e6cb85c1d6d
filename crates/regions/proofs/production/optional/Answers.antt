use borrow.Author.Tests.{eq-eqb, ne_eqb}
use Rattle.layout.specs.Steps.{reads}
use Rattle.regions.proofs.production.optional.Goals as goal

pub returns-then-x-eq49 : goal.returns-then-x-eq49
returns-then-x-eq49 g c = let t = eq-eqb _ _ c.if-x-eq49.true in search reads depth 20

pub returns-else-x-eq49 : goal.returns-else-x-eq49
returns-else-x-eq49 g c = let t = ne_eqb _ _ c.if-x-eq49.false in search reads depth 20
