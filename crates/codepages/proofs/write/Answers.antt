use native.Mathlib.Omega.{arith}
use mathlib.Core.Path.{◌∙◌}
use Rattle.codepages.specs.Laws.Passes.{writing_step, writing_end}
use Rattle.codepages.proofs.write.Goals as goal

pub returns-then-i-input : goal.returns-then-i-input
returns-then-i-input g c =
    let s = c.store_one.ensures in
    let t = writing_step c.loop-i.invariant.0 s in
    rw c.loop-out.invariant.0.fills at (writing_end t (omega (arith, s.some)))

pub returns-else-i-input : goal.returns-else-i-input
returns-else-i-input g c = writing_end c.loop-i.invariant.0 (omega (arith, c.if-i-input.false)) ∙ c.loop-out.invariant.0.fills
