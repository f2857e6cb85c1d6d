use mathlib.Core.Path.{refl, ◌∙◌}
use native.Mathlib.Omega.{arith}
use Rattle.nulls.proofs.NullBytes.{after_block, after_all, null_block}
use Rattle.nulls.proofs.null_in_blocks.Goals as goal

pub loop-block-init : goal.loop-block-init
loop-block-init c =
    let e = c.chunks_exact-blocks.ensures in
    rw (c.into_iter-block-iterator.ensures.into_iter_gives, e.rest, c.remainder-rest.ensures) (e.size, e.remainder, refl)

pub loop-block-preserved : goal.loop-block-preserved
loop-block-preserved c =
    let i = c.loop-block.invariant in
    let e = c.in-Some.ensures.steps in
    let b = c.in-Some.block.now in (
      e.0 ∙ i.0,
      i.1 ∙ rw e.1.0 (after_block b _ (e.1.1 ∙ i.0)),
      rw c.any_null-found.ensures (null_block _ b _ c.loop-block.found (rw e.1.0 at i.2)),
    )

pub returns : goal.returns
returns c =
    let i = c.loop-block.invariant in
    let e = c.in-None.ensures.steps in
    rw (c.null_in_short.ensures, i.1, after_all c.loop-block.block-iterator.rest.now (omega (arith, e.1.0, i.0))) i.2
