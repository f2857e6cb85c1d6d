use Rattle.std.proofs.Common.{◌+◌, arith}
use Rattle.sizes.specs.Sizes.{most_places}
use Rattle.index.proofs.Capped.{more, no_more}
use Rattle.index.proofs.Walk.{at_size, no_size}
use Rattle.index.proofs.product_from.Goals as goal

pub loop-e-preserved : goal.loop-e-preserved
loop-e-preserved c =
    let l = c.loop-e in
    let s = at_size c.args.dims.now l.e (c.min-first.result + c.min.result) c.loop-e-test.true in
    (omega arith, more (most_places + 1) l.p c.times-p.ensures c.word.ensures s l.invariant.1)

pub returns : goal.returns
returns c =
    let l = c.loop-e in
    no_more (most_places + 1) l.p (no_size c.args.dims.now l.e _ (omega arith)) l.invariant.0 l.invariant.1
