use Rattle.std.proofs.Common.{◌+◌, refl, arith}
use Rattle.sizes.specs.Sizes.{most_places}
use Rattle.grammar.specs.RecordWords.{word}
use lib.ListN.{drop_of_length-le}
use Rattle.index.proofs.Capped.{more, no_more}
use Rattle.position.proofs.Fronts.{n_front}
use Rattle.position.proofs.places.Goals as goal

pub loop-n-preserved : goal.loop-n-preserved
unfolding word
loop-n-preserved c =
    let l = c.loop-n in
    (omega arith, more (most_places + 1) l.p c.times-p.ensures refl (n_front c.args.ns.now l.n-index c.loop-n-test.true) l.invariant.1)

pub returns : goal.returns
returns c =
    let l = c.loop-n in
    no_more (most_places + 1) l.p (drop_of_length-le c.args.ns.now {i = l.n-index} (omega arith)) l.invariant.0 l.invariant.1
