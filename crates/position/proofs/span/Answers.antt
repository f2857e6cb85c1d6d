use Rattle.std.proofs.Common.{◌≡◌, ◌+◌, [], map, drop, ap, arith}
use Rattle.sizes.specs.Sizes.{most_places}
use Rattle.grammar.specs.RecordWords.{word}
use lib.ListN.{drop_of_length-le}
use Rattle.index.proofs.Capped.{more, no_more}
use Rattle.position.proofs.Fronts.{n_front}
use Rattle.position.proofs.span.Goals as goal

pub loop-e-preserved : goal.loop-e-preserved
unfolding word
loop-e-preserved c =
    let l = c.loop-e in
    let n = word c.args.ns.now in
    let f = ap (map n) (n_front c.args.axis.now l.e-index c.loop-e-test.true) in
    (omega arith, more (most_places + 1) l.p c.times-p.ensures c.word.ensures f l.invariant.1)

pub returns : goal.returns
returns c =
    let l = c.loop-e in
    let z : drop l.e-index c.args.axis.now ≡ [] = drop_of_length-le c.args.axis.now {i = l.e-index} (omega arith) in
    no_more (most_places + 1) l.p (ap (map (word c.args.ns.now)) z) l.invariant.0 l.invariant.1
