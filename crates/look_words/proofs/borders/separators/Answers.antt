use Rattle.std.proofs.Common.{◌≡◌, arith, length}
use Rattle.std.proofs.lemmas.List.{take_all}
use Rattle.look_words.proofs.Separators.{puts_none, puts_more}
use Rattle.look_words.proofs.borders.separators.Goals as goal

pub loop-x-init : goal.loop-x-init
loop-x-init c = puts_none c.args.xs.now

pub loop-x-preserved : goal.loop-x-preserved
loop-x-preserved c = puts_more c.args.xs.now c.loop-x.x-index _ c.loop-x-test.true c.loop-x.invariant c.separator-st.ensures

pub returns : goal.returns
returns c =
    let all : c.loop-x.x-index ≡ length c.args.xs.now = omega arith in
    rw (all, take_all (length c.args.xs.now) c.args.xs.now (omega arith)) at c.loop-x.invariant
