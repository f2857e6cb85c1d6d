use Rattle.std.proofs.Common.{◌≡◌, arith}
use Rattle.store.specs.Laws.Puts.{plain_none, plain_repeated}
use Rattle.store.proofs.write.zeros.Goals as goal

pub loop-init : goal.loop-init
loop-init c = plain_none

pub loop-preserved : goal.loop-preserved
loop-preserved c = plain_repeated c.loop.invariant c.byte-st.ensures.fixed

pub returns : goal.returns
returns c =
    let all : c.loop.counter ≡ c.args.n = omega arith in
    rw all at c.loop.invariant
