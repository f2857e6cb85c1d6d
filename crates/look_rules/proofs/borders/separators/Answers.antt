use Rattle.std.proofs.Common.{◌≡◌, ◌+◌, ◌-◌, arith}
use Rattle.look_rules.proofs.Laws.Walk.{left_more, left_none}
use Rattle.look_rules.proofs.borders.separators.Goals as goal

pub loop-init : goal.loop-init
loop-init c =
    let all : c.args.n - 0 ≡ c.args.n = omega arith in
    rw all (λ r h. h)

pub loop-preserved : goal.loop-preserved
loop-preserved c =
    let left : c.args.n - (c.loop.counter + 1) ≡ c.args.n - c.loop.counter - 1 = omega arith in
    rw left (left_more c.loop.invariant (omega arith) c.separator-st.ensures)

pub returns : goal.returns
returns c = left_none c.loop.invariant (omega arith)
