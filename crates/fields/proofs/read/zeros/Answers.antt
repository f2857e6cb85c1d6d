use Rattle.std.proofs.Common.{◌≡◌, ◌+◌, ◌-◌, arith}
use Rattle.refusals.specs.Numbers.{by_number}
use Rattle.fields.specs.Laws.Gives.{none_gives, same_gives}
use Rattle.fields.proofs.read.zeros.Goals as goal

pub loop-init : goal.loop-init
loop-init c = λ r x.
    let all : c.args.n - 0 ≡ c.args.n = omega arith in
    rw all at x

pub loop-preserved : goal.loop-preserved
loop-preserved c = λ r x.
    let left : c.args.n - c.loop.counter ≡ c.args.n - (c.loop.counter + 1) + 1 = omega arith in
    c.loop.invariant r (same_gives left c.fixed_byte-st.ensures x)

pub returns : goal.returns
returns c =
    let none : c.args.n - c.loop.counter ≡ 0 = omega arith in
    c.loop.invariant (by_number c.loop.st) (rw none none_gives)
