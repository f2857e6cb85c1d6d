use native.Mathlib.Omega.{arith}
use mathlib.Core.Path.{refl, ap}
use Rattle.pages.specs.Numbers.{index}
use Rattle.convert.specs.Pages.{byte}
use Rattle.convert.specs.Utf8.{row_two, row_three}
use Rattle.codepages.specs.Laws.Branches.{decode_one, decode_two, decode_three, decode_four}
use Rattle.codepages.proofs.Pages.{index_below}
use Rattle.codepages.proofs.rows.FromUtf8.character.Goals as goal

pub returns-then-a-lt-ASCII : goal.returns-then-a-lt-ASCII
returns-then-a-lt-ASCII c = (decode_one _ c.args.input.now c.args.i _ refl c.if-a-lt-ASCII.true, omega arith)

pub returns-then-a-lt224 : goal.returns-then-a-lt224
returns-then-a-lt224 c =
    let a = c.args in
    let k = index a.self.now.page in
    let e = decode_two k a.input.now a.i _ refl c.byte_at.result (row_two _ c.byte_at.result) c.if-a-lt-ASCII.false c.if-a-lt224.true c.byte_at.ensures refl in
    rw (ap (byte k) e) at c.two.ensures

pub returns-then-a-lt240 : goal.returns-then-a-lt240
returns-then-a-lt240 c =
    let a = c.args in
    let k = index a.self.now.page in
    let b = c.byte_at-then-a-lt240 in
    let d = c.byte_at-then-a-lt240-2 in
    let e = decode_three k a.input.now a.i _ refl b.result d.result (row_three _ b.result d.result) c.if-a-lt224.false c.if-a-lt240.true b.ensures d.ensures refl in
    rw (ap (byte k) e) at c.three.ensures

pub returns : goal.returns
returns c = decode_four _ c.args.input.now c.args.i _ refl (index_below c.args.self.now.page) c.if-a-lt240.false
