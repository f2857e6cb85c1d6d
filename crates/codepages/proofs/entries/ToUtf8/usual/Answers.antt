use native.Mathlib.Omega.{arith}
use Rattle.std.proofs.Common.{◌≡◌, ◌+◌, ◌<◌}
use Rattle.codepages.specs.Laws.Usual.{skips_none, usual_more, or_none_lem}
use Rattle.codepages.proofs.Pages.{index_below}
use Rattle.codepages.proofs.Parts.{part_length, part_at}
use Rattle.codepages.proofs.entries.ToUtf8.usual.Goals as goal

pub overflow_add-high : goal.overflow_add-high
overflow_add-high c =
    let a = c.args in
    let r = c.requires in
    let j = c.loop-b.b-index in
    let l : j < a.n = omega (arith, part_length a.input.now a.i a.n r.there) in
    omega (arith, part_at a.input.now a.i a.n r.there j l, c.type_inv.input (a.i + j))

pub loop-b-init : goal.loop-b-init
loop-b-init c = (omega arith, λ _. skips_none _ _ _ (omega arith))

pub loop-b-preserved : goal.loop-b-preserved
loop-b-preserved c =
    let a = c.args in
    let r = c.requires in
    let b = c.loop-b in
    let l : b.b-index < a.n = omega (arith, part_length a.input.now a.i a.n r.there) in
    let q = part_at a.input.now a.i a.n r.there b.b-index l in (
      omega (arith, c.unusual-bad.ensures.1),
      λ e.
          let n = or_none_lem _ _ e in
          usual_more _ _ _ b.b-index b.high _ (index_below a.self.now.page) (omega arith) q c.unusual-bad.ensures.1 (rw c.odd-odd.ensures at (c.unusual-bad.ensures.0 n.1)) (b.invariant.1 n.0),
    )

pub returns-then-bad-eq0 : goal.returns-then-bad-eq0
returns-then-bad-eq0 c =
    let a = c.args in
    let b = c.loop-b in
    let e : b.b-index ≡ a.n = omega (arith, part_length a.input.now a.i a.n c.requires.there) in
    (omega arith, omega arith, rw e at (b.invariant.1 c.if-bad-eq0.true))
