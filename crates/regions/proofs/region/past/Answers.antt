use mathlib.Core.Path.{sym}
use Rattle.std.proofs.lemmas.Result.{err_from_is_err_and}
use Rattle.sizes.specs.Basics.{pick}
use Rattle.grammar.specs.Layout.{suits}
use Rattle.layout.specs.Reads as spec
use Rattle.regions.proofs.region.past.Goals as goal

pub returns-in_err-b : goal.returns-in_err-b
unfolding spec.past
returns-in_err-b c =
    let p = err_from_is_err_and c.from_residual.result c.from_residual.ensures.1 in
    rw (p.1, p.2, c.in_err-b.was)

pub returns-then-has_null : goal.returns-then-has_null
unfolding spec.past suits pick
returns-then-has_null c = simp (c.in_ok-b.was, sym c.bytes.ensures, sym c.has_null.ensures, c.if-has_null.true, c.between.ensures)

pub returns : goal.returns
unfolding spec.past suits pick
returns c = simp (c.in_ok-b.was, sym c.bytes.ensures, sym c.has_null.ensures, c.if-has_null.false)
