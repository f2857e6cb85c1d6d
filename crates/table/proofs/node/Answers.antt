use Rattle.std.proofs.lemmas.Result.{err_from_is_err_and}
use Rattle.table.specs.Laws.Heads.{node_of}
use Rattle.table.proofs.node.Goals as goal

pub returns-in_err-end : goal.returns-in_err-end
unfolding node_of
returns-in_err-end c =
    let p = err_from_is_err_and c.from_residual.result c.from_residual.ensures.1 in
    rw (p.1, p.2, c.in_err-end.was)

pub returns : goal.returns
unfolding node_of
returns c = simp (c.in_ok-end.was, c.length.ensures)
