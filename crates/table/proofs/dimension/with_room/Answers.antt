use Rattle.std.proofs.Common.{ap, arith}
use Rattle.std.proofs.lemmas.Result.{err_from_is_err_and}
use Rattle.sizes.specs.Sizes.{most_dimensions}
use Rattle.refusals.specs.Numbers.{by_number}
use Rattle.layout.specs.Steps.Keeping.{kept_on, kept_off}
use Rattle.layout.specs.Steps.Numbered.{in_limit, ends_at, no_number, no_items, the_items}
use Rattle.grammar.specs.Rules.{dimensions_rule}
use Rattle.table.specs.Laws.Within.{room_after}
use Rattle.table.specs.Laws.InMember.{in_member}
use Rattle.table.specs.Laws.Dims.{node_record_sizes, next_dim, AllDims, the_dims}
use Rattle.table.proofs.dimension.with_room.Goals as goal

pub all-requires : goal.all-requires
unfolding dimensions_rule
all-requires c =
    let a = c.args in
    let m = a.member in
    let b = in_member m.are_bytes in
    let was = ap by_number c.in_ok-first.was in
    let end = ends_at most_dimensions (next_dim m.version) m.bytes.now b a.at ((AllDims m.version) a.at a.nodes.now a.dims.now) c.count.ensures was c.peek-n.ensures in
    (in_limit most_dimensions (next_dim m.version) m.bytes.now b a.at ((AllDims m.version) a.at a.nodes.now a.dims.now) c.count.ensures was c.peek-n.ensures, room_after node_record_sizes (omega (arith, end)) c.requires)

pub returns-in_err-first : goal.returns-in_err-first
unfolding dimensions_rule
returns-in_err-first c =
    let a = c.args in
    let m = a.member in
    let p = err_from_is_err_and c.from_residual.result c.from_residual.ensures.1 in
    rw (p.1, p.2) (no_number most_dimensions (next_dim m.version) m.bytes.now (in_member m.are_bytes) a.at ((AllDims m.version) a.at a.nodes.now a.dims.now) c.count.ensures (ap by_number c.in_err-first.was))

pub returns-in_err-reached : goal.returns-in_err-reached
unfolding dimensions_rule
returns-in_err-reached c =
    let a = c.args in
    let m = a.member in
    let p = err_from_is_err_and c.from_residual-in_err-reached.result c.from_residual-in_err-reached.ensures.1 in
    rw (p.1, p.2) (no_items most_dimensions (next_dim m.version) m.bytes.now (in_member m.are_bytes) a.at ((AllDims m.version) a.at a.nodes.now a.dims.now) c.count.ensures (ap by_number c.in_ok-first.was) c.peek-n.ensures
    (kept_off (rw c.in_err-reached.was at c.all.ensures)))

pub returns : goal.returns
unfolding dimensions_rule
returns c =
    let a = c.args in
    let m = a.member in
    let b = in_member m.are_bytes in
    let was = ap by_number c.in_ok-first.was in
    let r = kept_on (rw c.in_ok-reached.was at c.all.ensures) in
    the_items most_dimensions (next_dim m.version) m.bytes.now b a.at ((AllDims m.version) a.at a.nodes.now a.dims.now) c.count.ensures was c.peek-n.ensures r.tree r.is
    ((the_dims m.version) (ends_at most_dimensions (next_dim m.version) m.bytes.now b a.at ((AllDims m.version) a.at a.nodes.now a.dims.now) c.count.ensures was c.peek-n.ensures) r.keeps)
