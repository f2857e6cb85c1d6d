use Rattle.std.proofs.Common.{◌≡◌, ap, ◌+◌, ◌-◌, arith}
use Rattle.std.proofs.lemmas.Result.{err_from_is_err_and}
use Rattle.refusals.specs.Numbers.{by_number}
use Rattle.table.specs.Laws.InMember.{in_member}
use Rattle.table.specs.Laws.Heads.{no_name}
use Rattle.table.specs.Laws.OwnPart.{own_part, own_there}
use Rattle.table.proofs.head.Goals as goal

pub returns-in_err-name : goal.returns-in_err-name
returns-in_err-name c =
    let p = err_from_is_err_and c.from_residual.result c.from_residual.ensures.1 in
    rw (p.1, p.2) (no_name _ c.value.ensures (ap by_number c.in_err-name.was))

pub returns-in-Some : goal.returns-in-Some
returns-in-Some c =
    let e = c.in_ok-name.name in
    let z : e + own_part - e ≡ own_part = omega arith in
    rw c.node.ensures
    (own_there _ (in_member c.args.member.are_bytes) (omega (arith, c.args.member.short)) (rw c.in_ok-name.was at c.value.ensures) (omega (arith, c.left.ensures))
    (rw z at c.in-Some.ensures))
