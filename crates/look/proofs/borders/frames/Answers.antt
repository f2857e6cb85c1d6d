use Rattle.std.proofs.Common.{◌≡◌, length, rules}
use Rattle.fields.specs.Laws.Exits.{whole, exit}
use Rattle.look.proofs.Separators.{eleven_placed}
use Rattle.look.proofs.borders.frames.Goals as goal

pub returns-in_err-found : goal.returns-in_err-found
returns-in_err-found c = exit _ _ _ _ _ c.from_residual.ensures whole c.in_err-found.ensures

pub returns : goal.returns
returns c =
    let long : length c.in_ok-found.found ≡ 11 = search rules in
    rw (← (eleven_placed c.in_ok-found.found long)) c.in_ok-found.ensures
