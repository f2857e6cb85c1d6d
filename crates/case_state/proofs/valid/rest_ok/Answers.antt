use Rattle.std.specs.Prelude.{◌≡◌, ◌-◌}
use Rattle.std.proofs.Common.{◌≤◌, length, drop, ◌∙◌, length-drop, take_all, arith}
use Rattle.case_state.proofs.Laws.Valid.{rest_all}
use Rattle.case_state.proofs.valid.rest_ok.Goals as goal

pub returns : goal.returns
returns c =
    let n = c.args.count in
    let f : 256 - (256 - n) ≡ n = omega arith in
    let m : length (drop n c.args.kinds.now) ≤ 256 - n = omega (arith, length-drop n c.args.kinds.now, c.told-kinds) in
    (rw (take_all (256 - n) (drop n c.args.kinds.now) m) at c.zeros.ensures) ∙ (rw f at (rest_all (256 - n) c.args.kinds.now c.told-kinds (omega arith)))
