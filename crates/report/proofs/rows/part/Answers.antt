-- The rest from a place, or from the end, and of that the first words, or all.
use Rattle.std.proofs.Common.{◌≡◌, ◌-◌, arith, length, take, drop, length-drop}
use Rattle.std.proofs.lemmas.List.{take_all, take_min, drop_min}
use Rattle.report.proofs.rows.part.Goals as goal

pub returns : goal.returns
returns c =
    let ws = c.args.words.now in
    let m = c.min.result in
    let rest : take (length ws - m) (drop m ws) ≡ drop m ws = take_all (length ws - m) (drop m ws) (omega (arith, length-drop m ws)) in
    rw (c.min-2.ensures, rest, take_min, c.min.ensures, drop_min)
