use Rattle.std.proofs.Common.{refl}
use Rattle.std.proofs.lemmas.Result.{err_from_is_err_and}
use Rattle.layout.specs.Steps.Slices.{bytes_of}
use Rattle.look.proofs.Answered.{when_left, when_read, when_refused}
use Rattle.look.proofs.read.read_look.Goals as goal

pub returns-in_err-look : goal.returns-in_err-look
returns-in_err-look c =
    let p = err_from_is_err_and c.from_residual.result c.from_residual.ensures.1 in
    rw (p.1, p.2) (when_refused c.in_err-look.ensures refl, bytes_of c.args.file.now c.type_inv.file)

pub returns-then-end-file : goal.returns-then-end-file
returns-then-end-file c =
    let b = bytes_of c.args.file.now c.type_inv.file in
    (when_left c.in_ok-look.look c.in_ok-look.ensures b refl c.if-end-file.true, b)

pub returns : goal.returns
returns c =
    let b = bytes_of c.args.file.now c.type_inv.file in
    (when_read c.in_ok-look.look c.in_ok-look.ensures b refl c.if-end-file.false, b)
