use Rattle.std.proofs.Common.{ap}
use Rattle.std.proofs.lemmas.Result.{err_from_is_err_and}
use Rattle.refusals.specs.Numbers.{by_number}
use Rattle.written_words.proofs.Rewrite.{handed_on, wrote}
use Rattle.written_words.proofs.write_again.Goals as goal

pub returns-in_err-look : goal.returns-in_err-look
returns-in_err-look c =
    let p = err_from_is_err_and c.from_residual.result c.from_residual.ensures.1 in
    rw (p.1, p.2) (handed_on _ _ (ap by_number c.in_err-look.was))

pub returns : goal.returns
returns c = wrote (ap by_number c.in_ok-look.was) c.write_look.ensures
