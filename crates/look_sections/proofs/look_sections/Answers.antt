use Rattle.std.proofs.Common.{ap}
use Rattle.std.proofs.lemmas.Result.{err_from_is_err_and}
use Rattle.refusals.specs.Numbers.{by_number}
use Rattle.look_sections.proofs.Whole.{not_read, not_styled, short, styled}
use Rattle.look_sections.proofs.look_sections.Goals as goal

pub write_sections-requires : goal.write_sections-requires
write_sections-requires c =
    rw c.styles_of.ensures
    (short c.args.file.now c.read_look.ensures.1 c.args.out.now c.read_look.ensures.0 (ap by_number c.in_ok-look.was) c.check_styles.ensures.0 (ap by_number c.in_ok-check_styles.was))

pub returns-in_err-look : goal.returns-in_err-look
returns-in_err-look c =
    let p = err_from_is_err_and c.from_residual.result c.from_residual.ensures.1 in
    rw (p.1, p.2) (not_read _ c.read_look.ensures.1 _ c.read_look.ensures.0 (ap by_number c.in_err-look.was))

pub returns-in_err-check_styles : goal.returns-in_err-check_styles
returns-in_err-check_styles c =
    let p = err_from_is_err_and c.from_residual-in_err-check_styles.result c.from_residual-in_err-check_styles.ensures.1 in
    rw (p.1, p.2) (not_styled _ c.read_look.ensures.1 _ c.read_look.ensures.0 (ap by_number c.in_ok-look.was) c.check_styles.ensures.0 (ap by_number c.in_err-check_styles.was))

pub returns : goal.returns
returns c =
    styled _ c.read_look.ensures.1 _ c.read_look.ensures.0 (ap by_number c.in_ok-look.was) c.check_styles.ensures.0 (ap by_number c.in_ok-check_styles.was)
    (rw (← c.styles_of.ensures) c.write_sections.ensures)
