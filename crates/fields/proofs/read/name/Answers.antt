use Rattle.std.proofs.Common.{refl, arith, Ok, Err}
use Rattle.std.proofs.lemmas.Result.{err_from_is_err_and}
use Rattle.sizes.specs.Basics.{pick}
use Rattle.refusals.specs.Numbers.{number, by_number}
use Rattle.grammar.specs.Layout.{little, suits}
use Rattle.layout.specs.Reads as spec
use Rattle.layout.specs.Steps.Counted.{string_of}
use Rattle.fields.specs.Laws.Gives.{string_gives, part_length}
use Rattle.fields.proofs.read.name.Goals as goal

pub returns-in_err-place : goal.returns-in_err-place
unfolding spec.past
returns-in_err-place c =
    let p = err_from_is_err_and c.from_residual.result c.from_residual.ensures.1 in
    let e = c.in_err-place.field-0.0 in
    rw (p.1, p.2) (string_of {p = Err (number e.reason, e.place)} refl c.in_err-place.ensures)

pub overflow_sub-length : goal.overflow_sub-length
overflow_sub-length c =
    let x = c.in_ok-place in
    omega (arith, (part_length little 1 c.args.s.now (by_number c.args.st) x.place x.end (omega arith) x.ensures).0)

pub returns : goal.returns
unfolding spec.past suits pick
returns c =
    let x = c.in_ok-place in
    let long = (part_length little 1 c.args.s.now (by_number c.args.st) x.place x.end (omega arith) x.ensures).1 in
    string_gives {p = Ok (x.place, x.end)} (omega arith) (string_of {p = Ok (x.place, x.end)} refl x.ensures) x.ensures (rw long)
