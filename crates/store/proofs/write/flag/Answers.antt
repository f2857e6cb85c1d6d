use Rattle.std.proofs.Common.{◌≡◌, refl, ◌∙◌, Bool, true, false, arith}
use mir.Val.{bool_byte}
use Rattle.store.specs.Laws.Puts.{plain_bool}
use Rattle.store.specs.Values.{bit}
use Rattle.store.proofs.write.flag.Goals as goal

bit_is : (on : Bool) → bool_byte on ≡ bit on
bit_is true = refl
bit_is false = refl

pub returns : goal.returns
returns c = plain_bool c.args.on (omega arith) (rw (c.from.ensures ∙ bit_is c.args.on) at c.number.ensures)
