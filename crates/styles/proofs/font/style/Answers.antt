use Rattle.std.proofs.Common.{◌≡◌, refl, Bool, true, false}
use mir.Val.{bool_byte}
use Rattle.store.specs.Values.{bit}
use Rattle.styles.specs.Styles.{style}
use Rattle.styles.proofs.font.style.Goals as goal

bit_byte : (b : Bool) → bool_byte b ≡ bit b
bit_byte true = refl
bit_byte false = refl

pub returns : goal.returns
unfolding style
returns c = simp (c.from.ensures, c.from-2.ensures, bit_byte)
