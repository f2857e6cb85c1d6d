-- A number with no modifier and no byte 00 before it: 01 58, its format and its double.
use Rattle.std.specs.Prelude.{Bool, List, ℕ, length, eqb, leb}
use Rattle.std.proofs.Math.Bool.{false}
use Rattle.std.specs.Prelude.{Ok}
use Rattle.sizes.specs.Basics.{pick}
use Rattle.grammar.specs.Layout.{little}
use Rattle.layout.specs.Reads.{peek}
use Rattle.contents.specs.declared.RawValue.{RawValue}
use Rattle.contents.specs.Said.{Contents}
use Rattle.contents.specs.Contents.{none, raw}
use Rattle.contents.specs.Answers.{unread}

-- its length, and its first two bytes
unfoldable pub plain : ℕ → List ℕ → Bool
plain version s = pick (leb 14 (length s)) (pick (eqb (unread version s) 0) (pick (eqb (peek little 1 s (Ok 0)) 1) (eqb (peek little 1 s (Ok 1)) 0x58) false) false) false

-- its fields, which have fixed places
abbrev pub plain_raw : List ℕ → RawValue
plain_raw s = raw 1 (peek little 4 s (Ok 2)) (peek little 8 s (Ok 6)) 0 false none none none none none 0 0

abbrev pub plain_value : List ℕ → Contents
plain_value s = record { refusal = 0; place = 0; length = 14; zeros = 0; raw = plain_raw s }
