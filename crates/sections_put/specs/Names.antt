-- The names of typefaces that are written: inside the lent bytes, of at most 255 bytes, none of them 0.
use Rattle.std.specs.Prelude.{◌≡◌, Bool, false, ◌&&◌, List, ℕ, ◌+◌, ◌^◌, ◌≤◌, length, ltb}
use Rattle.sizes.specs.Basics.{among}
use Rattle.grammar.specs.Part.{part_of}
use Rattle.store.specs.declared.Name.{Name}
use Rattle.store.specs.Fields.{bytes_of}
use Rattle.styles.specs.declared.Areas.{Areas}

-- something of the typeface of each area
pub record Each (P : Name → Type 0) (x : Areas) : Type 0 where
  pub title : P x.title.typeface
  pub caption : P x.caption.typeface
  pub footer : P x.footer.typeface
  pub corner : P x.corner.typeface
  pub column_labels : P x.column_labels.typeface
  pub row_labels : P x.row_labels.typeface
  pub body : P x.data.typeface
  pub layers : P x.layers.typeface

-- of at most 255 bytes, as a look's names are
abbrev pub Short : Name → Type 0
Short n = n.length ≤ 255

pub record Named (s : List ℕ) (n : Name) : Type 0 where
  pub short : Short n
  pub inside : n.place + n.length ≤ length s
  pub clean : among 0 (bytes_of s n) ≡ false

-- a name that 32 bits can say and that has a zero byte
unfoldable pub has_zero : List ℕ → Name → Bool
unfolding among part_of
has_zero s n = ltb n.length (256 ^ 4) && among 0 (part_of s n.place n.length)
