-- Which bytes are refused as a look, by which number, and where: document 01, "Refusal numbers", and "Reader order: front to back, then 11".
-- No reader is in it; RefusedExactly.antt says that `read_look` refuses exactly so.
--
-- | No. | When | Place | Where a look has it |
-- | 2 | a field doesn't fit in the input | first byte of the field | every number and name, a name with its length as one field |
-- | 3 | a fixed byte, fixed number or mark differs | the field | `fixed`, `i`, the length of a class name, its letters; the type of a `Separator` |
-- | 4 | look: version not 00 or 02 | version | `PTTableLook` |
-- | 5 | a bool neither 0 nor 1 | the byte | `settings`, `typeface` |
-- | 7 | "Shading above 10 is number 7 at the shading byte" | | `AreaColor` |
-- | 11 | bytes left at the end | first of them | |
-- | 14 | a color's high byte not 0 | the color | `color` |
use Rattle.std.specs.Prelude.{List, ◌∷◌, ℕ, length}
use Rattle.grammar.specs.Layout.{Tree, spell}
use Rattle.grammar.specs.Fails.{Spells, Fails}
use Rattle.look.specs.Look.{TableLook}

-- Refused bs n p: refusal n is given at the place p
pub data Refused (bs : List ℕ) : ℕ → ℕ → Type 0 where
  -- the first field that fails, after the bytes of a derivation of what stands before it
  inside : {n p : ℕ} → Fails TableLook bs 0 n p → Refused bs n p
  -- a derivation, and then a byte
  left : {t : Tree TableLook} {b : ℕ} {r : List ℕ} → Spells TableLook bs t (b ∷ r) → Refused bs 11 (length (spell TableLook t))
