-- Which looks can't be written, by which number, and where: document 01, "The looks" and "Refusal numbers", and document 02, T-10, over the
-- look x, the lent bytes s that hold its names, and the output's length. No writer is in it; RefusedExactly.antt says that `write_look`
-- refuses exactly so.
--
-- | No. | When | Place: an offset in the file being written |
-- | 2 | "a name not inside the lent bytes is 2" | "at its length byte" |
-- | 4 | version not 02 ("the writer gives 4 for version 00") | version |
-- | 7 | "a name over 255 bytes is 7"; "shading above 10 is number 7" | "at its length byte"; "at the shading byte" |
-- | 14 | a color's high byte not 0 | the color |
-- | 15 | output too short | 0 |
use Rattle.std.specs.Prelude.{List, ℕ, ◌≤◌, ◌<◌, length}
use Rattle.store.specs.Unwritable.{Writable, Unwritable}
use Rattle.look.specs.declared.Look.{Look}
use Rattle.look.specs.Look.{TableLook02}
use Rattle.look.specs.Values as values
use Rattle.look_write.specs.Writing.{file}

-- "It goes front to back, then 15"
pub data Refused (x : Look) (s : List ℕ) (room : ℕ) : ℕ → ℕ → Type 0 where
  -- 2, 4, 7 and 14: the first field that can't be written
  field : {n p : ℕ} → Unwritable s TableLook02 (values.fields x) 0 n p → Refused x s room n p
  -- 15
  too_short : Writable TableLook02 s (values.fields x) → room < length (file x s) → Refused x s room 15 0

-- what is not refused
pub record Allowed (x : Look) (s : List ℕ) (room : ℕ) : Type 0 where
  pub fields : Writable TableLook02 s (values.fields x)
  pub fits : length (file x s) ≤ room
