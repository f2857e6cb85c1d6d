-- What reading a cell gives, as definitions have it: a refusal is its number and its place.
use Rattle.std.specs.Prelude.{ℕ, Result, Ok, Err}
use Rattle.refusals.specs.Numbers.{number}
use Rattle.layout.specs.Step.{Step}
use Rattle.cells.specs.declared.CellRefused.{CellRefused}
use Rattle.cells.specs.declared.CellRefused.TheVariants.{Index, Value}

-- the next position, or the refusal of its index, or that of its Value
pub data CellRead : Type 0 where
  Whole : ℕ → CellRead
  BadIndex : ℕ → ℕ → CellRead
  BadValue : ℕ → ℕ → CellRead

-- of a Value
abbrev pub value_read : Step → CellRead
value_read (Ok p) = Whole p
value_read (Err (r, p)) = BadValue r p

-- of the whole cell
abbrev pub cell_read : Result ℕ CellRefused → CellRead
cell_read (Ok p) = Whole p
cell_read (Err (Index e)) = BadIndex (number e.reason) e.place
cell_read (Err (Value e)) = BadValue (number e.reason) e.place
