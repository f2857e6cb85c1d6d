-- The lists of a step that has room for so many bytes are taken where any with room for them are.
use Rattle.std.specs.Prelude.{◌≡◌, true, ℕ}
use Rattle.std.proofs.Common.{arith}
use Rattle.std.specs.Fn.{Mut}
use borrow.Author.Tests.{leb-true}
use Rattle.std.specs.Prelude.{leb}
use Rattle.sizes.specs.Sizes.{node_area, cell_area}
use Rattle.table.specs.Laws.Within.{needed}
use Rattle.table.specs.Laws.Dims.{node_record_sizes}
use Rattle.cells.specs.Laws.Cells.{cell_record_sizes}
use Rattle.lists.specs.Lent.{Two, RoomFor, Takes, TakesFor, Lent, LentFor}

-- lists for k bytes, where there are no more
pub room_for : (n k : ℕ) → leb n k ≡ true → RoomFor n (needed node_record_sizes k) (needed cell_record_sizes k)
room_for n k h = let l = leb-true n k h in (omega (arith, l), omega (arith, l))

-- lists for all records that a member may have
pub room_always : (n : ℕ) → RoomFor n node_area cell_area
room_always n = (omega arith, omega arith)

module _ {F R : Type 0} (g : Mut F Two (R × Two)) (f : F) (bytes : ℕ) where
  pub takes_in : {node_length cell_length : ℕ} → RoomFor bytes node_length cell_length → TakesFor g f bytes → Takes g f node_length cell_length
  takes_in room h ns cs e e' = h ns cs (rw (e, e') room)

  pub lent_in : {node_length cell_length : ℕ} → RoomFor bytes node_length cell_length → {r : R} {f' : F} → Lent g f node_length cell_length r f' → LentFor g f bytes r f'
  lent_in {node_length} {cell_length} room x = record { node_length = node_length; cell_length = cell_length; enough = room; lent = x }
