-- Lists that are lent: what the code that they are lent to has to take, and that it ran with them.
use Rattle.std.specs.Prelude.{◌≡◌, List, ℕ, ◌≤◌, length, replicate}
use Rattle.std.specs.Fn.{Mut, Called}
use denote.Ref.{MutBor}
use Rattle.table.specs.Laws.Within.{needed}
use Rattle.table.specs.Laws.Dims.{node_record_sizes}
use Rattle.cells.specs.Laws.Cells.{cell_record_sizes}

-- two lists, lent
abbrev pub Two : Type 0
Two = MutBor (List ℕ) × (MutBor (List ℕ) × Unit {0})

-- lists of those lengths have room for the records of all that so many bytes can hold
abbrev pub RoomFor : ℕ → ℕ → ℕ → Type 0
RoomFor bytes node_length cell_length = (needed node_record_sizes bytes ≤ node_length) × (needed cell_record_sizes bytes ≤ cell_length)

module _ {F R : Type 0} (g : Mut F Two (R × Two)) (f : F) where
  -- f may be called with two lists of those lengths
  abbrev pub Takes : ℕ → ℕ → Type 0
  Takes node_length cell_length = (ns cs : MutBor (List ℕ)) → length ns.now ≡ node_length → length cs.now ≡ cell_length → g.pre f (ns, (cs, tt))

  -- it was called once, with two lists of zeros of those lengths, and gave r, and is f' since
  pub record Lent (node_length cell_length : ℕ) (r : R) (f' : F) : Type 0 where
    pub node_list : MutBor (List ℕ)
    pub cell_list : MutBor (List ℕ)
    pub left : Two
    pub nodes_zero : node_list.now ≡ replicate node_length 0
    pub cells_zero : cell_list.now ≡ replicate cell_length 0
    pub called : Called g f (node_list, (cell_list, tt)) (r, left) f'

  -- f may be called with any two lists that have room for so many bytes
  abbrev pub TakesFor : ℕ → Type 0
  TakesFor bytes = (ns cs : MutBor (List ℕ)) → RoomFor bytes (length ns.now) (length cs.now) → g.pre f (ns, (cs, tt))

  -- it was called once, with two lists of zeros that have, and gave r, and is f' since
  pub record LentFor (bytes : ℕ) (r : R) (f' : F) : Type 0 where
    pub node_length : ℕ
    pub cell_length : ℕ
    pub enough : RoomFor bytes node_length cell_length
    pub lent : Lent node_length cell_length r f'
