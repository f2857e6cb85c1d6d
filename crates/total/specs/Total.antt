-- The total of the cells under a leaf (document 02, T-01).
use Rattle.std.specs.Prelude.{Bool, true, List, [], ◌∷◌, ℕ, ◌+◌, min, max, eqb, None, Some}
use Rattle.sizes.specs.Basics.{pick}
use Rattle.grammar.specs.Layout.{Tree, size}
use Rattle.grammar.specs.Index.{coordinate}
use Rattle.grammar.specs.Table.{Cell}
use Rattle.grammar.specs.Records.{cell_index, cell_value}
use Rattle.grammar.specs.Member.{Member, version, cells, cells_start, ns}
use Rattle.contents.specs.Said.{Contents}
use Rattle.contents.specs.Contents.{contents}
use Rattle.counts.specs.declared.Kind.{Kind}
use Rattle.counts.specs.declared.Kind.TheVariants.{Text, Missing, Number, Bad}
use Rattle.counts.specs.Count.{kind}
use Rattle.total.specs.declared.sums.Sums.{Sums}

-- ---- a cell

-- its index, the place of its Value (the first of its leading 00 bytes), and what the Value says
pub record CellSays : Type 0 where
  pub index : ℕ
  pub place : ℕ
  pub contents : Contents

-- ---- sums over cells, in file order

abbrev pub no_sums : Sums
no_sums = record { bad = None; total = 0; numbers = 0; texts = 0; missing = 0; smallest = 0; largest = 0 }

-- one cell before others: the first bad one decides; the smallest of the first number is that number
unfoldable pub add : Kind → ℕ → Sums → Sums
add Text place s = record { bad = s.bad; total = s.total; numbers = s.numbers; texts = s.texts + 1; missing = s.missing; smallest = s.smallest; largest = s.largest }
add Missing place s = record { bad = s.bad; total = s.total; numbers = s.numbers; texts = s.texts; missing = s.missing + 1; smallest = s.smallest; largest = s.largest }
add (Number n) place s = record {
  bad = s.bad;
  total = s.total + n;
  numbers = s.numbers + 1;
  texts = s.texts;
  missing = s.missing;
  smallest = pick (eqb s.numbers 0) n (min n s.smallest);
  largest = max n s.largest;
}
add Bad place s = record { bad = Some place; total = s.total; numbers = s.numbers; texts = s.texts; missing = s.missing; smallest = s.smallest; largest = s.largest }

abbrev pub add_cell : CellSays → Sums → Sums
add_cell c s = add (kind c.contents.raw.form c.contents.raw.bits) c.place s

-- of those cells whose index passes a test
unfoldable pub with_cell : (ℕ → Bool) → CellSays → Sums → Sums
with_cell test c s = pick (test c.index) (add_cell c s) s

unfoldable pub sums : (ℕ → Bool) → List CellSays → Sums
sums test [] = no_sums
sums test (c ∷ cs) = with_cell test c (sums test cs)

-- ---- the cells of a derivation

module _ (version : ℕ) where
  -- the index of a cell takes eight bytes, and its Value follows
  unfoldable pub cells_say : ℕ → List (Tree (Cell version)) → List CellSays
  cells_say at [] = []
  cells_say at (c ∷ cs) = record { index = cell_index version c; place = at + 8; contents = contents version (cell_value version c) } ∷ cells_say (at + size (Cell version) c) cs

abbrev pub member_cells : Tree Member → List CellSays
member_cells t = cells_say (version t) (cells_start t) (cells t)

-- "A cell is under the leaf when its coordinate in that dimension is the leaf index"
abbrev pub under : Tree Member → ℕ → ℕ → ℕ → Bool
under t dimension leaf index = eqb (coordinate (ns t) dimension index) leaf

-- the sums under a leaf, and over the whole table
abbrev pub leaf_sums : Tree Member → ℕ → ℕ → Sums
leaf_sums t dimension leaf = sums (under t dimension leaf) (member_cells t)

abbrev pub table_sums : Tree Member → Sums
table_sums t = sums (λ _. true) (member_cells t)
