-- Demand 3.
--
-- "State the layout as a grammar, with document 01's limits and without the reader in it. ... Whatever the bytes are and however long the
-- two lent areas, a member is accepted exactly when it has a derivation for which the areas are large enough, and which gives the n leaves
-- of each dimension the indexes 0 to n-1 once each, has axis counts that add up to the number of dimensions, names each dimension once on
-- the axes, and puts every cell inside the table with no cell index twice. The dimensions, category nodes and cells it then yields are
-- that derivation's. No run of bytes has two derivations, accepted or not."
--
-- And document 01: "A refusal is given exactly in its case."
--
-- The grammar is `Member`, and a derivation `MemberDerivation`, in grammar's Member.antt; which refusal is given where stands in its Refused.antt. A call of
-- `read_member` ensures `Demand3`, below; the statements after it are proved in proofs/Laws/Theorems.antt.
use Rattle.std.specs.Prelude.{◌≡◌, ◌↔◌, ◌⊎◌, List, ◌++◌, ℕ, ◌*◌, ◌-◌, ◌≤◌, length, drop, replicate}
use Rattle.sizes.specs.Sizes.{member_bytes, most_dimensions, node_words, cell_words, dimension_area}
use Rattle.grammar.specs.Layout.{Tree, All}
use Rattle.grammar.specs.Strings.{Free}
use Rattle.grammar.specs.Value.{Value, CellValue}
use Rattle.answer.specs.declared.Answer.{Answer}
use Rattle.grammar.specs.Member.{Member, version, dimensions, layers, rows, columns, order, cells, nodes, node_records, dimension_entries, cell_records, node_names, dimension_names, cell_values, MemberDerivation, AsDemanded, LargeEnough}
use Rattle.grammar.specs.Refused.{RefusedWith}

-- words that are all 0
unfoldable pub zeros : ℕ → List ℕ
zeros n = replicate n 0

-- a derivation that is as demanded, for which areas of these lengths are large enough
pub record Accepted (bs : List ℕ) (node_length cell_length : ℕ) : Type 0 where
  pub derivation : MemberDerivation bs
  pub demanded : AsDemanded derivation.tree
  pub large : LargeEnough derivation.tree node_length cell_length

-- the answer r, and what the areas hold then, are those of a derivation
pub record Yields (t : Tree Member) (nodes₀ cells₀ : List ℕ) (r : Answer) (nodes₁ cells₁ : List ℕ) : Type 0 where
  pub number_of_dimensions : r.dims ≡ length (dimensions t)
  pub number_of_nodes : r.nodes ≡ nodes t
  pub number_of_cells : r.cells ≡ length (cells t)
  pub entries_of_dimensions : r.dimensions ≡ dimension_entries t ++ zeros (dimension_area - length (dimension_entries t))
  pub number_of_layers : r.layers ≡ layers t
  pub number_of_rows : r.rows ≡ rows t
  pub number_of_columns : r.columns ≡ columns t
  pub axis_order : r.order ≡ order t ++ zeros (most_dimensions - length (order t))
  pub node_area : nodes₁ ≡ node_records t ++ drop (node_words * nodes t) nodes₀
  pub cell_area : cells₁ ≡ cell_records t ++ drop (cell_words * length (cells t)) cells₀

-- "All refusals return the number, the place and no records; 12 and 13 also return the counts of nodes and cells; everything else returned
-- is 0. No lent area changes."
pub record NoRecords (nodes₀ cells₀ : List ℕ) (r : Answer) (nodes₁ cells₁ : List ℕ) : Type 0 where
  pub no_dimensions : (r.dims ≡ 0) × (r.dimensions ≡ zeros dimension_area)
  pub no_axes : (r.layers ≡ 0) × (r.rows ≡ 0) × (r.columns ≡ 0) × (r.order ≡ zeros most_dimensions)
  pub same_nodes : nodes₁ ≡ nodes₀
  pub same_cells : cells₁ ≡ cells₀

-- a call with any bytes, and with lent areas of any length that hold anything
pub record Demand3 (bs nodes₀ cells₀ : List ℕ) (r : Answer) (nodes₁ cells₁ : List ℕ) : Type 0 where
  -- A member is accepted exactly when it has a derivation as demanded, for which the areas are large enough.
  pub accepted_exactly : (r.refusal ≡ 0) ↔ Accepted bs (length nodes₀) (length cells₀)
  -- The dimensions, category nodes and cells it then yields are that derivation's.
  pub yields : (a : Accepted bs (length nodes₀) (length cells₀)) → Yields a.derivation.tree nodes₀ cells₀ r nodes₁ cells₁
  -- A refusal is given exactly in its case, with its number and its place.
  pub refused_exactly : (n p : ℕ) → ((r.refusal ≡ n) × (r.place ≡ p) × (n ≡ 0 → ⊥)) ↔ RefusedWith bs (length nodes₀) (length cells₀) n p
  -- It returns no records, and both areas are as they were.
  pub nothing_else : (r.refusal ≡ 0 → ⊥) → NoRecords nodes₀ cells₀ r nodes₁ cells₁
  -- 12 and 13 count the derivation's nodes and cells; the others count nothing.
  pub counts : (r.refusal ≡ 12) ⊎ (r.refusal ≡ 13) → (m : MemberDerivation bs) → (r.nodes ≡ nodes m.tree) × (r.cells ≡ length (cells m.tree))
  pub no_counts : (r.refusal ≡ 0 → ⊥) → (r.refusal ≡ 12 → ⊥) → (r.refusal ≡ 13 → ⊥) → (r.nodes ≡ 0) × (r.cells ≡ 0)
  -- The place is in the bytes, or right after them, and 0 where they are too many.
  pub place : (r.place ≤ length bs) × (r.place ≤ member_bytes)
  -- An accepted member has the place 0.
  pub no_place : r.refusal ≡ 0 → r.place ≡ 0

-- No run of bytes has two derivations, accepted or not.
abbrev pub OneDerivation : Type 0
OneDerivation = (bs : List ℕ) (m m' : MemberDerivation bs) → (m.tree ≡ m'.tree) × (m.ends ≡ m'.ends)

-- No string of a derivation holds a zero byte (document 02, T-06) ..
abbrev pub NoZeroInside : Type 0
NoZeroInside = (bs : List ℕ) (m : MemberDerivation bs) → Free Member m.tree

-- .. and so none of the Values that the records of an accepted member point to: names of nodes and dimensions, cells.
abbrev pub ValuesNoZeroInside : Type 0
ValuesNoZeroInside = (bs : List ℕ) (m : MemberDerivation bs)
    → let v = version m.tree in
    All (Free (Value v)) (node_names m.tree) × All (Free (Value v)) (dimension_names m.tree) × All (Free (CellValue v)) (cell_values m.tree)
