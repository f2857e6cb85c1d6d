-- For every category node, dimension and cell of a derivation: the part of the member at the place and of the length in its record is what
-- its Value spells (document 01, "What the caller gets").
use Rattle.std.specs.Prelude.{◌≡◌, refl, Bool, true, false, List, [], ◌∷◌, ◌++◌, ℕ, suc, ◌+◌, ◌*◌, ◌-◌, take, drop, leb}
use Rattle.std.proofs.Common.{sym, ap, ◌∙◌, append_assoc, add-zero, arith, length-append, length-drop, take_at, drop_at, le-leb}
use Rattle.std.proofs.Math.Option.{some}
use Rattle.std.proofs.Math.ListN.{length, get_elem?}
use Rattle.sizes.specs.Sizes.{node_words, cell_words, dimension_words}
use Rattle.sizes.specs.Basics.{pick}
use Rattle.grammar.specs.Layout.{little, Layout, ◌▸◌, Tree, digits, spell_all, spell, size}
use Rattle.grammar.specs.Laws.Layout.{digits_length}
use Rattle.grammar.specs.Value.{Value, CellValue}
use Rattle.grammar.specs.Sections.{HeaderStart, Front}
use Rattle.grammar.specs.RecordWords.{word}
use Rattle.grammar.specs.Table.{Dimension, Dimensions, Axes, Cell, Cells}
use Rattle.grammar.specs.Records.{cell_words_of}
use Rattle.grammar.specs.Laws.Table.RecordsPoint.{all_names, Points, Pointing, record_of, after_digits, entries_point, cells_point}
use Rattle.grammar.specs.Member.{Member, final, version, body_at, dimensions, cells, nodes, dimensions_at, cells_start, node_records, dimension_entries, cell_records, node_names, dimension_names, cell_values, MemberDerivation, front_section, axes_section, cells_section}
use Rattle.grammar.specs.Part.{part_of}
use Rattle.grammar.specs.Laws.Table.Words.{width_entries, width_dims}
use Rattle.grammar.specs.Laws.Table.Words.{width_rows}

-- there are as many names as nodes
pub names_of_nodes : (t : Tree Member) → length (node_names t) ≡ nodes t
names_of_nodes t = all_names (version t) (dimensions t)

-- ---- where they stand

-- what follows a number of four bytes
after_count : (bs before : List ℕ) (n : ℕ) (xs : List ℕ) → bs ≡ before ++ (digits little 4 n ++ xs) → drop (length before + 4) bs ≡ xs
after_count bs before n xs e =
    after_digits bs (length before) little 4 n xs (ap (drop (length before)) e ∙ drop_at before (digits little 4 n ++ xs) (length before) refl)

to_dimensions : (h v f n a x c e : List ℕ) → (h ++ (v ++ (f ++ (n ++ a) ++ x ++ c))) ++ e ≡ (h ++ v ++ f) ++ (n ++ (a ++ (x ++ (c ++ e))))
to_dimensions h v f n a x c e = simp append_assoc

to_cells : (h v b n a e : List ℕ) → (h ++ (v ++ (b ++ (n ++ a)))) ++ e ≡ (h ++ v ++ b) ++ (n ++ (a ++ e))
to_cells h v b n a e = simp append_assoc

module _ {bs : List ℕ} (d : MemberDerivation bs) where
  -- 01 00 and the version
  abbrev before_body : List ℕ
  before_body = spell HeaderStart d.tree.0 ++ digits little 4 d.tree.1.0

  body_start : length before_body ≡ body_at
  unfolding HeaderStart spell
  body_start = simp (length-append, digits_length)

  -- after the dimensions
  abbrev pub rest : List ℕ
  rest = let t = d.tree in spell Axes (axes_section t) ++ (spell (Cells (version t)) (cells_section t) ++ final d.ends)

  pub dimensions_there : drop (dimensions_at d.tree) bs ≡ spell_all (spell (Dimension (version d.tree))) (dimensions d.tree) ++ rest
  unfolding spell size
  dimensions_there =
      let t = d.tree in
      let all = spell_all (spell (Dimension (version t))) (dimensions t) in
      let before = before_body ++ spell (Front (version t)) (front_section t) in
      let n = t.1.1.0.0.1.0 in
      let joined : spell Member t ++ final d.ends ≡ before ++ (digits little 4 n ++ (all ++ rest)) =
      to_dimensions (spell HeaderStart t.0) (digits little 4 t.1.0) (spell (Front (version t)) (front_section t)) (digits little 4 n) all (spell Axes (axes_section t)) (spell (Cells (version t)) (cells_section t)) (final d.ends) in
      let start : length before + 4 ≡ dimensions_at t = rw (length-append, body_start) in
      rw start at (after_count bs before n (all ++ rest) (sym d.spells ∙ joined))

  pub cells_there : drop (cells_start d.tree) bs ≡ spell_all (spell (Cell (version d.tree))) (cells d.tree) ++ final d.ends
  unfolding spell size
  cells_there =
      let t = d.tree in
      let before = before_body ++ spell (Front (version t) ▸ Dimensions (version t) ▸ Axes) t.1.1.0 in
      let all = spell_all (spell (Cell (version t))) (cells t) in
      let n = t.1.1.1.0 in
      let joined : spell Member t ++ final d.ends ≡ before ++ (digits little 4 n ++ (all ++ final d.ends)) =
      to_cells (spell HeaderStart t.0) (digits little 4 t.1.0) (spell (Front (version t) ▸ Dimensions (version t) ▸ Axes) t.1.1.0) (digits little 4 n) all (final d.ends) in
      let start : length before + 4 ≡ cells_start t = rw (length-append, body_start) in
      rw start at (after_count bs before n (all ++ final d.ends) (sym d.spells ∙ joined))

  pub dimensions_point : Pointing (Value (version d.tree)) bs dimension_words 0 1 (dimension_entries d.tree) (dimension_names d.tree)
  dimensions_point = entries_point (version d.tree) bs 0 (dimensions_at d.tree) (dimensions d.tree) rest dimensions_there

  pub values_point : Pointing (CellValue (version d.tree)) bs cell_words 1 2 (cell_records d.tree) (cell_values d.tree)
  values_point = cells_point (version d.tree) bs (cells_start d.tree) (cells d.tree) (final d.ends) cells_there

-- ---- parts

-- the bytes that stand at a place are the part there
part_there : (s : List ℕ) (place : ℕ) (xs r : List ℕ) → drop place s ≡ xs ++ r → part_of s place (length xs) ≡ xs
unfolding part_of pick
part_there s place [] r e = go (leb (place + 0) (length s))
  where
    go : (b : Bool) → pick b (take 0 (drop place s)) [] ≡ []
    go true = refl
    go false = refl
part_there s place (x ∷ xs) r e =
    let l : length s - place ≡ suc (length xs) + length r = sym (length-drop place s) ∙ (ap length e ∙ length-append (x ∷ xs) r) in
    rw (le-leb (place + suc (length xs)) (length s) (omega arith), e) (take_at (x ∷ xs) r (suc (length xs)) refl)

pub part_of_lem : {g : Layout} {s : List ℕ} {place long : ℕ} {v : Tree g} → Points g s place long v → part_of s place long ≡ spell g v
unfolding size
part_of_lem {g} {s} {place} {long} {v} p = rw p.length_of (part_there s place (spell g v) p.rest p.there)

-- Dimension: the first two words of its entry
pub dimension_name : {bs : List ℕ} (d : MemberDerivation bs) (i : ℕ) (v : Tree (Value (version d.tree))) → get_elem? (dimension_names d.tree) i ≡ some v
    → let ws = dimension_entries d.tree in part_of bs (word ws (dimension_words * i)) (word ws (dimension_words * i + 1)) ≡ spell (Value (version d.tree)) v
unfolding word
dimension_name d i v e = part_of_lem (rw (add-zero (dimension_words * i)) at (record_of (omega arith) (omega arith) (dimensions_point d) i v e))

-- Cell: the words 1 and 2 of its record
pub cell_value_lem : {bs : List ℕ} (d : MemberDerivation bs) (i : ℕ) (v : Tree (CellValue (version d.tree))) → get_elem? (cell_values d.tree) i ≡ some v
    → let ws = cell_records d.tree in part_of bs (word ws (cell_words * i + 1)) (word ws (cell_words * i + 2)) ≡ spell (CellValue (version d.tree)) v
unfolding word
cell_value_lem d i v e = part_of_lem (record_of (omega arith) (omega arith) (values_point d) i v e)

-- and there are no other records
pub node_width : {bs : List ℕ} (d : MemberDerivation bs) → length (node_records d.tree) ≡ node_words * nodes d.tree
node_width d = width_dims (version d.tree) 0 0 (dimensions_at d.tree) (dimensions d.tree)

pub dimension_width : {bs : List ℕ} (d : MemberDerivation bs) → length (dimension_entries d.tree) ≡ dimension_words * length (dimensions d.tree)
dimension_width d = width_entries (version d.tree) 0 (dimensions_at d.tree) (dimensions d.tree)

pub cell_width : {bs : List ℕ} (d : MemberDerivation bs) → length (cell_records d.tree) ≡ cell_words * length (cells d.tree)
cell_width d = width_rows cell_words (size (Cell (version d.tree))) (cell_words_of (version d.tree)) (λ _ _. refl) (cells_start d.tree) (cells d.tree)
