-- The records of a member and what their Values say: for each category node, dimension and cell of a derivation, `read_value` of the part of
-- the member at the place and of the length in its record answers what the derivation's Value says, and that length.
use Rattle.std.specs.Prelude.{◌≡◌, Bool, ℕ, zero, suc, ◌+◌, ◌*◌, ◌≤◌, take, drop, get_or, eqb}
use Rattle.std.proofs.Math.Path.{refl, sym, ap}
use Rattle.std.proofs.Common.{◌∙◌, add-zero}
use Rattle.std.proofs.Math.Bool.{true, false}
use Rattle.std.proofs.lemmas.Bool.{false≢true}
use Rattle.std.proofs.Math.Option.{some}
use mathlib.Core.List.{List, [], append-nil}
use native.Mathlib.Omega.{arith}
use Rattle.std.proofs.Math.ListN.{length, get_elem?, length-drop}
use Rattle.std.proofs.Math.Seq.{length-take-le}
use Rattle.std.proofs.Math.Dec.{leb}
use borrow.Author.Tests.{le-leb, leb-true}
use Rattle.sizes.specs.Sizes.{member_bytes, node_words, cell_words, dimension_words, name_place, name_length, below_value}
use Rattle.sizes.specs.Basics.{among, le, pick}
use Rattle.grammar.specs.Layout.{passes, Layout, Tree, digits, spell, size, Leads, All, all_none, all_more, Valid}
use Rattle.grammar.specs.Part.{part_of}
use Rattle.grammar.specs.Value.{Value, CellValue, RawValueOf, ValueIn, cell_zeros}
use Rattle.grammar.specs.Sections.{versions}
use Rattle.grammar.specs.RecordWords.{word}
use Rattle.grammar.specs.Laws.Table.RecordsPoint.{Points, record_of}
use Rattle.grammar.specs.Member.{version, node_records, dimension_entries, cell_records, MemberDerivation, node_names, dimension_names, cell_values}
use Rattle.grammar.specs.Laws.Member.RecordsSpelt.{dimensions_point, values_point, part_of_lem}
use Rattle.grammar.proofs.Laws.Member.RecordsSpelt.{nodes_point}
use Rattle.grammar.specs.Laws.Member.ValidValues.{nodes_valid, dimensions_valid, cells_valid}
use Rattle.contents.specs.Said.{Contents}
use Rattle.contents.specs.Contents.{contents}
use Rattle.contents.specs.Answers.{unread, ValueAnswers}

-- x is what the Value v says, and is that long
abbrev pub Says : (version : ℕ) → Tree (CellValue version) → ℕ → Contents → Type 0
Says version v long x = (x ≡ contents version v) × (x.length ≡ long)

-- ---- a name is read as the Value of a cell is: the two differ in how many bytes 00 may come before, and a form begins with none

abbrev pub as_cell : (version : ℕ) → Tree (Value version) → Tree (CellValue version)
unfolding Value ValueIn CellValue
as_cell version t = t

-- no form begins with 00
no_zero_first : (version : ℕ) (v : Layout) (t : Tree (RawValueOf version v)) → Valid (RawValueOf version v) t → get_or (spell (RawValueOf version v) t) 0 0 ≡ 0 → ⊥
unfolding RawValueOf spell digits le passes among
no_zero_first version v t h e =
    let z : t.0 ≡ 0 = omega (arith, h.0) in
    false≢true (rw z at h.1)

more_zeros : (version k : ℕ) (xs : List ℕ) → Leads 0 4 k xs → (get_or xs 0 0 ≡ 0 → ⊥) → Leads 0 (cell_zeros version) k xs
unfolding pick
more_zeros version k xs l h = record { short = go (eqb version 1); some_byte = l.some_byte; other = λ _. h }
  where
    go : (b : Bool) → k ≤ pick b 5 4
    go true = omega (arith, l.short)
    go false = l.short

pub valid_as_cell : (version : ℕ) (t : Tree (Value version)) → Valid (Value version) t → Valid (CellValue version) (as_cell version t)
unfolding Value ValueIn CellValue
valid_as_cell version t h =
    (more_zeros version t.0 (spell (RawValueOf version (ValueIn version below_value)) t.1) h.0 (no_zero_first version (ValueIn version below_value) t.1 h.1), h.1)

points_as_cell : (version : ℕ) {s : List ℕ} {place long : ℕ} (t : Tree (Value version)) → Points (Value version) s place long t → Points (CellValue version) s place long (as_cell version t)
unfolding Value ValueIn CellValue spell size
points_as_cell version t p = record { rest = p.rest; there = p.there; length_of = p.length_of }

-- ---- parts of a member

at_index : {A : Type 0} {P : A → Type 0} {xs : List A} → All P xs → (i : ℕ) (x : A) → get_elem? xs i ≡ some x → P x
at_index all_none i x e = absurd (let z : ◌≡◌ {A = ℕ} 0 1 = cc in omega arith)
at_index {P = P} (all_more {x = y} h hs) zero x e = let i : y ≡ x = cc in rw i at h
at_index (all_more h hs) (suc i) x e = at_index hs i x e

module _ {bs : List ℕ} (d : MemberDerivation bs) where
  version_known : among (version d.tree) versions ≡ true
  unfolding passes
  version_known = d.valid.1.1

  short_part : (place long : ℕ) → length (part_of bs place long) ≤ member_bytes
  unfolding part_of pick
  short_part place long = go (leb (place + long) (length bs)) refl
    where
      go : (b : Bool) → leb (place + long) (length bs) ≡ b → length (pick b (take long (drop place bs)) []) ≤ member_bytes
      go true e =
          let l : place + long ≤ length bs = leb-true (place + long) (length bs) e in
          omega (arith, l, d.short, length-take-le long (drop place bs) (omega (arith, length-drop place bs)))
      go false e = omega arith

  -- so each part is read
  pub part_read : (place long : ℕ) → unread (version d.tree) (part_of bs place long) ≡ 0
  unfolding unread pick
  part_read place long = rw (le-leb (length (part_of bs place long)) member_bytes (short_part place long), version_known)

  -- a part that a Value spells is read as that Value
  part_says : {place long : ℕ} (v : Tree (CellValue (version d.tree))) → Points (CellValue (version d.tree)) bs place long v → Valid (CellValue (version d.tree)) v
      → (x : Contents) → ValueAnswers (version d.tree) (part_of bs place long) x → Says (version d.tree) v long x
  unfolding contents
  part_says {place} {long} v p h x a =
      let e : x ≡ contents (version d.tree) v = a.derived (part_read place long) v [] (record { valid = h; split = part_of_lem p ∙ sym (append-nil (spell (CellValue (version d.tree)) v)) }) in
      (e, ap (λ (c : Contents). c.length) e ∙ sym p.length_of)

  -- Node: two words of its record
  pub node_says : (i : ℕ) (v : Tree (Value (version d.tree))) → get_elem? (node_names d.tree) i ≡ some v
      → let ws = node_records d.tree in
      let long = word ws (node_words * i + name_length) in
      (x : Contents) → ValueAnswers (version d.tree) (part_of bs (word ws (node_words * i + name_place)) long) x → Says (version d.tree) (as_cell (version d.tree) v) long x
  unfolding word
  node_says i v e =
      part_says (as_cell (version d.tree) v) (points_as_cell (version d.tree) v (record_of (omega arith) (omega arith) (nodes_point d) i v e))
      (valid_as_cell (version d.tree) v (at_index (nodes_valid d.tree d.valid) i v e))

  -- Dimension: the first two words of its entry
  pub dimension_says : (i : ℕ) (v : Tree (Value (version d.tree))) → get_elem? (dimension_names d.tree) i ≡ some v
      → let ws = dimension_entries d.tree in
      let long = word ws (dimension_words * i + 1) in
      (x : Contents) → ValueAnswers (version d.tree) (part_of bs (word ws (dimension_words * i)) long) x → Says (version d.tree) (as_cell (version d.tree) v) long x
  unfolding word
  dimension_says i v e =
      part_says (as_cell (version d.tree) v) (points_as_cell (version d.tree) v (rw (add-zero (dimension_words * i)) at (record_of (omega arith) (omega arith) (dimensions_point d) i v e)))
      (valid_as_cell (version d.tree) v (at_index (dimensions_valid d.tree d.valid) i v e))

  -- Cell: the words 1 and 2 of its record
  pub cell_says : (i : ℕ) (v : Tree (CellValue (version d.tree))) → get_elem? (cell_values d.tree) i ≡ some v
      → let ws = cell_records d.tree in
      let long = word ws (cell_words * i + 2) in
      (x : Contents) → ValueAnswers (version d.tree) (part_of bs (word ws (cell_words * i + 1)) long) x → Says (version d.tree) v long x
  unfolding word
  cell_says i v e = part_says v (record_of (omega arith) (omega arith) (values_point d) i v e) (at_index (cells_valid d.tree d.valid) i v e)
