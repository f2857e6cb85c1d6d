-- Cells against their rules.
use Rattle.std.specs.Prelude.{◌≡◌, List, [], ◌∷◌, ℕ, ◌+◌, ◌-◌, ◌*◌, ◌^◌, ◌≤◌, ◌<◌, drop, ltb}
use Rattle.std.proofs.Math.Path.{refl, sym, ap}
use Rattle.std.proofs.Common.{◌∙◌, add-zero, length-append, lt-ltb}
use Rattle.std.proofs.Math.Bool.{true, false}
use Rattle.std.proofs.Math.Option.{none, some}
use native.Mathlib.Omega.{arith}
use Rattle.std.proofs.Math.ListN.{length}
use Rattle.std.proofs.lemmas.List.Edits.{sets}
use Rattle.std.proofs.Math.Seq.{length-sets}
use Rattle.sizes.specs.Sizes.{member_bytes, most_cells, cell_words}
use Rattle.layout.specs.Step.{Step}
use Rattle.std.specs.Prelude.{Ok, Err}
use Rattle.sizes.specs.Basics.{among, pick}
use Rattle.grammar.specs.Layout.{any_number, little, Tree, spell, Bytes, size}
use Rattle.grammar.specs.Conventions.{int64}
use Rattle.grammar.specs.Rule.{Rule, plain, ◌▸▸◌, items, tested}
use Rattle.grammar.specs.Laws.Layout.Read.{bind}
use Rattle.grammar.specs.Laws.Layout.Check.{judge, check}
use Rattle.layout.specs.Reads.{ReadsTo, peek}
use Rattle.grammar.specs.Laws.Layout.{digits_length}
use Rattle.layout.specs.Keeps.{Out, on, off, Keeps, keeps_on, keeps_off, Each}
use Rattle.layout.specs.Steps.Spelt.{Read, read_on, read_off, stays_inside, read_number_lem, ReadNumber}
use Rattle.layout.specs.Words.{word32}
use Rattle.layout.specs.Laws.Words.{word_same}
use Rattle.grammar.specs.Value.{CellValue}
use Rattle.grammar.specs.RecordWords.{word, firsts}
use Rattle.grammar.specs.Once.{fresh}
use Rattle.grammar.specs.Laws.Once.{is_fresh}
use Rattle.table.specs.Walk.{Walk}
use Rattle.grammar.specs.Table.{Cell, Cells}
use Rattle.grammar.specs.Records.{cell_index, cell_words_of, rows_words, cell_value, cells_of, cell_record}
use Rattle.grammar.specs.Laws.Table.LeastBytes.{cell_bytes, least_cell}
use Rattle.table.specs.Laws.Within.{RecordSizes, needed, Room}
use Rattle.cells.specs.CellRead.{CellRead, Whole, BadIndex, BadValue}
use Rattle.axes.specs.Laws.Rows.{Kind, Row, Rows, all_rows, row_of, after, before, first_set, second_set}

-- the cell records
abbrev pub cell_record_sizes : RecordSizes
cell_record_sizes = record { width = cell_words; least = least_cell; most = most_cells; number = 13 }

-- an answer of the code, once there are j, and the words with it
abbrev pub cell_out : ℕ → CellRead → List ℕ → Out (ℕ × List ℕ)
cell_out j (Whole p) ws = on p (j, ws)
cell_out j (BadIndex r p) ws = off r p
cell_out j (BadValue r p) ws = off r p

-- ---- the section

pub cell_room : (s : List ℕ) (at n : ℕ) → needed cell_record_sizes (length s - at) ≤ n → Room cell_record_sizes n 0 at s
cell_room s at n h = record { enough = λ u few k. omega arith }

-- an answer of the code, and the words with it
abbrev pub cells_out : Walk → List ℕ → Out (ℕ × List ℕ)
cells_out (Ok (p, n)) ws = on p (n, ws)
cells_out (Err (r, p)) ws = off r p

module _ (version : ℕ) where
  -- ---- a cell

  -- index; place and length of the Value
  abbrev pub cell_kind : Kind (Cell version)
  cell_kind = record {
    width = cell_words;
    size = size (Cell version);
    number = (cell_index version);
    others = λ at t. (at + 8) ∷ size (CellValue version) (cell_value version t) ∷ [];
    some = omega arith;
    all = λ at t. refl;
  }

  -- `cell_rule`, with the indexes before it
  abbrev pub cell_of : ℕ → List ℕ → Rule (Cell version)
  cell_of places seen = tested (plain int64) 10 (λ t. pick (fresh places seen t.0) none (some 0)) ▸▸ (λ _. plain (CellValue version))

  -- what is kept of cell j, after those in ws
  abbrev pub OneCell : List ℕ → ℕ → ℕ → ℕ → List ℕ → Out (ℕ × List ℕ) → Type 0
  OneCell s at places j ws = Keeps s (Row cell_kind at (j, ws)) (check (cell_of places (firsts cell_words ws j)) (drop at s) at)

  -- the record of cell j, whose index is x and whose Value is read from p on
  pub data Recorded (s : List ℕ) (p j x : ℕ) (ws : List ℕ) : CellRead → List ℕ → Type 0 where
    recorded : {q : ℕ} {vs : List ℕ} → ReadsTo (CellValue version) s (Ok p) (Ok q) → vs ≡ sets ws (cell_words * j) (cell_record (word32 x) (word32 p) (word32 (q - p))) → Recorded s p j x ws (Whole q) vs
    not_recorded : {n q : ℕ} {vs : List ℕ} → ReadsTo (CellValue version) s (Ok p) (Err (n, q)) → vs ≡ sets ws (cell_words * j) (cell_record (word32 x) (word32 p) 0) → Recorded s p j x ws (BadValue n q) vs

  -- Cell j has the index x, below the number of places, and its words are in vs. It is kept or refused as `o` says where none before it has
  -- that index, and refused for the index where one has.
  pub record Stored (s : List ℕ) (at places j : ℕ) (ws : List ℕ) (x : ℕ) (o : Out (ℕ × List ℕ)) (vs : List ℕ) : Type 0 where
    pub index : word vs (cell_words * j) ≡ x
    pub place : word vs (cell_words * j + 1) ≡ at + 8
    pub same : (i : ℕ) → i < cell_words * j → word vs i ≡ word ws i
    pub same_length : length vs ≡ length ws
    pub room : cell_words * j + cell_words ≤ length ws
    pub new : among x (firsts cell_words ws j) ≡ false → OneCell s at places j ws o
    pub old : among x (firsts cell_words ws j) ≡ true → OneCell s at places j ws (off 10 at)

  -- what is known of cell j once it was read, with no look at the indexes before it
  pub data CellDone (s : List ℕ) (at places j : ℕ) (ws : List ℕ) : CellRead → List ℕ → Type 0 where
    bad_index : {n p : ℕ} → OneCell s at places j ws (off n p) → CellDone s at places j ws (BadIndex n p) ws
    bad_value : {n p x : ℕ} {vs : List ℕ} → Stored s at places j ws x (off n p) vs → CellDone s at places j ws (BadValue n p) vs
    whole : {q x : ℕ} {vs : List ℕ} → Stored s at places j ws x (on q (j + 1, vs)) vs → at + least_cell ≤ q → CellDone s at places j ws (Whole q) vs

  size_cell : (t : Tree (Cell version)) → size (Cell version) t ≡ 8 + size (CellValue version) (cell_value version t)
  unfolding size spell
  size_cell t = simp (length-append, digits_length) (omega arith)

  module _ (s : List ℕ) (b : Bytes s) (short : length s ≤ member_bytes) (at places j : ℕ) (small : places < 2 ^ 32) (ws : List ℕ) {st : Step} (r : ReadsTo int64 s (Ok at) st) where
    abbrev One : Out (ℕ × List ℕ) → Type 0
    One = OneCell s at places j ws

    pub no_index : {n p : ℕ} → st ≡ Err (n, p) → CellDone s at places j ws (BadIndex n p) ws
    unfolding check bind
    no_index {n} {p} e = bad_index {n = n} {p = p} (rw (read_off r e) keeps_off)

    module _ {p x : ℕ} (e : st ≡ Ok p) (pk : x ≡ peek little 8 s (Ok at)) where
      num : ReadNumber 8 any_number s at p x
      num = read_number_lem b r e pk

      stale_cell : fresh places (firsts cell_words ws j) x ≡ false → One (off 10 at)
      unfolding check bind judge pick
      stale_cell f =
          let f' : fresh places (firsts cell_words ws j) num.found.tree.0 ≡ false = rw num.is f in
          rw (num.found.is, f', add-zero) keeps_off

      fresh_cell : fresh places (firsts cell_words ws j) x ≡ true → {c : CellRead} {vs : List ℕ} → Recorded s p j x ws c vs → One (cell_out (j + 1) c vs)
      unfolding check bind judge pick
      fresh_cell f (recorded {q = q} {vs = vs} v h) =
          let f' : fresh places (firsts cell_words ws j) num.found.tree.0 ≡ true = rw num.is f in
          let val : Read (CellValue version) s p q = read_on b v refl in
          let t : Tree (Cell version) = (num.found.tree, val.tree) in
          let z = size (CellValue version) val.tree in
          let q_is : q ≡ p + z = val.there.place in
          let long : q ≤ length s = stays_inside val.there (num.says.inside (omega arith)) in
          let below : x < places = ((is_fresh places (firsts cell_words ws j) x).0 f).0 in
          let e₁ : q - p ≡ z = omega arith in
          let index : word32 x ≡ num.found.tree.0 = word_same x (omega arith) ∙ sym num.is in
          let place : word32 p ≡ at + 8 = word_same p (omega arith) ∙ num.says.place in
          let length_is : word32 (q - p) ≡ z = ap word32 e₁ ∙ word_same z (omega arith) in
          let same : cell_record (word32 x) (word32 p) (word32 (q - p)) ≡ cell_record num.found.tree.0 (at + 8) z =
          rw (index, place, length_is) in
          let kept : Row cell_kind at (j, ws) t q (j + 1, vs) = record {
            place = omega (arith, num.says.place, size_cell t);
            count = refl;
            stored = h ∙ ap (sets ws (cell_words * j)) same;
          } in
          rw (num.found.is, f', val.is) (keeps_on {t = t} refl kept)
      fresh_cell f (not_recorded v h) =
          let f' : fresh places (firsts cell_words ws j) num.found.tree.0 ≡ true = rw num.is f in
          rw (num.found.is, f', read_off v refl) keeps_off

      -- an index that is not below the number of places
      pub not_below : ltb x places ≡ false → CellDone s at places j ws (BadIndex 10 at) ws
      unfolding fresh
      not_below h = bad_index (stale_cell (rw h))

      module _ (below : x < places) (later : 0 < at) (few : j < most_cells) (free : Room cell_record_sizes (length ws) j (at - 1) s) where
        inside : p ≤ length s
        inside = num.says.inside (omega arith)

        there : cell_words * j + cell_words ≤ length ws
        there = omega (arith, free.enough (j + 1) (omega arith) (omega (arith, inside, num.says.place)))

        stored : (z : ℕ) {c : CellRead} {vs : List ℕ} → Recorded s p j x ws c vs → vs ≡ sets ws (cell_words * j) (cell_record (word32 x) (word32 p) z)
            → Stored s at places j ws x (cell_out (j + 1) c vs) vs
        unfolding word fresh
        stored z {c} {vs} d e =
            let i = cell_words * j in
            let w₁ = word32 x in
            let w₂ = word32 p in
            record {
              index = rw e (first_set ws i w₁ (w₂ ∷ z ∷ []) (omega (arith, there)) ∙ word_same x (omega arith));
              place = rw e (second_set ws i w₁ w₂ (z ∷ []) (omega (arith, there)) ∙ word_same p (omega (arith, inside)) ∙ num.says.place);
              same = λ k h. rw e (before ws i (w₁ ∷ w₂ ∷ z ∷ []) k h);
              same_length = ap length e ∙ length-sets ws i (w₁ ∷ w₂ ∷ z ∷ []);
              room = there;
              new = λ h. fresh_cell ((is_fresh places (firsts cell_words ws j) x).1 (below, h)) d;
              old = λ h. stale_cell (rw (lt-ltb x places below, h));
            }

        pub done : {c : CellRead} {vs : List ℕ} → Recorded s p j x ws c vs → CellDone s at places j ws c vs
        done (recorded {q = q} v h) =
            let val : Read (CellValue version) s p q = read_on b v refl in
            let t : Tree (Cell version) = (num.found.tree, val.tree) in
            let least = cell_bytes version t (num.found.there.valid, val.there.valid) in
            whole (stored _ (recorded v h) h) (omega (arith, val.there.place, num.says.place, size_cell t))
        done (not_recorded v h) = bad_value (stored 0 (not_recorded v h) h)

  -- ---- cells that follow each other

  abbrev pub AllRead : List ℕ → ℕ → ℕ → ℕ → List ℕ → Step → List ℕ → Type 0
  AllRead s at places n ws r vs =
      Keeps s (Each (Row cell_kind) at (0, ws)) (check (items {n = n} (after cell_kind (cell_of places))) (drop at s) at) (row_of n r vs)

  -- the cells whose number stands at the place `at`
  pub record AllCells (at : ℕ) (ws : List ℕ) (t : Tree (Cells version)) (p : ℕ) (y : ℕ × List ℕ) : Type 0 where
    pub count : y.0 ≡ length (cells_of version t)
    pub stored : y.1 ≡ sets ws 0 (rows_words (size (Cell version)) (cell_words_of version) (at + 4) (cells_of version t))

  pub the_cells : {at p n : ℕ} {ws : List ℕ} {ts : List (Tree (Cell version))} {q : ℕ} {vs : List ℕ} → p ≡ at + 4
      → Each (Row cell_kind) p (0, ws) ts q (n, vs) → AllCells at ws (n, ts) q (n, vs)
  the_cells {at} {p} {n} {ws} {ts} {q} {vs} p-is k =
      let w : Rows cell_kind p (0, ws) ts q (n, vs) = all_rows cell_kind k in
      record { count = omega (arith, w.count); stored = rw p-is at w.stored }
