-- What a call for all leaves of a dimension answers, and what the lent areas then hold.
use Rattle.std.specs.Prelude.{◌≡◌, Bool, false, List, ◌++◌, drop, eqb, leb}
use Rattle.std.proofs.Math.Path.{refl, ap}
use Rattle.std.proofs.Common.{◌∙◌, arith}
use Rattle.std.proofs.Math.Bool.{true}
use Prim.Native.Nat.{ℕ, ◌+◌, ◌*◌, ◌≤◌, ◌<◌}
use Rattle.std.proofs.Math.ListN.{length}
use Rattle.std.proofs.Math.Dec.{ltb}
use borrow.Author.Tests.{ltb-true, leb-true}
use Rattle.sizes.specs.Sizes.{node_words, cell_words, dimension_words, dimension_n, leaf_total_words}
use Rattle.sizes.specs.Basics.{pick}
use Rattle.grammar.specs.Layout.{Bytes, Tree}
use Rattle.grammar.specs.Laws.Layout.Read.{no}
use Rattle.grammar.specs.RecordWords.{word}
use Rattle.answer.specs.declared.Answer.{Answer}
use Rattle.grammar.specs.Member.{Member, dimensions, nodes, cells, cell_records, MemberDerivation, AsDemanded}
use Rattle.grammar.specs.Laws.Member.Checked.{checked}
use Rattle.answer.specs.Answer.{accepted}
use Rattle.grammar.proofs.Laws.Member.Demanded.{derivation_checked}
use Rattle.total.specs.declared.DimensionTotals.{DimensionTotals}
use Rattle.total.specs.Words.{leaf_words, rows}
use Rattle.total.specs.Answers.{member_first, answered, leaf_answer_of, refused_all_answer, leaves, dimension_answer, totals_answer, totals_after, AllTotalled}
use Rattle.total.specs.Laws.Leaf.{word_sums}
use Rattle.total.specs.Laws.LeafIs.{n_of, row_is}
use Rattle.total.specs.Laws.Reading.{Taken}
use Rattle.total.specs.Laws.Rows.{rows_same}
use Rattle.total.specs.Laws.LeafRows.{leaf_rows}
use Rattle.total.specs.Laws.Areas.{Areas, Too_short, either, refused_areas}

-- ---- as the code has it

abbrev pub leaves_of : Answer → ℕ → ℕ
leaves_of a dimension = word a.dimensions (dimension_words * dimension + dimension_n)

unfoldable pub dimension_of : Answer → ℕ → ℕ → DimensionTotals
dimension_of a dimension room =
    pick (ltb dimension a.dims)
    (pick (leb (leaf_total_words * leaves_of a dimension) room) (refused_all_answer 0 0 a.nodes a.cells (leaves_of a dimension)) (refused_all_answer 15 0 0 0 (leaves_of a dimension)))
    (refused_all_answer 19 0 0 0 0)

abbrev pub fitting_all : Answer → ℕ → ℕ → ℕ → ℕ → DimensionTotals
fitting_all a dimension room node_length cell_length =
    pick (leb (node_words * a.nodes) node_length)
    (pick (leb (cell_words * a.cells) cell_length) (dimension_of a dimension room) (refused_all_answer 13 0 a.nodes a.cells 0))
    (refused_all_answer 12 0 a.nodes a.cells 0)

pub too_short : (a : Answer) (dimension room node_length cell_length : ℕ) {x : DimensionTotals} → x ≡ fitting_all a dimension room node_length cell_length → Too_short a node_length cell_length x.refusal
unfolding pick
too_short a dimension room node_length cell_length e = (λ z. rw (e, z), λ y z. rw (e, y, z))

-- ---- where nothing is refused

abbrev verdict : Bool → Bool → Bool → Bool → ℕ → ℕ → ℕ → DimensionTotals
verdict is_IsWide is-long is-there fits node-count cell-count n =
    pick is_IsWide
    (pick is-long (pick is-there (pick fits (refused_all_answer 0 0 node-count cell-count n) (refused_all_answer 15 0 0 0 n)) (refused_all_answer 19 0 0 0 0)) (refused_all_answer 13 0 node-count cell-count 0))
    (refused_all_answer 12 0 node-count cell-count 0)

record Fine (is-there fits : Bool) (n : ℕ) (x : DimensionTotals) : Type 0 where
  there : is-there ≡ true
  room : fits ≡ true
  number : x.leaves ≡ n

never : {A : Type 0} → ◌≡◌ {A = Bool} false true → A
never e = absurd (let z : ◌≡◌ {A = ℕ} 0 1 = cc in omega arith)

is_fine : (is_IsWide is-long is-there fits : Bool) (node-count cell-count n : ℕ) {x : DimensionTotals} → x ≡ verdict is_IsWide is-long is-there fits node-count cell-count n → eqb x.refusal 0 ≡ true → Fine is-there fits n x
unfolding pick
is_fine true true true true k m n e h = record { there = refl; room = refl; number = ap (λ (y : DimensionTotals). y.leaves) e }
is_fine true true true false k m n e h = never (rw e at h)
is_fine true true false f k m n e h = never (rw e at h)
is_fine true false i f k m n e h = never (rw e at h)
is_fine false l i f k m n e h = never (rw e at h)

module _ (a : Answer) (dimension room node_length cell_length : ℕ) {x : DimensionTotals} (e : x ≡ fitting_all a dimension room node_length cell_length) (h : eqb x.refusal 0 ≡ true) where
  fine : Fine (ltb dimension a.dims) (leb (leaf_total_words * leaves_of a dimension) room) (leaves_of a dimension) x
  unfolding dimension_of
  fine =
      is_fine (leb (node_words * a.nodes) node_length) (leb (cell_words * a.cells) cell_length) (ltb dimension a.dims) (leb (leaf_total_words * leaves_of a dimension) room) a.nodes a.cells (leaves_of a dimension) e h

  -- there is room for a row of words for each leaf
  pub rows_room : leaf_total_words * x.leaves ≤ room
  rows_room = rw fine.number (leb-true (leaf_total_words * leaves_of a dimension) room fine.room)

-- ---- the call

pub refused_call : {bs : List ℕ} {n p : ℕ} → checked bs ≡ no n p → (T N C : List ℕ) (dimension : ℕ) → AllTotalled bs T N C dimension (refused_all_answer n p 0 0 0) T N C
unfolding totals_answer member_first totals_after
refused_call {n = n} e T N C dimension =
    let y = refused_areas e N C in
    record { answer = rw e; each_leaf = rw e (either (eqb n 0) T); node_area = y.node_area; cell_area = y.cell_area }

module _ {bs : List ℕ} (b : Bytes bs) (d : MemberDerivation bs) (dem : AsDemanded d.tree) (others : List ℕ) (dimension : ℕ) where
  t : Tree Member
  t = d.tree

  same_dimension : (room : ℕ) → dimension_of (accepted d.tree) dimension room ≡ dimension_answer d.tree dimension room
  unfolding dimension_of dimension_answer pick accepted
  same_dimension room = go (ltb dimension (length (dimensions d.tree))) refl
    where
      of_size : ℕ → DimensionTotals
      of_size n = pick (leb (leaf_total_words * n) room) (refused_all_answer 0 0 (nodes d.tree) (length (cells d.tree)) n) (refused_all_answer 15 0 0 0 n)

      go : (v : Bool) → ltb dimension (length (dimensions d.tree)) ≡ v → pick v (of_size (leaves_of (accepted d.tree) dimension)) (refused_all_answer 19 0 0 0 0) ≡ pick v (of_size (leaves d.tree dimension)) (refused_all_answer 19 0 0 0 0)
      go true e = ap of_size (n_of d dem dimension (ltb-true dimension (length (dimensions d.tree)) e))
      go false e = refl

  answer_is : (room node_length cell_length : ℕ) → fitting_all (accepted d.tree) dimension room node_length cell_length ≡ totals_answer (checked bs) dimension room node_length cell_length
  unfolding totals_answer member_first accepted
  answer_is room node_length cell_length = rw (derivation_checked bs b d dem, same_dimension room)

  leaf_rows_are : dimension < length (dimensions d.tree)
      → leaf_rows bs (accepted d.tree) (cell_records d.tree ++ others) dimension (leaves d.tree dimension) ≡ rows (λ j. leaf_words (leaf_answer_of d.tree dimension j)) (leaves d.tree dimension)
  unfolding accepted
  leaf_rows_are h =
      rows_same (λ j. leaf_words (answered (nodes d.tree) (length (cells d.tree)) (word_sums bs (accepted d.tree) (cell_records d.tree ++ others) dimension j))) (λ j. leaf_words (leaf_answer_of d.tree dimension j)) (leaves d.tree dimension)
      (λ j l. ap leaf_words (row_is d dem dimension j others h l))

  rows_are : (T : List ℕ) (node_length cell_length : ℕ) {x : DimensionTotals} → x ≡ fitting_all (accepted d.tree) dimension (length T) node_length cell_length → eqb x.refusal 0 ≡ true
      → {T' : List ℕ} → T' ≡ leaf_rows bs (accepted d.tree) (cell_records d.tree ++ others) dimension x.leaves ++ drop (leaf_total_words * x.leaves) T
      → T' ≡ pick (eqb x.refusal 0) (totals_after (checked bs) dimension T) T
  unfolding totals_after pick accepted
  rows_are T node_length cell_length e h f =
      let y = fine (accepted d.tree) dimension (length T) node_length cell_length e h in
      let there : dimension < length (dimensions d.tree) = inside y.there in
      let n = y.number ∙ n_of d dem dimension there in
      rw (h, derivation_checked bs b d dem) (f ∙ rw (n, leaf_rows_are there))
    where
      inside : ltb dimension (accepted d.tree).dims ≡ true → dimension < length (dimensions d.tree)
      inside q = ltb-true dimension (length (dimensions d.tree)) q

module _ {bs : List ℕ} (b : Bytes bs) {a : Answer} {node-list cell-list : List ℕ} (h : Taken bs a node-list cell-list) (T N C : List ℕ) (dimension : ℕ) {x : DimensionTotals}
    (e : x ≡ fitting_all a dimension (length T) (length N) (length C)) where
  answer : x ≡ totals_answer (checked bs) dimension (length T) (length N) (length C)
  answer = (rw h.answer at e) ∙ answer_is b h.derivation h.demands h.other_cells dimension (length T) (length N) (length C)

  pub with_totals : eqb x.refusal 0 ≡ true → {T' N' C' : List ℕ} → T' ≡ leaf_rows bs a cell-list dimension x.leaves ++ drop (leaf_total_words * x.leaves) T → Areas bs N C x.refusal N' C'
      → AllTotalled bs T N C dimension x T' N' C'
  with_totals fine f y =
      record {
        answer = answer;
        each_leaf = rows_are b h.derivation h.demands h.other_cells dimension T (length N) (length C) (rw h.answer at e) fine (rw (h.answer, h.in_cells) at f);
        node_area = y.node_area;
        cell_area = y.cell_area;
      }

  pub without_totals : eqb x.refusal 0 ≡ false → Areas bs N C x.refusal N C → AllTotalled bs T N C dimension x T N C
  unfolding pick
  without_totals not-fine y = record { answer = answer; each_leaf = rw not-fine; node_area = y.node_area; cell_area = y.cell_area }
