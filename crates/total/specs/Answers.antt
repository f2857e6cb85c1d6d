-- What is answered for a leaf and for all leaves of a dimension, and what the lent areas then hold (document 02, T-01).
use Rattle.std.specs.Prelude.{◌≡◌, Bool, ◌&&◌, List, ◌++◌, ℕ, ◌*◌, length, drop, get_or, eqb, leb, ltb, pos, Float, Option, None, Some}
use Rattle.std.specs.Float.{binary64}
use Rattle.std.specs.Float.Ieee.{of_int}
use Rattle.sizes.specs.Sizes.{leaf_total_words}
use Rattle.sizes.specs.Basics.{pick}
use Rattle.grammar.specs.Layout.{Tree}
use Rattle.grammar.specs.Laws.Layout.Read.{Got, got, no}
use Rattle.grammar.specs.Member.{Member, dimensions, nodes, cells, ns}
use Rattle.answer.specs.Answer.{wide, long, nodes_after, cells_after}
use Rattle.grammar.specs.Laws.Member.Checked.{checked}
use Rattle.answer.specs.declared.Answer.{Answer}
use Rattle.answer.specs.Demand3.{Demand3, Accepted}
use Rattle.total.specs.declared.sums.Sums.{Sums}
use Rattle.total.specs.declared.LeafTotal.{LeafTotal}
use Rattle.total.specs.declared.DimensionTotals.{DimensionTotals}
use Rattle.total.specs.Total.{leaf_sums}
use Rattle.total.specs.Words.{leaf_words, rows}

-- a whole number as the double that it is
abbrev pub double : ℕ → Float
double n = of_int binary64 (pos n)

-- "All totals are then 0"; 12 and 13 have the counts of nodes and cells
abbrev pub refused : ℕ → ℕ → ℕ → ℕ → LeafTotal
refused n p node-count cell-count = record {
  refusal = n;
  place = p;
  nodes = node-count;
  cells = cell-count;
  total = 0;
  numbers = 0;
  texts = 0;
  missing = 0;
  smallest = double 0;
  largest = double 0;
}

-- the sums of a leaf that is there, in a member with so many nodes and cells
abbrev pub totalled : ℕ → ℕ → Sums → LeafTotal
totalled node-count cell-count s = record {
  refusal = 0;
  place = 0;
  nodes = node-count;
  cells = cell-count;
  total = s.total;
  numbers = s.numbers;
  texts = s.texts;
  missing = s.missing;
  smallest = double s.smallest;
  largest = double s.largest;
}

-- "20 at the Value of the leaf's first bad cell in file order", if there is one
abbrev pub unless_bad : Option ℕ → LeafTotal → LeafTotal
unless_bad (Some place) x = refused 20 place 0 0
unless_bad None x = x

abbrev pub answered : ℕ → ℕ → Sums → LeafTotal
answered node-count cell-count s = unless_bad s.bad (totalled node-count cell-count s)

-- "19 at place 0 for a dimension or leaf that isn't there"
abbrev pub there : Tree Member → ℕ → ℕ → Bool
there t dimension leaf = ltb dimension (length (dimensions t)) && ltb leaf (get_or (ns t) dimension 0)

unfoldable pub leaf_answer_of : Tree Member → ℕ → ℕ → LeafTotal
leaf_answer_of t dimension leaf = pick (there t dimension leaf) (answered (nodes t) (length (cells t)) (leaf_sums t dimension leaf)) (refused 19 0 0 0)

-- "Refusals: the member's own first": 12 and 13 too, with their counts; then what is said of an accepted one
unfoldable pub member_first : {A : Type 0} → (ℕ → ℕ → ℕ → ℕ → A) → (Tree Member → A) → Got (Tree Member) → ℕ → ℕ → A
member_first refusing said (no n p) node_length cell_length = refusing n p 0 0
member_first refusing said (got t r p) node_length cell_length =
    pick (wide t node_length) (pick (long t cell_length) (said t) (refusing 13 0 (nodes t) (length (cells t)))) (refusing 12 0 (nodes t) (length (cells t)))

unfoldable pub total_answer : Got (Tree Member) → ℕ → ℕ → ℕ → ℕ → LeafTotal
unfolding member_first
total_answer y node_length cell_length dimension leaf = member_first refused (λ t. leaf_answer_of t dimension leaf) y node_length cell_length

-- a call: "The same two areas are lent and then hold the records"; "lent areas unchanged" after a refusal
pub record Totalled (bs node_words cell_words : List ℕ) (dimension leaf : ℕ) (r : LeafTotal) (node-words' cell-words' : List ℕ) : Type 0 where
  pub answer : r ≡ total_answer (checked bs) (length node_words) (length cell_words) dimension leaf
  pub node_area : node-words' ≡ pick (eqb r.refusal 0) (nodes_after (checked bs) node_words (length cell_words)) node_words
  pub cell_area : cell-words' ≡ pick (eqb r.refusal 0) (cells_after (checked bs) (length node_words) cell_words) cell_words

-- the same without a reader: by what demand 3 says of reading the member with the same areas, and by the derivation that it speaks of
pub record ByDerivation (bs node_words cell_words : List ℕ) (dimension leaf : ℕ) (r : LeafTotal) (node-words' cell-words' : List ℕ) : Type 0 where
  -- reading: its answer, and what the areas would then hold
  pub reading : Answer
  pub nodes_read : List ℕ
  pub cells_read : List ℕ
  pub is_read : Demand3 bs node_words cell_words reading nodes_read cells_read
  -- "Refusals: the member's own first", 12 and 13 with their counts; "All totals are then 0"
  pub of_refused : (reading.refusal ≡ 0 → ⊥) → r ≡ refused reading.refusal reading.place reading.nodes reading.cells
  -- "Given an accepted member": what its derivation says of the leaf
  pub of_accepted : (m : Accepted bs (length node_words) (length cell_words)) → r ≡ leaf_answer_of m.derivation.tree dimension leaf
  -- "The same two areas are lent and then hold the records"
  pub with_records : r.refusal ≡ 0 → (node-words' ≡ nodes_read) × (cell-words' ≡ cells_read)
  -- "lent areas unchanged" after a refusal
  pub unchanged : (r.refusal ≡ 0 → ⊥) → (node-words' ≡ node_words) × (cell-words' ≡ cell_words)

-- ---- all leaves of a dimension (our own function)

abbrev pub refused_all_answer : ℕ → ℕ → ℕ → ℕ → ℕ → DimensionTotals
refused_all_answer n p node-count cell-count leaf_count = record { refusal = n; place = p; nodes = node-count; cells = cell-count; leaves = leaf_count }

-- n of a dimension
abbrev pub leaves : Tree Member → ℕ → ℕ
leaves t dimension = get_or (ns t) dimension 0

-- 19 for a dimension that isn't there; 15, with the number of its leaves, where there is no room for a row of words for each (our rule)
unfoldable pub dimension_answer : Tree Member → ℕ → ℕ → DimensionTotals
dimension_answer t dimension room =
    pick (ltb dimension (length (dimensions t)))
    (pick (leb (leaf_total_words * leaves t dimension) room) (refused_all_answer 0 0 (nodes t) (length (cells t)) (leaves t dimension)) (refused_all_answer 15 0 0 0 (leaves t dimension)))
    (refused_all_answer 19 0 0 0 0)

unfoldable pub totals_answer : Got (Tree Member) → ℕ → ℕ → ℕ → ℕ → DimensionTotals
unfolding member_first
totals_answer y dimension room node_length cell_length = member_first (λ n p k m. refused_all_answer n p k m 0) (λ t. dimension_answer t dimension room) y node_length cell_length

-- the area for the totals then: what is answered for each leaf, a row of words for each; beyond them what was there
unfoldable pub totals_after : Got (Tree Member) → ℕ → List ℕ → List ℕ
totals_after (no n p) dimension old = old
totals_after (got t r p) dimension old = rows (λ leaf. leaf_words (leaf_answer_of t dimension leaf)) (leaves t dimension) ++ drop (leaf_total_words * leaves t dimension) old

-- a call: after a refusal all three areas are as they were
pub record AllTotalled (bs totals node_words cell_words : List ℕ) (dimension : ℕ) (r : DimensionTotals) (totals' node-words' cell-words' : List ℕ) : Type 0 where
  pub answer : r ≡ totals_answer (checked bs) dimension (length totals) (length node_words) (length cell_words)
  pub each_leaf : totals' ≡ pick (eqb r.refusal 0) (totals_after (checked bs) dimension totals) totals
  pub node_area : node-words' ≡ pick (eqb r.refusal 0) (nodes_after (checked bs) node_words (length cell_words)) node_words
  pub cell_area : cell-words' ≡ pick (eqb r.refusal 0) (cells_after (checked bs) (length node_words) cell_words) cell_words

-- the same without a reader
pub record AllByDerivation (bs totals node_words cell_words : List ℕ) (dimension : ℕ) (r : DimensionTotals) (totals' node-words' cell-words' : List ℕ) : Type 0 where
  pub reading : Answer
  pub nodes_read : List ℕ
  pub cells_read : List ℕ
  pub is_read : Demand3 bs node_words cell_words reading nodes_read cells_read
  pub of_refused : (reading.refusal ≡ 0 → ⊥) → r ≡ refused_all_answer reading.refusal reading.place reading.nodes reading.cells 0
  pub of_accepted : (m : Accepted bs (length node_words) (length cell_words)) → r ≡ dimension_answer m.derivation.tree dimension (length totals)
  pub with_rows : (m : Accepted bs (length node_words) (length cell_words)) → r.refusal ≡ 0
      → let n = leaves m.derivation.tree dimension in totals' ≡ rows (λ leaf. leaf_words (leaf_answer_of m.derivation.tree dimension leaf)) n ++ drop (leaf_total_words * n) totals
  pub with_records : r.refusal ≡ 0 → (node-words' ≡ nodes_read) × (cell-words' ≡ cells_read)
  pub unchanged : (r.refusal ≡ 0 → ⊥) → (totals' ≡ totals) × (node-words' ≡ node_words) × (cell-words' ≡ cell_words)
