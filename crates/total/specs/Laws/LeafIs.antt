-- What the code answers for a leaf of an accepted member is what its derivation says.
use Rattle.std.specs.Prelude.{◌≡◌, Bool, ◌&&◌, drop, get_or}
use Rattle.std.proofs.Math.Path.{refl}
use Rattle.std.proofs.Common.{sym, ap, ◌∙◌, zero-add, arith}
use Rattle.std.proofs.Math.Bool.{true, false}
use mathlib.Core.List.{List, [], ◌++◌}
use Prim.Native.Nat.{ℕ, suc, ◌+◌, ◌-◌, ◌*◌, ◌≤◌, ◌<◌, min}
use Rattle.std.proofs.Math.Nat.{min-eq_left}
use Rattle.std.proofs.Math.ListN.{length, length-map}
use Rattle.std.proofs.Math.Dec.{ltb}
use borrow.Author.Tests.{ltb-true, lt-ltb, leb-true}
use Rattle.sizes.specs.Sizes.{most_dimensions, most_cells, dimension_area, dimension_words, dimension_n}
use Rattle.sizes.specs.Basics.{pick}
use Rattle.grammar.specs.Layout.{passes}
use Rattle.grammar.specs.RecordWords.{word, sizes}
use Rattle.grammar.specs.Index.{product}
use Rattle.grammar.specs.Records.{dim_leaves}
use Rattle.grammar.specs.Member.{version, dimensions_section, cells_section, dimensions, dimensions_at, dimension_entries, cells, nodes, ns, places, cell_records, MemberDerivation, AsDemanded}
use Rattle.answer.specs.Demand3.{zeros}
use Rattle.answer.specs.Answer.{accepted}
use Rattle.total.specs.Total.{sums, leaf_sums}
use Rattle.total.specs.Answers.{answered, refused, there, leaf_answer_of}
use Rattle.total.specs.Laws.Words.{records_say, under_by}
use Rattle.grid.specs.Grid.{version_of, places_of, grid_of, there_of}
use Rattle.total.specs.Laws.Leaf.{word_sums, word_answer}
use Rattle.total.specs.Laws.LeafSums.{member_cells_lem, later_product, leaf_sums_lem}
use Rattle.total.specs.Laws.Dims.{sizes_are, sizes_from, size_at, version_is}

left_true : (a b : Bool) → (a && b) ≡ true → a ≡ true
left_true true b e = refl
left_true false b e = e

pub few_cells : {bs : List ℕ} (d : MemberDerivation bs) → length (cells d.tree) ≤ most_cells
unfolding passes
few_cells d = rw d.valid.1.2.1.2.0 (leb-true (cells_section d.tree).0 most_cells d.valid.1.2.1.1)

module _ {bs : List ℕ} (d : MemberDerivation bs) (dem : AsDemanded d.tree) where
  -- the words of the dimensions in an answer
  entries : List ℕ
  entries = dimension_entries d.tree ++ zeros (dimension_area - length (dimension_entries d.tree))

  count : ℕ
  count = length (dimensions d.tree)

  entries_say : sizes entries 0 count ≡ ns d.tree
  unfolding entries count
  entries_say = sizes_are (version d.tree) [] 0 0 (dimensions_at d.tree) (dimensions d.tree) (zeros (dimension_area - length (dimension_entries d.tree))) refl

  how_many : length (ns d.tree) ≡ count
  unfolding count
  how_many = length-map (dimensions d.tree) (λ x. length (dim_leaves (version d.tree) x))

  few : count ≤ most_dimensions
  unfolding count passes
  few = rw d.valid.1.2.0.0.1.2.0 (leb-true (dimensions_section d.tree).0 most_dimensions d.valid.1.2.0.0.1.1)

  -- the places of the dimensions from i on
  places_from : 0 < places d.tree → (i : ℕ) → i ≤ count → places_of entries count i ≡ product (drop i (ns d.tree))
  places_from h i l =
      let a : min i most_dimensions ≡ i = omega (arith, few) in
      let b : min (count - i) most_dimensions ≡ count - i = omega (arith, few) in
      let c : sizes entries i (count - i) ≡ drop i (ns d.tree) = sym (rw (zero-add i) at (sizes_from entries i 0 count)) ∙ ap (drop i) entries_say in
      rw (a, b, c) (min-eq_left (omega (arith, later_product i (ns d.tree) h, d.few_places)))

  n_is : (i : ℕ) → i < count → word entries (dimension_words * i + dimension_n) ≡ get_or (ns d.tree) i 0
  n_is i h = sym (rw (zero-add i) at (size_at entries i 0 count h)) ∙ ap (λ (l : List ℕ). get_or l i 0) entries_say

  there_is : (i leaf : ℕ) → there_of entries count i leaf ≡ there d.tree i leaf
  unfolding there_of count
  there_is i leaf = go (ltb i (length (dimensions d.tree))) refl
    where
      go : (b : Bool) → ltb i (length (dimensions d.tree)) ≡ b → (b && ltb leaf (word entries (dimension_words * i + dimension_n))) ≡ (b && ltb leaf (get_or (ns d.tree) i 0))
      go true e = rw (n_is i (ltb-true i (length (dimensions d.tree)) e))
      go false e = refl

  -- ---- sums

  sums_are : (i leaf : ℕ) (rest : List ℕ) → i < count
      → sums (under_by (places_of entries count i) (places_of entries count (i + 1)) leaf) (records_say bs (version_of bs) (cell_records d.tree ++ rest) 0 (min (length (cells d.tree)) most_cells))
      ≡ leaf_sums d.tree i leaf
  sums_are i leaf rest h =
      let next : i + 1 ≡ suc i = omega arith in
      rw (version_is d, min-eq_left (few_cells d), member_cells_lem d rest)
      (leaf_sums_lem d.tree dem i leaf (omega (arith, how_many)) (places_of entries count i) (places_of entries count (i + 1))
      (λ p. (places_from p i (omega arith), rw next (places_from p (suc i) (omega arith)))))

  -- ---- the answer

  pub leaf_is : (i leaf : ℕ) (rest : List ℕ) → word_answer bs (accepted d.tree) (cell_records d.tree ++ rest) i leaf ≡ leaf_answer_of d.tree i leaf
  unfolding word_answer word_sums grid_of leaf_answer_of accepted entries count pick
  leaf_is i leaf rest = rw (there_is i leaf) (go (there d.tree i leaf) refl)
    where
      n : ℕ
      n = nodes d.tree

      m : ℕ
      m = length (cells d.tree)

      go : (b : Bool) → there d.tree i leaf ≡ b → pick b (answered n m (word_sums bs (accepted d.tree) (cell_records d.tree ++ rest) i leaf)) (refused 19 0 0 0)
          ≡ pick b (answered n m (leaf_sums d.tree i leaf)) (refused 19 0 0 0)
      go true e = ap (answered n m) (sums_are i leaf rest (ltb-true i (length (dimensions d.tree)) (left_true (ltb i (length (dimensions d.tree))) (ltb leaf (get_or (ns d.tree) i 0)) e)))
      go false e = refl

  -- the number of leaves of a dimension
  pub n_of : (i : ℕ) → i < length (dimensions d.tree) → word (accepted d.tree).dimensions (dimension_words * i + dimension_n) ≡ get_or (ns d.tree) i 0
  unfolding accepted entries count
  n_of i h = n_is i h

  -- and so is what it answers for each leaf that is there
  pub row_is : (i leaf : ℕ) (rest : List ℕ) → i < length (dimensions d.tree) → leaf < get_or (ns d.tree) i 0
      → answered (nodes d.tree) (length (cells d.tree)) (word_sums bs (accepted d.tree) (cell_records d.tree ++ rest) i leaf) ≡ leaf_answer_of d.tree i leaf
  unfolding word_sums grid_of leaf_answer_of accepted entries count pick
  row_is i leaf rest h l =
      rw (lt-ltb i (length (dimensions d.tree)) h, lt-ltb leaf (get_or (ns d.tree) i 0) l) (ap (answered (nodes d.tree) (length (cells d.tree))) (sums_are i leaf rest h))
