-- What the rules of dimensions, axes and cells ask of a tree, in the words of demand 3: the number of nodes, leaf indexes, axis entries and
-- cell indexes that stand once each, the sum of the axis counts, the product. No reader is in it.
use Rattle.std.specs.Prelude.{◌≡◌, ◌↔◌, length}
use Rattle.std.proofs.Math.Option.{none}
use mathlib.Core.List.{List, [], ◌∷◌}
use Prim.Native.Nat.{ℕ, zero, suc, ◌+◌, ◌≤◌}
use native.Mathlib.Omega.{arith}
use borrow.Author.Tests.{ltb-true, lt-ltb}
use Rattle.sizes.specs.Sizes.{most_nodes, category_depth}
use Rattle.grammar.specs.Layout.{Tree, All, all_none, all_more}
use Rattle.grammar.specs.Rule.{KeptAll, Kept}
use Rattle.grammar.specs.Once.{first_bad}
use Rattle.grammar.specs.Laws.Once.{none_bad}
use Rattle.grammar.specs.Table.{CategoryIn, Dimension, Dimensions, Category}
use Rattle.grammar.specs.Records.{sum, nodes, dim_nodes, LeavesOnce, dim_categories, dims_of}
use Rattle.grammar.specs.Rules.{category_rule, leaves_of, dimension_rule, dimensions_rule}
use Rattle.grammar.specs.Laws.Table.KeptTable.{indexes_are, leaf_count}

-- trees that follow each other, each of which passes exactly when Q holds of it and the nodes up to its end are at most `most_nodes`
module _ {A : Type 0} (count : A → ℕ) (Q : A → Type 0) (P : List A → A → Type 0) (used : ℕ)
    (one : (done : List A) (t : A) → used + sum count done ≤ most_nodes → P done t ↔ ((used + sum count done + count t ≤ most_nodes) × Q t)) where
  few : (done ts : List A) → used + sum count done ≤ most_nodes → KeptAll P done ts → (used + sum count done + sum count ts ≤ most_nodes) × All Q ts
  unfolding sum
  few done [] l k = (omega arith, all_none)
  few done (t ∷ ts) l k =
      let h = (one done t l).0 k.0 in
      let i = few (t ∷ done) ts (omega (arith, h.0)) k.1 in
      (omega (arith, i.0), all_more h.1 i.1)

  so_few : (done ts : List A) → used + sum count done + sum count ts ≤ most_nodes → All Q ts → KeptAll P done ts
  unfolding sum
  so_few done [] l a = tt
  so_few done (t ∷ ts) l (all_more q a) = ((one done t (omega arith)).1 (omega arith, q), so_few (t ∷ done) ts (omega arith) a)

-- nothing is asked
anything : {A : Type 0} (ts : List A) → All (λ _. Unit {0}) ts
anything [] = all_none
anything (t ∷ ts) = all_more tt (anything ts)

module _ (version : ℕ) where
  -- Nodes: a category after `used` others passes exactly when the nodes up to its end are at most `most_nodes`
  category_kept : (d used : ℕ) (t : Tree (CategoryIn version d)) → Kept (category_rule version d used) t ↔ (used + (nodes version) d t ≤ most_nodes)
  unfolding category_rule nodes sum
  category_kept zero used t = absurd t
  category_kept (suc d) used (m, (zero, t)) = (
    λ k. omega (arith, ltb-true used most_nodes k.0),
    λ l. (lt-ltb used most_nodes (omega arith), (tt, tt)),
  )
  category_kept (suc d) used (m, (suc k, (t, (n, ts)))) =
      let one : (done : List (Tree (CategoryIn version d))) (c : Tree (CategoryIn version d)) → used + 1 + sum (nodes version d) done ≤ most_nodes
      → Kept (category_rule version d (used + 1 + sum (nodes version d) done)) c ↔ ((used + 1 + sum (nodes version d) done + (nodes version) d c ≤ most_nodes) × Unit {0}) =
      λ done c _. let h = category_kept d (used + 1 + sum (nodes version d) done) c in (λ k. (h.0 k, tt), λ l. h.1 l.0) in
      let P : List (Tree (CategoryIn version d)) → Tree (CategoryIn version d) → Type 0 = λ done c. Kept (category_rule version d (used + 1 + sum (nodes version d) done)) c in (
        λ k. let l = ltb-true used most_nodes k.0 in
            omega (arith, (few (nodes version d) (λ _. Unit {0}) P (used + 1) one [] ts (omega arith) k.1.1.1).0),
        λ l. (lt-ltb used most_nodes (omega arith), (tt, (tt, so_few (nodes version d) (λ _. Unit {0}) P (used + 1) one [] ts (omega arith) (anything ts)))),
      )

  -- Leaves: no place is wrong exactly when the n leaf indexes are 0 to n-1, once each
  leaves_once : (t : Tree (Dimension version)) → (first_bad (length (leaves_of version t)) [] (leaves_of version t) ≡ none) ↔ (LeavesOnce version) t
  leaves_once t =
      let n = leaf_count version t in
      let bad = none_bad (length (leaves_of version t)) (leaves_of version t) in (
        λ e. rw (indexes_are version t, n) at (bad.0 e),
        λ o. bad.1 (rw (indexes_are version t, n) o),
      )

  dimension_kept : (used : ℕ) (t : Tree (Dimension version)) → used ≤ most_nodes → Kept (dimension_rule version used) t ↔ ((used + (dim_nodes version) t ≤ most_nodes) × LeavesOnce version t)
  unfolding dimension_rule dim_nodes sum
  dimension_kept used t l =
      let P : List (Tree (Category version)) → Tree (Category version) → Type 0 = λ done c. Kept (category_rule version category_depth (used + sum (nodes version category_depth) done)) c in
      let one : (done : List (Tree (Category version))) (c : Tree (Category version)) → used + sum (nodes version category_depth) done ≤ most_nodes
      → P done c ↔ ((used + sum (nodes version category_depth) done + (nodes version) category_depth c ≤ most_nodes) × Unit {0}) =
      λ done c _. let h = category_kept category_depth (used + sum (nodes version category_depth) done) c in (λ k. (h.0 k, tt), λ m. h.1 m.0) in (
        λ k. (omega (arith, (few (nodes version category_depth) (λ _. Unit {0}) P used one [] (dim_categories version t) (omega arith) k.0.1).0), (leaves_once t).0 k.1),
        λ m. let n = m.0 in
            ((tt, so_few (nodes version category_depth) (λ _. Unit {0}) P used one [] (dim_categories version t) (omega arith) (anything (dim_categories version t))), (leaves_once t).1 m.1),
      )

  -- Dimensions: at most `most_nodes` nodes in all, and the leaf indexes of each once each
  pub dimensions_kept : (t : Tree (Dimensions version)) → Kept (dimensions_rule version) t ↔ ((sum (dim_nodes version) (dims_of version t) ≤ most_nodes) × All (LeavesOnce version) (dims_of version t))
  unfolding dimensions_rule sum
  dimensions_kept t =
      let P : List (Tree (Dimension version)) → Tree (Dimension version) → Type 0 = λ done d. Kept (dimension_rule version (sum (dim_nodes version) done)) d in
      let one : (done : List (Tree (Dimension version))) (d : Tree (Dimension version)) → 0 + sum (dim_nodes version) done ≤ most_nodes
      → P done d ↔ ((0 + sum (dim_nodes version) done + (dim_nodes version) d ≤ most_nodes) × LeavesOnce version d) =
      λ done d l. let h = dimension_kept (sum (dim_nodes version) done) d (omega arith) in
      (λ k. let m = h.0 k in (omega (arith, m.0), m.1), λ m. h.1 (omega (arith, m.0), m.1)) in (
        λ k. let m = few (dim_nodes version) (LeavesOnce version) P 0 one [] (dims_of version t) (omega arith) k in (omega (arith, m.0), m.1),
        λ m. so_few (dim_nodes version) (LeavesOnce version) P 0 one [] (dims_of version t) (omega (arith, m.0)) m.1,
      )
