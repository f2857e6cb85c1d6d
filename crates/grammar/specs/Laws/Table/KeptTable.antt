-- What the rules of dimensions, axes and cells ask of a tree, in the words of demand 3: the number of nodes, leaf indexes, axis entries and
-- cell indexes that stand once each, the sum of the axis counts, the product. No reader is in it.
use Rattle.std.specs.Prelude.{◌≡◌, ◌↔◌, Bool, true, false, length}
use Rattle.std.proofs.Math.Path.{refl, ap}
use Rattle.std.proofs.Common.{sym, ◌∙◌}
use Rattle.std.proofs.Math.Option.{none, some}
use mathlib.Core.List.{List, [], ◌∷◌, ◌++◌, map}
use Prim.Native.Nat.{ℕ, zero, suc, ◌+◌, ◌≤◌}
use native.Mathlib.Omega.{arith}
use Rattle.std.proofs.lemmas.List.{length-map}
use borrow.Author.Tests.{leb-true, le-leb, eqb-true, eq-eqb}
use Rattle.sizes.specs.Sizes.{category_depth, most_places}
use Rattle.sizes.specs.Basics.{pick}
use Rattle.grammar.specs.Layout.{◌▸◌, Tree, spell_all, size}
use Rattle.grammar.specs.Conventions.{int32}
use Rattle.grammar.specs.Rule.{onto, KeptAll, Kept}
use Rattle.grammar.specs.Once.{OnceEach, AllFresh, Leaf, indexes, fresh}
use Rattle.grammar.specs.Laws.Once.{all_fresh}
use Rattle.grammar.specs.Value.{Value}
use Rattle.grammar.specs.Table.{CategoryIn, DimProperties, Dimension, Axes, Cell, Cells, Category}
use Rattle.grammar.specs.Records.{Head, leaf_indexes, dim_leaves, entry_index, cell_index, leaf_index_of, dim_own, dim_categories, axis_layers, axis_rows, axis_columns, axis_entries, cells_of}
use Rattle.grammar.specs.Rules.{leaves_all, tree_leaves, leaves_of, places_of, entry_rule, axes_rule, cell_rule, cells_rule}

-- ---- the number of nodes

-- ---- leaves

indexes_joined : (xs ys : List Leaf) → indexes (xs ++ ys) ≡ indexes xs ++ indexes ys
indexes_joined [] ys = refl
indexes_joined (x ∷ xs) ys = ap (λ (l : List ℕ). x.0 ∷ l) (indexes_joined xs ys)

indexes_all : {A : Type 0} (size : A → ℕ) (f : ℕ → A → List Leaf) (g : A → List ℕ) → ((at : ℕ) (t : A) → indexes (f at t) ≡ g t)
    → (at : ℕ) (ts : List A) → indexes (leaves_all size f at ts) ≡ spell_all g ts
unfolding leaves_all spell_all
indexes_all size f g h at [] = refl
indexes_all size f g h at (t ∷ ts) =
    indexes_joined (f at t) (leaves_all size f (at + size t) ts) ∙ rw (h at t, indexes_all size f g h (at + size t) ts)

-- ---- numbers that stand once each

module _ {A : Type 0} (P : List A → A → Type 0) where
  onto_joined : (done xs ys : List A) → onto done (xs ++ ys) ≡ onto (onto done xs) ys
  onto_joined done [] ys = refl
  onto_joined done (x ∷ xs) ys = onto_joined (x ∷ done) xs ys

  -- some, and then others after them
  kept_joined : (done xs ys : List A) → KeptAll P done (xs ++ ys) ↔ (KeptAll P done xs × KeptAll P (onto done xs) ys)
  kept_joined done [] ys = (λ k. (tt, k), λ k. k.1)
  kept_joined done (x ∷ xs) ys =
      let h = kept_joined (x ∷ done) xs ys in
      (λ k. let m = h.0 k.1 in ((k.0, m.0), m.1), λ k. (k.0.0, h.1 (k.0.1, k.1)))

  -- those before may be counted apart
  kept_apart : (before done ts : List A) → KeptAll (λ done t. P (done ++ before) t) done ts ↔ KeptAll P (done ++ before) ts
  kept_apart before done [] = (λ k. k, λ k. k)
  kept_apart before done (t ∷ ts) =
      let h = kept_apart before (t ∷ done) ts in
      (λ k. (k.0, h.0 k.1), λ k. (k.0, h.1 k.1))

  module _ (n : ℕ) (x : A → ℕ) (one : (done : List A) (t : A) → P done t ↔ (fresh n (map x done) (x t) ≡ true)) where
    fresh_kept : (done ts : List A) → KeptAll P done ts ↔ AllFresh n (map x done) (map x ts)
    fresh_kept done [] = (λ k. k, λ k. k)
    fresh_kept done (t ∷ ts) =
        let h = fresh_kept (t ∷ done) ts in
        (λ k. ((one done t).0 k.0, h.0 k.1), λ k. ((one done t).1 k.0, h.1 k.1))

    -- each is fresh in its turn exactly when they stand once each
    once_kept : (ts : List A) → KeptAll P [] ts ↔ OnceEach n (map x ts)
    once_kept ts =
        let h = fresh_kept [] ts in
        let a = all_fresh n (map x ts) in
        (λ k. a.0 (h.0 k), λ o. h.1 (a.1 o))

by_test : (b : Bool) (q : ℕ) → (pick b none (some q) ≡ none) ↔ (b ≡ true)
unfolding pick
by_test true q = (λ _. refl, λ _. refl)
by_test false q = (λ e. absurd (let z : ◌≡◌ {A = ℕ} 0 1 = cc in omega arith), λ e. absurd (let z : ◌≡◌ {A = ℕ} 0 1 = cc in omega arith))

-- ---- axes

abbrev EntryKept : ℕ → List (Tree int32) → Tree int32 → Type 0
EntryKept d done t = Kept (entry_rule d done) t

entry_kept : (d : ℕ) (done : List (Tree int32)) (t : Tree int32) → EntryKept d done t ↔ (fresh d (map entry_index done) (entry_index t) ≡ true)
unfolding entry_rule
entry_kept d done t =
    let h = by_test (fresh d (map entry_index done) (entry_index t)) 0 in
    (λ k. h.0 k.1, λ e. (tt, h.1 e))

-- the three groups are one list of entries
three_kept : (d : ℕ) (ls rs cs : List (Tree int32))
    → ((KeptAll (EntryKept d) [] ls × KeptAll (λ done t. EntryKept d (done ++ onto [] ls) t) [] rs)
    × KeptAll (λ done t. EntryKept d (done ++ onto (onto [] ls) rs) t) [] cs)
    ↔ OnceEach d (map entry_index (ls ++ rs ++ cs))
three_kept d ls rs cs =
    let P = EntryKept d in
    let two = kept_joined P [] ls rs in
    let three = kept_joined P [] (ls ++ rs) cs in
    let r = kept_apart P (onto [] ls) [] rs in
    let c = kept_apart P (onto (onto [] ls) rs) [] cs in
    let o = once_kept P d entry_index (entry_kept d) (ls ++ rs ++ cs) in
    let e = onto_joined P [] ls rs in (
      λ k. o.0 (three.1 (two.1 (k.0.0, r.0 k.0.1), rw e (c.0 k.1))),
      λ m. let k = three.0 (o.1 m) in
          let l = two.0 k.0 in
          ((l.0, r.1 l.1), c.1 (rw e at k.1)),
    )

module _ (version : ℕ) where
  indexes_tree : (d at : ℕ) (t : Tree (CategoryIn version d)) → indexes (tree_leaves version d at t) ≡ leaf_indexes version d t
  unfolding tree_leaves leaf_indexes
  indexes_tree zero at t = refl
  indexes_tree (suc d) at (m, (zero, t)) =
      ap (λ (l : List ℕ). leaf_index_of t ∷ l)
      (indexes_all (size (CategoryIn version d)) (tree_leaves version d) (leaf_indexes version d) (indexes_tree d) (at + size (Head version) (m, (zero, t))) [])
  indexes_tree (suc d) at (m, (suc k, (t, (n, ts)))) =
      indexes_all (size (CategoryIn version d)) (tree_leaves version d) (leaf_indexes version d) (indexes_tree d) (at + size (Head version) (m, (suc k, (t, (n, tt))))) ts

  -- the leaves that are tested are the dimension's
  pub indexes_are : (t : Tree (Dimension version)) → indexes (leaves_of version t) ≡ dim_leaves version t
  unfolding leaves_of dim_leaves
  indexes_are t = indexes_all (size (Category version)) (tree_leaves version category_depth) (leaf_indexes version category_depth) (indexes_tree category_depth) (size ((Value version) ▸ DimProperties) (dim_own version t) + 4) (dim_categories version t)

  -- n of a dimension is their number
  pub leaf_count : (t : Tree (Dimension version)) → length (leaves_of version t) ≡ length (dim_leaves version t)
  leaf_count t = sym (length-map (leaves_of version t) (λ l. l.0)) ∙ ap length (indexes_are t)

  -- ---- dimensions

  -- Axes: the product is at most `most_places`, the counts add up, each dimension is named once
  pub axes_kept : (ts : List (Tree (Dimension version))) (t : Tree Axes)
      → Kept (axes_rule version ts) t
      ↔ ((places_of version ts ≤ most_places)
      × (axis_layers t + axis_rows t + axis_columns t ≡ length ts)
      × OnceEach (length ts) (map entry_index (axis_entries t)))
  unfolding axes_rule
  axes_kept ts t =
      let e = t.1.1.1 in
      let h = three_kept (length ts) e.0.0 e.0.1 e.1 in (
        λ k. (leb-true (places_of version ts) most_places k.0, eqb-true (axis_layers t + axis_rows t + axis_columns t) (length ts) k.1.0, h.0 k.1.1),
        λ m. (le-leb (places_of version ts) most_places m.0, (eq-eqb (axis_layers t + axis_rows t + axis_columns t) (length ts) m.1, h.1 m.2)),
      )

  -- ---- cells

  cell_kept : (n : ℕ) (done : List (Tree (Cell version))) (t : Tree (Cell version)) → Kept (cell_rule version n done) t ↔ (fresh n (map (cell_index version) done) (cell_index version t) ≡ true)
  unfolding cell_rule
  cell_kept n done t =
      let h = by_test (fresh n (map (cell_index version) done) (cell_index version t)) 0 in
      (λ k. h.0 k.0.1, λ e. ((tt, h.1 e), tt))

  -- Cells: each is inside the table of n places, and no index stands twice
  pub cells_kept : (n : ℕ) (t : Tree (Cells version)) → Kept (cells_rule version n) t ↔ OnceEach n (map (cell_index version) (cells_of version t))
  unfolding cells_rule
  cells_kept n t = once_kept (λ done c. Kept (cell_rule version n done) c) n (cell_index version) (cell_kept n) (cells_of version t)
