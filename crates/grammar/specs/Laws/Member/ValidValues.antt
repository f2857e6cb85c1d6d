-- The Values of a derivation that are handed out, names of nodes and dimensions and Values of cells, are derivations themselves.
use Prim.Native.Nat.{ℕ, zero, suc}
use mathlib.Core.List.{List, map}
use Rattle.sizes.specs.Sizes.{category_depth}
use Rattle.grammar.specs.Layout.{Tree, All, all_none, all_more, Valid}
use Rattle.grammar.specs.Laws.Layout.Strings.{all_flat}
use Rattle.grammar.specs.Value.{Value, CellValue}
use Rattle.grammar.specs.Table.{CategoryIn, Dimension}
use Rattle.grammar.specs.Records.{dim_name, cell_value, tree_names, category_names}
use Rattle.grammar.specs.Member.{Member, version, node_names, dimension_names, cell_values}

all_map : {A B : Type 0} {P : A → Type 0} {Q : B → Type 0} (f : A → B) → ((x : A) → P x → Q (f x)) → {xs : List A} → All P xs → All Q (map f xs)
unfolding map
all_map f one all_none = all_none
all_map f one (all_more {x} h hs) = all_more (one x h) (all_map f one hs)

module _ (version : ℕ) where
  tree_valid : (d : ℕ) (t : Tree (CategoryIn version d)) → Valid (CategoryIn version d) t → All (Valid (Value version)) (tree_names version d t)
  unfolding tree_names
  tree_valid zero t v = absurd v
  tree_valid (suc d) (m, (zero, t)) v = all_more v.0 (all_flat (tree_valid d) all_none)
  tree_valid (suc d) (m, (suc k, (t, (n, ts)))) v = all_more v.0 (all_flat (tree_valid d) v.1.2.1.2.1)

  categories_valid : (t : Tree (Dimension version)) → Valid (Dimension version) t → All (Valid (Value version)) (category_names version t)
  unfolding category_names
  categories_valid t v = all_flat (tree_valid category_depth) v.1.2.1

module _ (t : Tree Member) (v : Valid Member t) where
  pub nodes_valid : All (Valid (Value (version t))) (node_names t)
  nodes_valid = all_flat (categories_valid (version t)) v.1.2.0.0.1.2.1

  pub dimensions_valid : All (Valid (Value (version t))) (dimension_names t)
  dimensions_valid = all_map (dim_name (version t)) (λ d w. w.0.0) v.1.2.0.0.1.2.1

  pub cells_valid : All (Valid (CellValue (version t))) (cell_values t)
  cells_valid = all_map (cell_value (version t)) (λ c w. w.1) v.1.2.1.2.1
