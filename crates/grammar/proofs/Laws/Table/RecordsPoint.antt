-- What the records of derivations point to: the place and the length in each are those of a Value, which the bytes there spell.
use Rattle.std.specs.Prelude.{◌≡◌}
use Rattle.std.proofs.Math.Path.{refl}
use Rattle.std.proofs.Common.{ap, ◌∙◌}
use mathlib.Core.List.{List, [], ◌∷◌, ◌++◌, append_assoc, flat_map}
use Prim.Native.Nat.{ℕ, zero, suc, ◌+◌}
use Rattle.std.proofs.Math.ListN.{length, drop}
use Rattle.sizes.specs.Sizes.{category_depth, node_words, no_parent, name_place, name_length}
use Rattle.grammar.specs.Layout.{little, one_of, empty, number, ◌▸◌, Tree, digits, spell_all, spell, size}
use Rattle.grammar.specs.Laws.Layout.Spelt.{after}
use Rattle.grammar.specs.Value.{Value}
use Rattle.grammar.specs.Table.{kinds, KindOf, CategoryIn, DimProperties, Dimension, Category}
use Rattle.grammar.specs.Records.{Head, front, children, nodes, node_words_of, tree_words, dim_nodes, dim_words, dims_words, dim_own, dim_categories, tree_names, category_names}
use Rattle.grammar.specs.Laws.Table.Lengths.{spell_category}
use Rattle.grammar.specs.Laws.Table.RecordsPoint.{after_digits, first_of, rest_of, Points, Pointing, no_records, one_record, joined, first_points, all_point, own_part}

module _ (version : ℕ) where
  node_point : (s : List ℕ) (at : ℕ) (h : Tree (Head version)) (r : List ℕ) → drop at s ≡ spell (Head version) h ++ r → Points (Value version) s at (size (Value version) h.0) h.0
  node_point s at h r e = first_points version s at (number little 3 (one_of kinds) (KindOf (λ _. empty))) h r e

  tree_point : (s : List ℕ) (d dim par used at : ℕ) (t : Tree (CategoryIn version d)) (r : List ℕ) → drop at s ≡ spell (CategoryIn version d) t ++ r
      → Pointing (Value version) s node_words name_place name_length (tree_words version d dim par used at t) (tree_names version d t)
  unfolding tree_words tree_names size
  tree_point s zero dim par used at t r e = no_records
  tree_point s (suc d) dim par used at t r e =
      let below = spell_all (spell (CategoryIn version d)) (children version d t) in
      let h : drop at s ≡ spell (Head version) (front version d t) ++ (below ++ r) = e ∙ (ap (λ (xs : List ℕ). xs ++ r) (spell_category version d t) ∙ append_assoc (spell (Head version) (front version d t)) below r) in
      one_record (node_words_of version dim par at (nodes version (suc d) t) (front version d t)) refl (node_point s at (front version d t) (below ++ r) h)
      (all_point version s (CategoryIn version d) (tree_names version d) (nodes version d) (tree_words version d dim used) (λ u a x q k. tree_point s d dim used u a x q k)
      (used + 1) (at + size (Head version) (front version d t)) (children version d t) r (after s at (spell (Head version) (front version d t)) (below ++ r) h))

  dim_point : (s : List ℕ) (i used at : ℕ) (t : Tree (Dimension version)) (r : List ℕ) → drop at s ≡ spell (Dimension version) t ++ r → Pointing (Value version) s node_words name_place name_length (dim_words version i used at t) (category_names version t)
  unfolding dim_words category_names size
  dim_point s i used at t r e =
      let own = spell ((Value version) ▸ DimProperties) (dim_own version t) in
      let below = spell_all (spell (Category version)) (dim_categories version t) in
      all_point version s (Category version) (tree_names version category_depth) (nodes version category_depth) (tree_words version category_depth i no_parent) (λ u a x q k. tree_point s category_depth i no_parent u a x q k)
      used (at + size ((Value version) ▸ DimProperties) (dim_own version t) + 4) (dim_categories version t) r
      (after_digits s (at + length own) little 4 t.1.0 (below ++ r) (after s at own (digits little 4 t.1.0 ++ (below ++ r)) (own_part version s at t r e)))

  -- the node records of dimensions that follow each other
  pub dims_point : (s : List ℕ) (i used at : ℕ) (ts : List (Tree (Dimension version))) (r : List ℕ) → drop at s ≡ spell_all (spell (Dimension version)) ts ++ r
      → Pointing (Value version) s node_words name_place name_length (dims_words version i used at ts) (flat_map (category_names version) ts)
  unfolding dims_words flat_map
  dims_point s i used at [] r e = no_records
  dims_point s i used at (t ∷ ts) r e =
      joined (dim_point s i used at t (spell_all (spell (Dimension version)) ts ++ r) (first_of (Dimension version) s at t ts r e))
      (dims_point s (i + 1) (used + (dim_nodes version) t) (at + size (Dimension version) t) ts r (rest_of (Dimension version) s at t ts r e))
