-- Document 02, T-07: "A node's descendants are then exactly the records directly after it, that many less one."
use Rattle.std.specs.Prelude.{◌≡◌, refl, length, get_or}
use Rattle.std.proofs.Common.{sym, ap, ◌∙◌, get_or-drop}
use mathlib.Core.List.{List, [], ◌∷◌, ◌++◌, append_assoc}
use Prim.Native.Nat.{ℕ, zero, suc, ◌+◌, ◌*◌}
use native.Mathlib.Omega.{arith}
use Rattle.std.proofs.Math.ListN.{drop}
use Rattle.sizes.specs.Sizes.{category_depth, node_words, node_parent, node_size, no_parent}
use Rattle.grammar.specs.Layout.{◌▸◌, Tree, size}
use Rattle.grammar.specs.Laws.Layout.Spelt.{after}
use Rattle.grammar.specs.Value.{Value}
use Rattle.grammar.specs.Table.{CategoryIn, DimProperties, Dimension, Category}
use Rattle.grammar.specs.Records.{Head, front, children, sum, nodes, words_all, node_words_of, tree_words, dim_nodes, dim_words, dims_words, dim_own, dim_categories}
use Rattle.grammar.specs.Laws.Table.Words.{width_tree}
use Rattle.grammar.specs.Laws.Table.Words.{width_dim}
use Rattle.grammar.specs.Laws.Table.Groups.{Groups, no_groups, one_group}

-- words that stand at node `used`, and others after them
word_there : (ws : List ℕ) (used : ℕ) {xs : List ℕ} → drop (node_words * used) ws ≡ xs → (k : ℕ) → get_or ws (node_words * used + k) 0 ≡ get_or xs k 0
word_there ws used e k = sym (get_or-drop (node_words * used) ws k 0) ∙ ap (λ (l : List ℕ). get_or l k 0) e

words_after : (ws : List ℕ) (used n : ℕ) (xs ys : List ℕ) → drop (node_words * used) ws ≡ xs ++ ys → length xs ≡ node_words * n → drop (node_words * (used + n)) ws ≡ ys
words_after ws used n xs ys e l =
    let z : node_words * used + length xs ≡ node_words * (used + n) = omega arith in
    rw z at (after ws (node_words * used) xs ys e)

module _ (ws : List ℕ) (par : ℕ) {A : Type 0} (count size : A → ℕ) (words : ℕ → ℕ → A → List ℕ) (width : (used at : ℕ) (t : A) → length (words used at t) ≡ node_words * count t)
    (each : (used at : ℕ) (t : A) (r : List ℕ) → drop (node_words * used) ws ≡ words used at t ++ r → (e : ℕ) → Groups ws par (used + count t) e → Groups ws par used e) where
  all_groups : (used at : ℕ) (ts : List A) (r : List ℕ) → drop (node_words * used) ws ≡ words_all count size words used at ts ++ r
      → (e : ℕ) → Groups ws par (used + sum count ts) e → Groups ws par used e
  unfolding words_all sum
  all_groups used at [] r h e g = let z : used + 0 ≡ used = omega arith in rw z at g
  all_groups used at (t ∷ ts) r h e g =
      let others = words_all count size words (used + count t) (at + size t) ts in
      let h' : drop (node_words * used) ws ≡ words used at t ++ (others ++ r) = h ∙ append_assoc (words used at t) others r in
      let z : used + (count t + sum count ts) ≡ used + count t + sum count ts = omega arith in
      each used at t (others ++ r) h' e
      (all_groups (used + count t) (at + size t) ts r (words_after ws used (count t) (words used at t) (others ++ r) h' (width used at t)) e (rw z at g))

module _ (version : ℕ) where
  tree_groups : (ws : List ℕ) (d dim par used at : ℕ) (t : Tree (CategoryIn version d)) (r : List ℕ) → drop (node_words * used) ws ≡ tree_words version d dim par used at t ++ r
      → (e : ℕ) → Groups ws par (used + (nodes version) d t) e → Groups ws par used e
  unfolding tree_words nodes
  tree_groups ws zero dim par used at t r h e g = let z : used + 0 ≡ used = omega arith in rw z at g
  tree_groups ws (suc d) dim par used at t r h e g =
      let ts = children version d t in
      let own = node_words_of version dim par at (1 + sum (nodes version d) ts) (front version d t) in
      let others = words_all (nodes version d) (size (CategoryIn version d)) (tree_words version d dim used) (used + 1) (at + size (Head version) (front version d t)) ts in
      let h' : drop (node_words * used) ws ≡ own ++ (others ++ r) = h ∙ append_assoc own others r in
      let z : used + 1 + sum (nodes version d) ts ≡ used + (1 + sum (nodes version d) ts) = omega arith in
      one_group (word_there ws used h' node_parent) (ap (λ (n : ℕ). used + n) (word_there ws used h' node_size))
      (all_groups ws used (nodes version d) (size (CategoryIn version d)) (tree_words version d dim used) (width_tree version d dim used) (tree_groups ws d dim used)
      (used + 1) (at + size (Head version) (front version d t)) ts r (words_after ws used 1 own (others ++ r) h' refl) _ (rw z no_groups))
      g

  dim_groups : (ws : List ℕ) (i used at : ℕ) (t : Tree (Dimension version)) (r : List ℕ) → drop (node_words * used) ws ≡ dim_words version i used at t ++ r
      → (e : ℕ) → Groups ws no_parent (used + (dim_nodes version) t) e → Groups ws no_parent used e
  unfolding dim_words dim_nodes
  dim_groups ws i used at t =
      all_groups ws no_parent (nodes version category_depth) (size (Category version)) (tree_words version category_depth i no_parent) (width_tree version category_depth i no_parent) (tree_groups ws category_depth i no_parent)
      used (at + size ((Value version) ▸ DimProperties) (dim_own version t) + 4) (dim_categories version t)

  -- dimensions make no difference: the categories of each have no parent
  pub dims_groups : (ws : List ℕ) (i used at : ℕ) (ts : List (Tree (Dimension version))) (r : List ℕ) → drop (node_words * used) ws ≡ dims_words version i used at ts ++ r → Groups ws no_parent used (used + sum (dim_nodes version) ts)
  unfolding dims_words sum
  dims_groups ws i used at [] r h = let z : used + 0 ≡ used = omega arith in rw z no_groups
  dims_groups ws i used at (t ∷ ts) r h =
      let others = dims_words version (i + 1) (used + (dim_nodes version) t) (at + size (Dimension version) t) ts in
      let h' : drop (node_words * used) ws ≡ dim_words version i used at t ++ (others ++ r) = h ∙ append_assoc (dim_words version i used at t) others r in
      let z : used + (dim_nodes version t + sum (dim_nodes version) ts) ≡ used + (dim_nodes version) t + sum (dim_nodes version) ts = omega arith in
      dim_groups ws i used at t (others ++ r) h' _
      (rw z (dims_groups ws (i + 1) (used + (dim_nodes version) t) (at + size (Dimension version) t) ts r (words_after ws used (dim_nodes version t) (dim_words version i used at t) (others ++ r) h' (width_dim version i used at t))))
