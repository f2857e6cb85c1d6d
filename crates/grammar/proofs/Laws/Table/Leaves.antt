-- The leaves that the node words give are those of the derivations, with the same indexes at the same places.
use Rattle.std.specs.Prelude.{◌≡◌, drop, get_or, eqb}
use Rattle.std.proofs.Math.Path.{refl}
use Rattle.std.proofs.Common.{sym, ap, ◌∙◌, get_or-drop, drop-drop}
use mathlib.Core.List.{List, [], ◌∷◌, ◌++◌, append_assoc, append-nil}
use Prim.Native.Nat.{ℕ, zero, suc, ◌+◌, ◌-◌, ◌*◌, ◌≤◌, min}
use native.Mathlib.Omega.{arith}
use Rattle.std.proofs.Math.ListN.{length}
use Rattle.std.proofs.lemmas.List.Edits.{sets}
use Rattle.sizes.specs.Sizes.{most_nodes, category_depth, node_words, name_place, name_length, leaf_index, name_to_index}
use Rattle.sizes.specs.Basics.{pick}
use Rattle.grammar.specs.Layout.{Tree, size}
use Rattle.grammar.specs.RecordWords.{word, leaf, is_leaf, leaves}
use Rattle.grammar.specs.Once.{Leaf}
use Rattle.grammar.specs.Value.{Value}
use Rattle.grammar.specs.Table.{CategoryIn, Category}
use Rattle.grammar.specs.Records.{Head, sum, nodes, words_all, tree_words}
use Rattle.grammar.specs.Rules.{leaves_all, tree_leaves}
use Rattle.grammar.specs.Laws.Table.Words.{drop_sets, width_all, width_tree}
use Rattle.grammar.specs.Laws.Table.Leaves.{further}

unfoldable leaves_from : ℕ → List ℕ → List Leaf
leaves_from zero ws = []
leaves_from (suc k) ws =
    pick (eqb (get_or ws 0 0) 0) ((get_or ws leaf_index 0, get_or ws name_place 0 + get_or ws name_length 0 + name_to_index) ∷ leaves_from k (drop node_words ws)) (leaves_from k (drop node_words ws))

leaves_from_lem : (ms : List ℕ) (i k : ℕ) → leaves ms i k ≡ leaves_from k (drop (node_words * i) ms)
unfolding leaves leaves_from leaf is_leaf word
leaves_from_lem ms i zero = refl
leaves_from_lem ms i (suc k) =
    let e₀ : get_or ms (node_words * i) 0 ≡ get_or (drop (node_words * i) ms) 0 0 = let z : node_words * i + 0 ≡ node_words * i = omega arith in ap (λ (n : ℕ). get_or ms n 0) (sym z) ∙ sym (get_or-drop (node_words * i) ms 0 0) in
    let e₃ : get_or ms (node_words * i + name_place) 0 ≡ get_or (drop (node_words * i) ms) name_place 0 = sym (get_or-drop (node_words * i) ms name_place 0) in
    let e₄ : get_or ms (node_words * i + name_length) 0 ≡ get_or (drop (node_words * i) ms) name_length 0 = sym (get_or-drop (node_words * i) ms name_length 0) in
    let e₅ : get_or ms (node_words * i + leaf_index) 0 ≡ get_or (drop (node_words * i) ms) leaf_index 0 = sym (get_or-drop (node_words * i) ms leaf_index 0) in
    let next : node_words * (i + 1) ≡ node_words * i + node_words = omega arith in
    let e₆ : drop (node_words * (i + 1)) ms ≡ drop node_words (drop (node_words * i) ms) = ap (λ (n : ℕ). drop n ms) next ∙ sym (drop-drop node_words (node_words * i) ms) in
    let ih : leaves ms (i + 1) k ≡ leaves_from k (drop node_words (drop (node_words * i) ms)) = leaves_from_lem ms (i + 1) k ∙ ap (λ (l : List ℕ). leaves_from k l) e₆ in
    rw (ih, e₀, e₃, e₄, e₅)

module _ {A : Type 0} (count size : A → ℕ) (words : ℕ → ℕ → A → List ℕ) (leavesIn : ℕ → A → List Leaf)
    (one : (b used at : ℕ) (t : A) (r : List ℕ) → leaves_from (count t + b) (words used at t ++ r) ≡ leavesIn at t ++ leaves_from b r) where
  leaves_all_lem : (b used at : ℕ) (ts : List A) (r : List ℕ)
      → leaves_from (sum count ts + b) (words_all count size words used at ts ++ r) ≡ leaves_all size leavesIn at ts ++ leaves_from b r
  unfolding sum words_all leaves_all
  leaves_all_lem b used at [] r = let e : 0 + b ≡ b = omega arith in rw e
  leaves_all_lem b used at (t ∷ ts) r =
      let e : count t + sum count ts + b ≡ count t + (sum count ts + b) = omega arith in
      let w = words_all count size words (used + count t) (at + size t) ts in
      rw (e, append_assoc (words used at t) w r, one (sum count ts + b) used at t (w ++ r), leaves_all_lem b (used + count t) (at + size t) ts r)
      (sym (append_assoc (leavesIn at t) (leaves_all size leavesIn (at + size t) ts) (leaves_from b r)))

further_append : (a : ℕ) (xs ys : List Leaf) → further a (xs ++ ys) ≡ further a xs ++ further a ys
unfolding further
further_append a [] ys = refl
further_append a (x ∷ xs) ys = ap (λ (l : List Leaf). (x.0, a + x.1) ∷ l) (further_append a xs ys)

further_all : {A : Type 0} (size : A → ℕ) (f : ℕ → A → List Leaf) (a : ℕ) → ((at : ℕ) (t : A) → f (a + at) t ≡ further a (f at t))
    → (at : ℕ) (ts : List A) → leaves_all size f (a + at) ts ≡ further a (leaves_all size f at ts)
unfolding leaves_all further
further_all size f a h at [] = refl
further_all size f a h at (t ∷ ts) =
    let e : a + at + size t ≡ a + (at + size t) = omega arith in
    rw (e, h at t, further_all size f a h (at + size t) ts) (sym (further_append a (f at t) (leaves_all size f (at + size t) ts)))

module _ (version : ℕ) where
  leaves_tree : (d dim par b used at : ℕ) (t : Tree (CategoryIn version d)) (r : List ℕ)
      → leaves_from (nodes version d t + b) (tree_words version d dim par used at t ++ r) ≡ tree_leaves version d at t ++ leaves_from b r
  unfolding nodes tree_words tree_leaves leaves_from pick
  leaves_tree zero dim par b used at t r = let e : 0 + b ≡ b = omega arith in rw e
  leaves_tree (suc d) dim par b used at (m, (zero, t)) r =
      let e : 1 + sum (nodes version d) [] + b ≡ suc (sum (nodes version d) [] + b) = omega arith in
      let below = leaves_all_lem (nodes version d) (size (CategoryIn version d)) (tree_words version d dim used) (tree_leaves version d) (λ b₁ used₁ at₁ t₁ r₁. leaves_tree d dim used b₁ used₁ at₁ t₁ r₁)
      b (used + 1) (at + size (Head version) (m, (zero, t))) [] r in
      rw (e, below)
  leaves_tree (suc d) dim par b used at (m, (suc k, (t, (n, ts)))) r =
      let e : 1 + sum (nodes version d) ts + b ≡ suc (sum (nodes version d) ts + b) = omega arith in
      let below = leaves_all_lem (nodes version d) (size (CategoryIn version d)) (tree_words version d dim used) (tree_leaves version d) (λ b₁ used₁ at₁ t₁ r₁. leaves_tree d dim used b₁ used₁ at₁ t₁ r₁)
      b (used + 1) (at + size (Head version) (m, (suc k, (t, (n, tt))))) ts r in
      rw (e, below)

  pub leaves_same : (dim par used at u : ℕ) (ns ms : List ℕ) (ts : List (Tree (Category version))) → node_words * u ≤ length ns
      → u ≡ used + sum (nodes version category_depth) ts → u ≤ most_nodes
      → ms ≡ sets ns (node_words * used) (words_all (nodes version category_depth) (size (Category version)) (tree_words version category_depth dim par) used at ts)
      → leaves ms (min used most_nodes) (min (u - used) most_nodes) ≡ leaves_all (size (Category version)) (tree_leaves version category_depth) at ts
  unfolding leaves_from
  leaves_same dim par used at u ns ms ts l e h m =
      let ws = words_all (nodes version category_depth) (size (Category version)) (tree_words version category_depth dim par) used at ts in
      let all : length ws ≡ node_words * sum (nodes version category_depth) ts = width_all (nodes version category_depth) (size (Category version)) (tree_words version category_depth dim par) (width_tree version category_depth dim par) used at ts in
      let a : min used most_nodes ≡ used = omega arith in
      let c : min (u - used) most_nodes ≡ sum (nodes version category_depth) ts + 0 = omega arith in
      let fit : node_words * used + length ws ≤ length ns = omega arith in
      leaves_from_lem ms (min used most_nodes) (min (u - used) most_nodes)
      ∙ rw (a, c, m, drop_sets ns ws (node_words * used) fit)
      (leaves_all_lem (nodes version category_depth) (size (Category version)) (tree_words version category_depth dim par) (tree_leaves version category_depth) (λ b used at t r. leaves_tree category_depth dim par b used at t r) 0 used at ts (drop (node_words * used + length ws) ns)
      ∙ append-nil (leaves_all (size (Category version)) (tree_leaves version category_depth) at ts))

  further_tree : (d a at : ℕ) (t : Tree (CategoryIn version d)) → tree_leaves version d (a + at) t ≡ further a (tree_leaves version d at t)
  unfolding tree_leaves further
  further_tree zero a at t = refl
  further_tree (suc d) a at (m, (zero, t)) =
      let e : a + at + size (Head version) (m, (zero, t)) ≡ a + (at + size (Head version) (m, (zero, t))) = omega arith in
      let p : a + at + size (Value version) m + name_to_index ≡ a + (at + size (Value version) m + name_to_index) = omega arith in
      rw (e, p, further_all (size (CategoryIn version d)) (tree_leaves version d) a (further_tree d a) (at + size (Head version) (m, (zero, t))) [])
  further_tree (suc d) a at (m, (suc k, (t, (n, ts)))) =
      let h : Tree (Head version) = (m, (suc k, (t, (n, tt)))) in
      let e : a + at + size (Head version) h ≡ a + (at + size (Head version) h) = omega arith in
      rw (e, further_all (size (CategoryIn version d)) (tree_leaves version d) a (further_tree d a) (at + size (Head version) h) ts)

  pub further_leaves : (a at : ℕ) (ts : List (Tree (Category version)))
      → leaves_all (size (Category version)) (tree_leaves version category_depth) (a + at) ts ≡ further a (leaves_all (size (Category version)) (tree_leaves version category_depth) at ts)
  further_leaves a at ts = further_all (size (Category version)) (tree_leaves version category_depth) a (further_tree category_depth a) at ts
