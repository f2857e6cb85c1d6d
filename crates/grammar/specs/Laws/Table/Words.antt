-- Words of records: where they are stored, and how many there are.
use Rattle.std.specs.Prelude.{◌≡◌, ◌≢◌, drop, take, set}
use Rattle.std.proofs.Math.Path.{refl, sym}
use Rattle.std.proofs.Common.{ap, ◌∙◌, mul-zero, add_comm, arith, length-append, drop_at, length-take-le}
use mathlib.Core.List.{List, [], ◌∷◌, ◌++◌, append_assoc}
use Prim.Native.Nat.{ℕ, zero, suc, ◌+◌, ◌*◌, ◌≤◌, ◌<◌}
use Rattle.std.proofs.Math.Nat.{mul-suc}
use Rattle.std.proofs.Math.ListN.{length}
use Rattle.std.proofs.lemmas.List.Edits.{sets, sets-eq}
use Rattle.std.proofs.lemmas.List.{set_comm}
use Rattle.sizes.specs.Sizes.{category_depth, node_words, dimension_words, no_parent}
use Rattle.grammar.specs.Layout.{◌▸◌, Tree, size}
use Rattle.grammar.specs.Value.{Value}
use Rattle.grammar.specs.Table.{CategoryIn, DimProperties, Dimension, Category}
use Rattle.grammar.specs.Records.{Head, front, children, sum, nodes, words_all, tree_words, rows_words, dim_nodes, dim_words, dim_entry, dims_words, dims_entries, dim_own, dim_categories}

-- a store past the end of a list changes nothing
pub set_past : (xs : List ℕ) (i x : ℕ) → length xs ≤ i → set xs i x ≡ xs
set_past [] i x h = refl
set_past (y ∷ ys) zero x h = absurd (omega arith)
set_past (y ∷ ys) (suc i) x h = ap (λ (zs : List ℕ). y ∷ zs) (set_past ys i x (omega arith))

pub sets_past : (vs xs : List ℕ) (i : ℕ) → length xs ≤ i → sets xs i vs ≡ xs
sets_past [] xs i h = refl
sets_past (v ∷ vs) xs i h = rw (set_past xs i v h) (sets_past vs xs (suc i) (omega arith))

-- three words, one after the other
pub three_sets : (ws : List ℕ) (i a b c : ℕ) → set (set (set ws i a) (i + 1) b) (i + 2) c ≡ sets ws i (a ∷ b ∷ c ∷ [])
three_sets ws i a b c =
    let e₁ : i + 1 ≡ suc i = omega arith in
    let e₂ : i + 2 ≡ suc (suc i) = omega arith in
    rw (e₁, e₂)

pub sets_append : (vs ws l : List ℕ) (i : ℕ) → sets l i (vs ++ ws) ≡ sets (sets l i vs) (i + length vs) ws
sets_append [] ws l i = let e : i + 0 ≡ i = omega arith in rw e
sets_append (v ∷ vs) ws l i = let e : i + suc (length vs) ≡ suc i + length vs = omega arith in rw e (sets_append vs ws (set l i v) (suc i))

-- three words, and one after them
pub four_sets : (ws : List ℕ) (i a b c d : ℕ) → set (set (set (set ws i a) (i + 1) b) (i + 2) c) (i + 3) d ≡ sets ws i (a ∷ b ∷ c ∷ d ∷ [])
four_sets ws i a b c d = rw (three_sets ws i a b c) (sym (sets_append (a ∷ b ∷ c ∷ []) (d ∷ []) ws i))

-- the words of a node's record
pub seven_sets : (ws : List ℕ) (i a b c d e f g : ℕ)
    → set (set (set (set (set (set (set ws i a) (i + 1) b) (i + 2) c) (i + 3) d) (i + 4) e) (i + 5) f) (i + 6) g ≡ sets ws i (a ∷ b ∷ c ∷ d ∷ e ∷ f ∷ g ∷ [])
seven_sets ws i a b c d e f g =
    let e₄ : i + 4 ≡ suc (i + 3) = omega arith in
    let e₅ : i + 5 ≡ suc (suc (i + 3)) = omega arith in
    let e₆ : i + 6 ≡ suc (suc (suc (i + 3))) = omega arith in
    rw (three_sets ws i a b c, e₄, e₅, e₆) (sym (sets_append (a ∷ b ∷ c ∷ []) (d ∷ e ∷ f ∷ g ∷ []) ws i))

-- some words, and others after them
pub sets_then : (xs ys ws : List ℕ) (i : ℕ) {vs us : List ℕ} → vs ≡ sets ws i xs → us ≡ sets vs (i + length xs) ys → us ≡ sets ws i (xs ++ ys)
sets_then xs ys ws i h k = k ∙ rw h (sym (sets_append xs ys ws i))

-- words before others, stored after them
set_before : (ws l : List ℕ) (i j v : ℕ) → i < j → set (sets l j ws) i v ≡ sets (set l i v) j ws
set_before [] l i j v h = refl
set_before (w ∷ ws) l i j v h =
    let apart : j ≢ i = λ e. omega arith in
    set_before ws (set l j w) i (suc j) v (omega arith) ∙ rw (set_comm l j i w v apart)

pub sets_before : (vs ws l : List ℕ) (i j : ℕ) → j ≡ i + length vs → sets (sets l j ws) i vs ≡ sets l i (vs ++ ws)
sets_before [] ws l i j e = let e' : j ≡ i = omega arith in rw e'
sets_before (v ∷ vs) ws l i j e = rw (set_before ws l i j v (omega arith)) (sets_before vs ws (set l i v) (suc i) j (omega arith))

pub drop_sets : (ns ws : List ℕ) (i : ℕ) → i + length ws ≤ length ns → drop i (sets ns i ws) ≡ ws ++ drop (i + length ws) ns
drop_sets ns ws i h =
    let l : length (take i ns) ≡ i = length-take-le i ns (omega arith) in
    rw (sets-eq ws ns i h, append_assoc) (drop_at (take i ns) (ws ++ drop (i + length ws) ns) i l)

-- ---- as many words for each record

module _ {A : Type 0} (w : ℕ) (size : A → ℕ) (words : ℕ → A → List ℕ) (width : (at : ℕ) (t : A) → length (words at t) ≡ w) where
  pub width_rows : (at : ℕ) (ts : List A) → length (rows_words size words at ts) ≡ w * length ts
  unfolding rows_words
  width_rows at [] = sym (mul-zero w)
  width_rows at (t ∷ ts) = rw (length-append, width, width_rows (at + size t) ts, mul-suc w (length ts)) (add_comm w (w * length ts))

module _ {A : Type 0} (count size : A → ℕ) (words : ℕ → ℕ → A → List ℕ) (width : (used at : ℕ) (t : A) → length (words used at t) ≡ node_words * count t) where
  pub width_all : (used at : ℕ) (ts : List A) → length (words_all count size words used at ts) ≡ node_words * sum count ts
  unfolding words_all sum
  width_all used at [] = refl
  width_all used at (t ∷ ts) = rw (length-append, width, width_all (used + count t) (at + size t) ts) (omega arith)

module _ (version : ℕ) where
  pub width_tree : (d dim par used at : ℕ) (t : Tree (CategoryIn version d)) → length (tree_words version d dim par used at t) ≡ node_words * (nodes version) d t
  unfolding tree_words nodes
  width_tree zero dim par used at t = refl
  width_tree (suc d) dim par used at t =
      let below = width_all (nodes version d) (size (CategoryIn version d)) (tree_words version d dim used) (width_tree d dim used) (used + 1) (at + size (Head version) (front version d t)) (children version d t) in
      rw (length-append, below) (omega arith)

  pub width_dim : (i used at : ℕ) (t : Tree (Dimension version)) → length (dim_words version i used at t) ≡ node_words * (dim_nodes version) t
  unfolding dim_words dim_nodes
  width_dim i used at t =
      width_all (nodes version category_depth) (size (Category version)) (tree_words version category_depth i no_parent) (width_tree category_depth i no_parent) used (at + size ((Value version) ▸ DimProperties) (dim_own version t) + 4) (dim_categories version t)

  pub width_dims : (i used at : ℕ) (ts : List (Tree (Dimension version))) → length (dims_words version i used at ts) ≡ node_words * sum (dim_nodes version) ts
  unfolding dims_words sum
  width_dims i used at [] = refl
  width_dims i used at (t ∷ ts) =
      rw (length-append, width_dim i used at t, width_dims (i + 1) (used + (dim_nodes version) t) (at + size (Dimension version) t) ts) (omega arith)

  pub width_entries : (used at : ℕ) (ts : List (Tree (Dimension version))) → length (dims_entries version used at ts) ≡ dimension_words * length ts
  unfolding dims_entries dim_entry
  width_entries used at [] = refl
  width_entries used at (t ∷ ts) = rw (length-append (dim_entry version used at t), width_entries (used + (dim_nodes version) t) (at + size (Dimension version) t) ts) (omega arith)
