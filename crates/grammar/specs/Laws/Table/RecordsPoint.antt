-- What the records of derivations point to: the place and the length in each are those of a Value, which the bytes there spell.
use Rattle.std.specs.Prelude.{◌≡◌, get_or}
use Rattle.std.proofs.Math.Path.{refl}
use Rattle.std.proofs.Common.{sym, ap, ◌∙◌, mul-zero, mul-suc, arith, length-append, get_or-append-add}
use Rattle.std.proofs.Math.Option.{some}
use mathlib.Core.List.{List, [], ◌∷◌, ◌++◌, append-nil, append_assoc, map, flat_map}
use Prim.Native.Nat.{ℕ, zero, suc, ◌+◌, ◌*◌, ◌<◌}
use Rattle.std.proofs.Math.ListN.{length, drop, get_elem?, get_or-append}
use Rattle.sizes.specs.Sizes.{category_depth, node_words, cell_words, dimension_words, name_place, name_length}
use Rattle.grammar.specs.Layout.{Order, little, Layout, ◌▸◌, Tree, digits, spell_all, spell, size}
use Rattle.grammar.specs.Laws.Layout.{digits_length}
use Rattle.grammar.specs.Laws.Layout.Spelt.{after}
use Rattle.grammar.specs.Value.{Value, CellValue}
use Rattle.grammar.specs.Table.{CategoryIn, DimProperties, Dimension, Cell, Category}
use Rattle.grammar.specs.Records.{children, sum, nodes, words_all, dim_nodes, dim_entry, dims_entries, cell_words_of, rows_words, dim_own, dim_name, dim_categories, cell_value, tree_names, category_names}
use Rattle.grammar.specs.Laws.Table.Lengths.{spell_dimension}

-- a word of the first record, and of those after it
first_word : (ws rest : List ℕ) (j : ℕ) → j < length ws → (i : ℕ) → i ≡ j → get_or ws j 0 ≡ get_or (ws ++ rest) i 0
first_word ws rest j h i e = rw e (sym (get_or-append ws rest 0 j h))

later_word : (ws rest : List ℕ) (m i : ℕ) → i ≡ length ws + m → get_or rest m 0 ≡ get_or (ws ++ rest) i 0
later_word ws rest m i e = rw e (sym (get_or-append-add ws rest m 0))

-- ---- what stands where

-- what follows a number
pub after_digits : (s : List ℕ) (at : ℕ) (o : Order) (w n : ℕ) (r : List ℕ) → drop at s ≡ digits o w n ++ r → drop (at + w) s ≡ r
after_digits s at o w n r e = rw digits_length at (after s at (digits o w n) r e)

-- the first of trees that follow each other, and then the others
pub first_of : (g : Layout) (s : List ℕ) (at : ℕ) (t : Tree g) (ts : List (Tree g)) (r : List ℕ) → drop at s ≡ spell_all (spell g) (t ∷ ts) ++ r
    → drop at s ≡ spell g t ++ (spell_all (spell g) ts ++ r)
unfolding spell_all
first_of g s at t ts r e = e ∙ append_assoc (spell g t) (spell_all (spell g) ts) r

pub rest_of : (g : Layout) (s : List ℕ) (at : ℕ) (t : Tree g) (ts : List (Tree g)) (r : List ℕ) → drop at s ≡ spell_all (spell g) (t ∷ ts) ++ r
    → drop (at + size g t) s ≡ spell_all (spell g) ts ++ r
unfolding size
rest_of g s at t ts r e = after s at (spell g t) (spell_all (spell g) ts ++ r) (first_of g s at t ts r e)

-- ---- records that point to trees

-- from this place of s on lie so many bytes, which v spells
pub record Points (g : Layout) (s : List ℕ) (place long : ℕ) (v : Tree g) : Type 0 where
  pub rest : List ℕ
  pub there : drop place s ≡ spell g v ++ rest
  pub length_of : long ≡ size g v

-- ws is records of n words, one for each of the vs in order: the words j and k of each are the place and the length of its v
pub data Pointing (g : Layout) (s : List ℕ) (n j k : ℕ) : List ℕ → List (Tree g) → Type 0 where
  no_records : Pointing g s n j k [] []
  one_record : (ws : List ℕ) {v : Tree g} {rest : List ℕ} {vs : List (Tree g)} → length ws ≡ n → Points g s (get_or ws j 0) (get_or ws k 0) v
      → Pointing g s n j k rest vs → Pointing g s n j k (ws ++ rest) (v ∷ vs)

moved : {g : Layout} {s : List ℕ} {p p' q q' : ℕ} {u v : Tree g} → p ≡ p' → q ≡ q' → u ≡ v → Points g s p q u → Points g s p' q' v
moved e e' e'' h = rw (← e, ← e', ← e'') h

module _ {g : Layout} {s : List ℕ} {n j k : ℕ} where
  pub joined : {ws ws' : List ℕ} {vs vs' : List (Tree g)} → Pointing g s n j k ws vs → Pointing g s n j k ws' vs' → Pointing g s n j k (ws ++ ws') (vs ++ vs')
  joined no_records q = q
  joined (one_record ws l p ps) q = rw append_assoc (one_record ws l p (joined ps q))

  -- record i is that of the i-th of them
  pub record_of : {ws : List ℕ} {vs : List (Tree g)} → j < n → k < n → Pointing g s n j k ws vs → (i : ℕ) (v : Tree g) → get_elem? vs i ≡ some v
      → Points g s (get_or ws (n * i + j) 0) (get_or ws (n * i + k) 0) v
  record_of hj hk no_records i v e = absurd (let z : ◌≡◌ {A = ℕ} 0 1 = cc in omega arith)
  record_of hj hk (one_record ws {v = u} {rest = rest} l p ps) zero v e =
      moved (first_word ws rest j (omega arith) (n * 0 + j) (omega (arith, mul-zero n))) (first_word ws rest k (omega arith) (n * 0 + k) (omega (arith, mul-zero n))) (cc) p
  record_of hj hk (one_record ws {rest = rest} l p ps) (suc i) v e =
      moved (later_word ws rest (n * i + j) (n * suc i + j) (omega (arith, mul-suc n i))) (later_word ws rest (n * i + k) (n * suc i + k) (omega (arith, mul-suc n i))) refl
      (record_of hj hk ps i v e)

module _ (version : ℕ) where
  -- there are as many names as nodes
  length_flat : {A : Type 0} (f : A → List (Tree (Value version))) (count : A → ℕ) → ((t : A) → length (f t) ≡ count t) → (ts : List A) → length (flat_map f ts) ≡ sum count ts
  unfolding flat_map sum
  length_flat f count h [] = refl
  length_flat f count h (t ∷ ts) = rw (length-append, h t, length_flat f count h ts)

  names_nodes : (d : ℕ) (t : Tree (CategoryIn version d)) → length (tree_names version d t) ≡ nodes version d t
  unfolding tree_names nodes
  names_nodes zero t = refl
  names_nodes (suc d) t = rw (length_flat (tree_names version d) (nodes version d) (names_nodes d) (children version d t)) (omega arith)

  pub all_names : (ts : List (Tree (Dimension version))) → length (flat_map (category_names version) ts) ≡ sum (dim_nodes version) ts
  unfolding category_names dim_nodes
  all_names ts = length_flat (category_names version) (dim_nodes version) (λ t. length_flat (tree_names version category_depth) (nodes version category_depth) (names_nodes category_depth) (dim_categories version t)) ts

  -- a Value that stands first
  pub first_points : (s : List ℕ) (at : ℕ) (b : Layout) (t : Tree ((Value version) ▸ b)) (r : List ℕ) → drop at s ≡ spell ((Value version) ▸ b) t ++ r → Points (Value version) s at (size (Value version) t.0) t.0
  unfolding spell
  first_points s at b t r e = record { rest = spell b t.1 ++ r; there = e ∙ append_assoc (spell (Value version) t.0) (spell b t.1) r; length_of = refl }

  -- ---- nodes

  module _ (s : List ℕ) (g : Layout) (names : Tree g → List (Tree (Value version))) (count : Tree g → ℕ) (words : ℕ → ℕ → Tree g → List ℕ)
      (each : (used at : ℕ) (t : Tree g) (r : List ℕ) → drop at s ≡ spell g t ++ r → Pointing (Value version) s node_words name_place name_length (words used at t) (names t)) where
    pub all_point : (used at : ℕ) (ts : List (Tree g)) (r : List ℕ) → drop at s ≡ spell_all (spell g) ts ++ r
        → Pointing (Value version) s node_words name_place name_length (words_all count (size g) words used at ts) (flat_map names ts)
    unfolding words_all flat_map
    all_point used at [] r e = no_records
    all_point used at (t ∷ ts) r e =
        joined (each used at t (spell_all (spell g) ts ++ r) (first_of g s at t ts r e)) (all_point (used + count t) (at + size g t) ts r (rest_of g s at t ts r e))

  -- ---- dimensions

  -- a dimension's own part stands first
  pub own_part : (s : List ℕ) (at : ℕ) (t : Tree (Dimension version)) (r : List ℕ) → drop at s ≡ spell (Dimension version) t ++ r
      → drop at s ≡ spell ((Value version) ▸ DimProperties) (dim_own version t) ++ (digits little 4 t.1.0 ++ (spell_all (spell (Category version)) (dim_categories version t) ++ r))
  own_part s at t r e = e ∙ (ap (λ (xs : List ℕ). xs ++ r) (spell_dimension version t) ∙ simp append_assoc)

  -- and their entries
  pub entries_point : (s : List ℕ) (used at : ℕ) (ts : List (Tree (Dimension version))) (r : List ℕ) → drop at s ≡ spell_all (spell (Dimension version)) ts ++ r
      → Pointing (Value version) s dimension_words 0 1 (dims_entries version used at ts) (map (dim_name version) ts)
  unfolding dims_entries dim_entry
  entries_point s used at [] r e = no_records
  entries_point s used at (t ∷ ts) r e =
      one_record (dim_entry version used at t) refl
      (first_points s at DimProperties t.0 _ (own_part s at t (spell_all (spell (Dimension version)) ts ++ r) (first_of (Dimension version) s at t ts r e)))
      (entries_point s (used + (dim_nodes version) t) (at + size (Dimension version) t) ts r (rest_of (Dimension version) s at t ts r e))

  -- ---- cells

  cell_point : (s : List ℕ) (at : ℕ) (t : Tree (Cell version)) (r : List ℕ) → drop at s ≡ spell (Cell version) t ++ r → Points (CellValue version) s (at + 8) (size (CellValue version) t.1) t.1
  unfolding spell
  cell_point s at t r e =
      let h : drop at s ≡ digits little 8 t.0.0 ++ (spell (CellValue version) t.1 ++ r) = e ∙ simp (append-nil, append_assoc) in
      record { rest = r; there = after_digits s at little 8 t.0.0 (spell (CellValue version) t.1 ++ r) h; length_of = refl }

  pub cells_point : (s : List ℕ) (at : ℕ) (ts : List (Tree (Cell version))) (r : List ℕ) → drop at s ≡ spell_all (spell (Cell version)) ts ++ r
      → Pointing (CellValue version) s cell_words 1 2 (rows_words (size (Cell version)) (cell_words_of version) at ts) (map (cell_value version) ts)
  unfolding rows_words
  cells_point s at [] r e = no_records
  cells_point s at (t ∷ ts) r e =
      one_record (cell_words_of version at t) refl (cell_point s at t (spell_all (spell (Cell version)) ts ++ r) (first_of (Cell version) s at t ts r e))
      (cells_point s (at + size (Cell version) t) ts r (rest_of (Cell version) s at t ts r e))
