-- How many bytes categories and dimensions cover: their own part, and what is below.
use Rattle.std.specs.Prelude.{◌≡◌, refl, List, [], ◌∷◌, ◌++◌, ℕ, zero, suc, ◌+◌, length}
use Rattle.std.proofs.Math.Path.{sym}
use Rattle.std.proofs.Common.{append-nil, append_assoc}
use Rattle.std.proofs.Math.ListN.{length-append}
use Rattle.grammar.specs.Layout.{little, Layout, ◌▸◌, Tree, digits, spell_all, spell, size}
use Rattle.grammar.specs.Laws.Layout.{digits_length}
use Rattle.grammar.specs.Value.{Value}
use Rattle.grammar.specs.Table.{CategoryIn, DimProperties, Dimension, Category}
use Rattle.grammar.specs.Records.{Head, front, children, sum, dim_own, dim_categories}

-- ---- sizes

-- the bytes of all are those of each
pub size_all : (g : Layout) (ts : List (Tree g)) → length (spell_all (spell g) ts) ≡ sum (size g) ts
unfolding sum size spell_all
size_all g [] = refl
size_all g (t ∷ ts) = rw (length-append, size_all g ts)

module _ (version : ℕ) where
  -- ---- what they spell

  pub spell_category : (d : ℕ) (t : Tree (CategoryIn version (suc d))) → spell (CategoryIn version (suc d)) t ≡ spell (Head version) (front version d t) ++ spell_all (spell (CategoryIn version d)) (children version d t)
  unfolding spell spell_all
  spell_category d (m, (zero, t)) = sym (append-nil (spell (Head version) (m, (zero, t))))
  spell_category d (m, (suc k, (t, (n, ts)))) = simp (append-nil, append_assoc)

  pub spell_dimension : (t : Tree (Dimension version))
      → spell (Dimension version) t ≡ spell ((Value version) ▸ DimProperties) (dim_own version t) ++ digits little 4 t.1.0 ++ spell_all (spell (Category version)) (dim_categories version t)
  unfolding spell
  spell_dimension t = sym (append_assoc (spell ((Value version) ▸ DimProperties) (dim_own version t)) (digits little 4 t.1.0) (spell_all (spell (Category version)) (dim_categories version t)))

  pub size_category : (d : ℕ) (t : Tree (CategoryIn version (suc d))) → size (CategoryIn version (suc d)) t ≡ size (Head version) (front version d t) + sum (size (CategoryIn version d)) (children version d t)
  unfolding size
  size_category d t = rw (spell_category d t, length-append, size_all (CategoryIn version d) (children version d t))

  pub size_dimension : (t : Tree (Dimension version)) → size (Dimension version) t ≡ size ((Value version) ▸ DimProperties) (dim_own version t) + 4 + sum (size (Category version)) (dim_categories version t)
  unfolding size
  size_dimension t = rw (spell_dimension t, length-append, length-append, digits_length, size_all (Category version) (dim_categories version t))
