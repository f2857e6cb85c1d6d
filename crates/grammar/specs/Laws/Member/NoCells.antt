-- Document 01, "n of 3, 0, 5: only an empty cell list".
use Rattle.std.specs.Prelude.{◌≡◌, refl, true, List, [], ◌∷◌, map, ℕ}
use Rattle.std.proofs.Common.{arith}
use Rattle.sizes.specs.Basics.{among}
use Rattle.grammar.specs.Layout.{Tree}
use Rattle.grammar.specs.Laws.Once.{none_below}
use Rattle.grammar.specs.Laws.Index.Product.{product_zero}
use Rattle.grammar.specs.Table.{Cell}
use Rattle.grammar.specs.Records.{cell_index}
use Rattle.grammar.specs.Member.{Member, version, cells, ns, AsDemanded}

no_more : (v : ℕ) (ts : List (Tree (Cell v))) → map (cell_index v) ts ≡ [] → ts ≡ []
no_more v [] e = refl
no_more v (t ∷ ts) e = absurd (let z : ◌≡◌ {A = ℕ} 0 1 = cc in omega arith)

-- No cells: where an n is 0 a demanded derivation has no cell
pub only_empty : (t : Tree Member) → AsDemanded t → among 0 (ns t) ≡ true → cells t ≡ []
only_empty t a z = no_more (version t) (cells t) (none_below (rw (product_zero (ns t) z) at a.inside))
