-- For every category node, dimension and cell of a derivation: the part of the member at the place and of the length in its record is what
-- its Value spells (document 01, "What the caller gets").
use Rattle.std.specs.Prelude.{◌≡◌, List, ℕ, ◌+◌, ◌*◌}
use Rattle.std.proofs.Common.{arith}
use Rattle.std.proofs.Math.Option.{some}
use Rattle.std.proofs.Math.ListN.{get_elem?}
use Rattle.sizes.specs.Sizes.{node_words, name_place, name_length}
use Rattle.grammar.specs.Layout.{Tree, spell}
use Rattle.grammar.specs.Value.{Value}
use Rattle.grammar.specs.RecordWords.{word}
use Rattle.grammar.specs.Laws.Table.RecordsPoint.{Pointing, record_of}
use Rattle.grammar.proofs.Laws.Table.RecordsPoint.{dims_point}
use Rattle.grammar.specs.Member.{version, dimensions, dimensions_at, node_records, node_names, MemberDerivation}
use Rattle.grammar.specs.Part.{part_of}
use Rattle.grammar.specs.Laws.Member.RecordsSpelt.{rest, dimensions_there, part_of_lem}

module _ {bs : List ℕ} (d : MemberDerivation bs) where
  pub nodes_point : Pointing (Value (version d.tree)) bs node_words name_place name_length (node_records d.tree) (node_names d.tree)
  nodes_point = dims_point (version d.tree) bs 0 0 (dimensions_at d.tree) (dimensions d.tree) (rest d) (dimensions_there d)

-- Node: two words of its record
pub node_name : {bs : List ℕ} (d : MemberDerivation bs) (i : ℕ) (v : Tree (Value (version d.tree))) → get_elem? (node_names d.tree) i ≡ some v
    → let ws = node_records d.tree in part_of bs (word ws (node_words * i + name_place)) (word ws (node_words * i + name_length)) ≡ spell (Value (version d.tree)) v
unfolding word
node_name d i v e = part_of_lem (record_of (omega arith) (omega arith) (nodes_point d) i v e)
