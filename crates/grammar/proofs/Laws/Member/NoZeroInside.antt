-- No string of a member holds a zero byte (document 02, T-06): of the whole derivation, and of each Value that is handed out.
use Rattle.std.specs.Prelude.{List, ℕ}
use Rattle.grammar.specs.Layout.{Layout, Tree, All, all_none, all_more, Valid}
use Rattle.grammar.specs.Strings.{Free}
use Rattle.grammar.proofs.Laws.Layout.{strings_free}
use Rattle.grammar.specs.Value.{Value, CellValue}
use Rattle.grammar.specs.Member.{Member}
use Rattle.grammar.specs.Laws.Member.MemberUses as member-uses

pub member_free : (t : Tree Member) → Valid Member t → Free Member t
member_free = strings_free member-uses.member

all_free : {g : Layout} → member-uses.Fine g → {vs : List (Tree g)} → All (Valid g) vs → All (Free g) vs
all_free u all_none = all_none
all_free u (all_more {x} h hs) = all_more (strings_free u x h) (all_free u hs)

pub values_free : (version : ℕ) {vs : List (Tree (Value version))} → All (Valid (Value version)) vs → All (Free (Value version)) vs
values_free version = all_free (member-uses.value version)

pub cell_values_free : (version : ℕ) {vs : List (Tree (CellValue version))} → All (Valid (CellValue version)) vs → All (Free (CellValue version)) vs
cell_values_free version = all_free (member-uses.cell_value_lem version)
