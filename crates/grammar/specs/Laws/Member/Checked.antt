-- Reading a member by its rule: the tree, or a refusal's number and place.
use Rattle.std.specs.Prelude.{List, ℕ, ◌+◌, length, leb}
use Rattle.sizes.specs.Sizes.{member_bytes}
use Rattle.sizes.specs.Basics.{pick}
use Rattle.grammar.specs.Layout.{Tree}
use Rattle.grammar.specs.Laws.Layout.Read.{Got, got, no, lead}
use Rattle.grammar.specs.Laws.Layout.Check.{check}
use Rattle.grammar.specs.Member.{Member}
use Rattle.grammar.specs.Refused.{member_rule}

-- an optional 01, and then the end
unfoldable pub ended : {A : Type 0} → Got A → Got A
ended (no n p) = no n p
ended (got t r p) = let k = lead 0x01 1 r in pick (leb (length r) k) (got t r p) (no 11 (p + k))

unfoldable pub checked : List ℕ → Got (Tree Member)
checked bs = pick (leb (length bs) member_bytes) (ended (check member_rule bs 0)) (no 1 0)
