use mathlib.Core.Path.{ap, ◌∙◌}
use mathlib.Core.List.{List}
use Prim.Native.Nat.{ℕ}
use Rattle.desk.specs.Desk.{name_place_of}
use Rattle.desk.proofs.place.node_name_place.Goals as goal

pub returns : goal.returns
returns c =
    let a = c.args in
    c.place_of.ensures ∙ ap (λ (words : List ℕ). name_place_of a.member.now words a.i) c.filled-words.ensures
