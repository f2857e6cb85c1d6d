use mathlib.Core.Path.{ap, ◌∙◌}
use mathlib.Core.List.{List}
use Prim.Native.Nat.{ℕ}
use Rattle.desk.specs.Desk.{after_of}
use Rattle.desk.proofs.node_after.Goals as goal

pub returns : goal.returns
returns c =
    let a = c.args in
    c.after_of.ensures ∙ ap (λ (words : List ℕ). after_of words a.count a.i) c.filled.ensures
