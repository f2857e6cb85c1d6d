use native.Mathlib.Omega.{arith}
use mathlib.Core.Path.{ap}
use mathlib.Core.List.{List}
use Prim.Native.Nat.{ℕ}
use lib.ListN.{get_or}
use Rattle.convert.specs.Laws.Places.{look}
use Rattle.convert.proofs.Laws.Places.{row_below}
use Rattle.pages.specs.Numbers.{index}
use Rattle.codepages.proofs.Pages.{index_below}
use Rattle.codepages.proofs.rows.FromUtf8.look_up.Goals as goal

pub bounds-self-row : goal.bounds-self-row
unfolding look
bounds-self-row c =
    let s = c.args.self.now in
    omega (arith, ap (λ (l : List ℕ). get_or l c.args.i 0) s.are, row_below (index s.page) c.args.i (index_below s.page) c.requires.0, c.requires.1)

pub returns : goal.returns
unfolding look
returns c = rw (c.args.self.now.are)
