-- What is delivered, by cases.
use mathlib.Core.Path.{◌≡◌}
use mathlib.Core.Bool.{true, false}
use mathlib.Core.List.{List, ◌++◌}
use Prim.Native.Nat.{ℕ}
use lib.ListN.{length, drop}
use lib.Dec.{leb}
use Rattle.sizes.specs.Basics.{pick}
use Rattle.member.specs.Laws.Whole.{Filled}

module _ (ns cs nodes cells : List ℕ) where
  pub both : leb (length ns) (length nodes) ≡ true → leb (length cs) (length cells) ≡ true → Filled ns cs nodes cells 0 (ns ++ drop (length ns) nodes) (cs ++ drop (length cs) cells)
  unfolding pick
  both e f = record { refusal = rw (e, f); node_area = rw (e, f); cell_area = rw (e, f) }

  pub short_cells : leb (length ns) (length nodes) ≡ true → leb (length cs) (length cells) ≡ false → Filled ns cs nodes cells 13 nodes cells
  unfolding pick
  short_cells e f = record { refusal = rw (e, f); node_area = rw (e, f); cell_area = rw (e, f) }

  pub short_nodes : leb (length ns) (length nodes) ≡ false → Filled ns cs nodes cells 12 nodes cells
  unfolding pick
  short_nodes e = record { refusal = rw e; node_area = rw e; cell_area = rw e }
