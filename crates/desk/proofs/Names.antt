-- The place of a name, by the test that the code makes.
use mathlib.Core.Path.{◌≡◌, ◌∙◌}
use mathlib.Core.List.{List}
use Prim.Native.Nat.{ℕ, ◌+◌, ◌*◌, ◌≤◌, ◌<◌}
use lib.ListN.{length, get_or}
use lib.Dec.{leb}
use borrow.Author.Tests.{le-leb, lt-leb}
use Rattle.sizes.specs.Sizes.{node_words, name_place, name_length}
use Rattle.sizes.specs.Basics.{pick}
use Rattle.desk.specs.Desk.{name_place_of}

pub place_there : (member nodes : List ℕ) (i : ℕ) {r : ℕ} → node_words * (i + 1) ≤ length nodes
    → r ≡ pick (leb (get_or nodes (node_words * i + name_place) 0 + get_or nodes (node_words * i + name_length) 0) (length member)) (get_or nodes (node_words * i + name_place) 0) 0 → r ≡ name_place_of member nodes i
unfolding name_place_of pick
place_there member nodes i h e = e ∙ rw (le-leb (node_words * (i + 1)) (length nodes) h)

pub no_place : (member nodes : List ℕ) (i : ℕ) → length nodes < node_words * (i + 1) → 0 ≡ name_place_of member nodes i
unfolding name_place_of pick
no_place member nodes i h = rw (lt-leb (node_words * (i + 1)) (length nodes) h)
