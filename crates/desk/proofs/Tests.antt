-- What is filled, what a name is and which node comes after a group, by the tests that the code makes.
use mathlib.Core.Path.{◌≡◌}
use mathlib.Core.List.{List, []}
use Prim.Native.Nat.{ℕ, ◌+◌, ◌*◌, ◌≤◌, ◌<◌, min}
use lib.ListN.{length, take, get_or}
use borrow.Author.Tests.{le-leb, lt-leb}
use Rattle.sizes.specs.Sizes.{node_words, name_place, name_length}
use Rattle.sizes.specs.Basics.{pick}
use Rattle.grammar.specs.Part.{part_of}
use Rattle.grammar.specs.Below.{size_of}
use Rattle.desk.specs.Desk.{filled_of, name_of, after_of}

pub enough : (area : List ℕ) (count : ℕ) → node_words * count ≤ length area → take (node_words * count) area ≡ filled_of area count
unfolding filled_of pick
enough area count h = rw (le-leb (node_words * count) (length area) h)

pub too_few : (area : List ℕ) (count : ℕ) → length area < node_words * count → [] ≡ filled_of area count
unfolding filled_of pick
too_few area count h = rw (lt-leb (node_words * count) (length area) h)

pub points_to : (member nodes : List ℕ) (i : ℕ) {place n : ℕ} → node_words * (i + 1) ≤ length nodes → place ≡ get_or nodes (node_words * i + name_place) 0
    → n ≡ get_or nodes (node_words * i + name_length) 0 → part_of member place n ≡ name_of member nodes i
unfolding name_of pick
points_to member nodes i h p q = rw (le-leb (node_words * (i + 1)) (length nodes) h, p, q)

pub no_whole_record : (member nodes : List ℕ) (i : ℕ) → length nodes < node_words * (i + 1) → [] ≡ name_of member nodes i
unfolding name_of pick
no_whole_record member nodes i h = rw (lt-leb (node_words * (i + 1)) (length nodes) h)

module _ (nodes : List ℕ) (count i : ℕ) where
  -- record i says that it contains n nodes
  pub leads_to : {n : ℕ} → node_words * (i + 1) ≤ length nodes → n ≡ size_of nodes i → 1 ≤ n → min (i + n) count ≡ after_of nodes count i
  unfolding after_of pick
  leads_to {n} h e l = rw (le-leb (node_words * (i + 1)) (length nodes) h, ← e, le-leb 1 n l)

  pub no_size : node_words * (i + 1) ≤ length nodes → size_of nodes i < 1 → count ≡ after_of nodes count i
  unfolding after_of pick
  no_size h l = rw (le-leb (node_words * (i + 1)) (length nodes) h, lt-leb 1 (size_of nodes i) l)

  pub no_record : length nodes < node_words * (i + 1) → count ≡ after_of nodes count i
  unfolding after_of pick
  no_record h = rw (lt-leb (node_words * (i + 1)) (length nodes) h)
