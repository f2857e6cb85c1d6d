-- Document 01: "the desk tool keeps the lent member and the filled node area together as one thing (of the area only the words filled)
-- and asks it for the name of node i (the empty part if there is no record i, or if it points outside the member)."
use Rattle.std.specs.Prelude.{List, [], ℕ, ◌+◌, ◌*◌, min, length, take, get_or, leb}
use Rattle.sizes.specs.Sizes.{node_words, name_place, name_length}
use Rattle.sizes.specs.Basics.{pick}
use Rattle.grammar.specs.Part.{part_of}
use Rattle.grammar.specs.Below.{size_of}

-- the words of the first `count` records of an area; none where the area has fewer
unfoldable pub filled_of : List ℕ → ℕ → List ℕ
filled_of area count = pick (leb (node_words * count) (length area)) (take (node_words * count) area) []

-- record i has the place and the length of its name (document 01, "What the caller gets")
unfoldable pub name_of : List ℕ → List ℕ → ℕ → List ℕ
name_of member nodes i =
    pick (leb (node_words * (i + 1)) (length nodes)) (part_of member (get_or nodes (node_words * i + name_place) 0) (get_or nodes (node_words * i + name_length) 0)) []

-- the place of the name of node i, in its record; 0 if there is no record i, or if it points outside the member
unfoldable pub name_place_of : List ℕ → List ℕ → ℕ → ℕ
name_place_of member nodes i =
    let place = get_or nodes (node_words * i + name_place) 0 in
    pick (leb (node_words * (i + 1)) (length nodes)) (pick (leb (place + get_or nodes (node_words * i + name_length) 0) (length member)) place 0) 0

-- Document 02, T-07: of `count` nodes, the one after node i and all that is below it, by how many nodes its record says it contains: `count` where
-- there is none. A record that is not there, or does not count its own node, is not followed: `count`
unfoldable pub after_of : List ℕ → ℕ → ℕ → ℕ
after_of nodes count i =
    let n = size_of nodes i in
    pick (leb (node_words * (i + 1)) (length nodes)) (pick (leb 1 n) (min (i + n) count) count) count
