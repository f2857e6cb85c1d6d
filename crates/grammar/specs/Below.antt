-- Document 02, T-07: which nodes are below a node, by the parent words of the node records, and how many nodes a record says it contains.
use Rattle.std.specs.Prelude.{◌≡◌, List, ℕ, ◌+◌, ◌*◌, ◌<◌, get_or}
use Rattle.sizes.specs.Sizes.{node_words, node_parent, node_size}

-- the number of node i's parent
abbrev pub parent_of : List ℕ → ℕ → ℕ
parent_of ws i = get_or ws (node_words * i + node_parent) 0

-- "how many nodes it contains at any depth, itself included"
abbrev pub size_of : List ℕ → ℕ → ℕ
size_of ws i = get_or ws (node_words * i + node_size) 0

-- of `count` nodes, j is below i: the parent of j is i, or is below i
pub data Below (ws : List ℕ) (count i : ℕ) : ℕ → Type 0 where
  child : {j : ℕ} → j < count → parent_of ws j ≡ i → Below ws count i j
  deeper : {j : ℕ} → j < count → Below ws count i (parent_of ws j) → Below ws count i j
