-- The two areas after a call: what each share holds, and that the remainder is as it was.
use Rattle.std.specs.Prelude.{◌≡◌, Bool, List, ℕ, ◌*◌, ◌/◌, ◌<◌, length, drop, eqb}
use Rattle.std.proofs.Math.Path.{refl}
use Rattle.std.proofs.Math.Bool.{true, false}
use Rattle.sizes.specs.Basics.{pick}
use Rattle.members.specs.Members.{members, list_refusal, member_at, share_of, node_share_at, cell_share_at, cut, nodes_then, cells_then}
use Rattle.members.specs.Laws.Shares.{cut_share, cut_rest}
use Rattle.members.specs.Laws.Reading.{node_share_length, cell_share_length}

-- an area of which the first n shares are given, or which is as it was
module _ (w n : ℕ) (f : ℕ → List ℕ) (area : List ℕ) (h : (i : ℕ) → i < n → length (f i) ≡ w) where
  share_then : (b : Bool) (i : ℕ) → i < n → share_of w i (pick b (cut w n f area) area) ≡ pick b (f i) (share_of w i area)
  unfolding pick
  share_then true i l = cut_share w f n area h i l
  share_then false i l = refl

  rest_then : (b : Bool) → drop (w * n) (pick b (cut w n f area) area) ≡ drop (w * n) area
  unfolding pick
  rest_then true = cut_rest w f n area h
  rest_then false = refl

module _ (buffer list : List ℕ) where
  -- whether the list is read, its number of members, and what its member i is read as
  abbrev is_read : Bool
  is_read = eqb (list_refusal list) 0

  abbrev n : ℕ
  n = members list

  module _ (nodes : List ℕ) (cell_length : ℕ) where
    abbrev node_words : ℕ → List ℕ
    node_words i = node_share_at (member_at buffer list i) n i nodes cell_length

    lengths : (i : ℕ) → i < n → length (node_words i) ≡ length nodes / n
    lengths i l = node_share_length (member_at buffer list i) n i l nodes cell_length

    -- share i of the node area
    pub node_share_then : (i : ℕ) → i < n → share_of (length nodes / n) i (nodes_then buffer list nodes cell_length) ≡ pick is_read (node_words i) (share_of (length nodes / n) i nodes)
    unfolding nodes_then
    node_share_then = share_then (length nodes / n) n node_words nodes lengths is_read

    -- and its remainder
    pub node_remainder : drop (length nodes / n * n) (nodes_then buffer list nodes cell_length) ≡ drop (length nodes / n * n) nodes
    unfolding nodes_then
    node_remainder = rest_then (length nodes / n) n node_words nodes lengths is_read

  module _ (node_length : ℕ) (cells : List ℕ) where
    abbrev cell_words : ℕ → List ℕ
    cell_words i = cell_share_at (member_at buffer list i) n i node_length cells

    cell_lengths : (i : ℕ) → i < n → length (cell_words i) ≡ length cells / n
    cell_lengths i l = cell_share_length (member_at buffer list i) n i l node_length cells

    -- share i of the cell area
    pub cell_share_then : (i : ℕ) → i < n → share_of (length cells / n) i (cells_then buffer list node_length cells) ≡ pick is_read (cell_words i) (share_of (length cells / n) i cells)
    unfolding cells_then
    cell_share_then = share_then (length cells / n) n cell_words cells cell_lengths is_read

    -- and its remainder
    pub cell_remainder : drop (length cells / n * n) (cells_then buffer list node_length cells) ≡ drop (length cells / n * n) cells
    unfolding cells_then
    cell_remainder = rest_then (length cells / n) n cell_words cells cell_lengths is_read
