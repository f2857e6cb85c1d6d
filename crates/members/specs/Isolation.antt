-- "With member i's entry, the lengths of list, buffer and areas, and what share i held the same, changing another entry or its bytes changes
-- nothing in member i's answer or share, unless the changed bytes lie in member i too." (document 02, T-09)
use Rattle.std.specs.Prelude.{◌≡◌, List, length, get_or}
use Prim.Native.Nat.{ℕ, ◌+◌, ◌/◌, ◌≤◌, ◌<◌}
use Rattle.members.specs.Members.{members, start, size, share_of}

-- two calls, of which the second may have other entries, other bytes and other words where member i is not
pub record SameOf (i : ℕ) (buffer list nodes cells buffer' list' nodes' cells' : List ℕ) : Type 0 where
  -- member i's entry
  pub same_start : start list i ≡ start list' i
  pub same_size : size list i ≡ size list' i
  -- the lengths
  pub list_length : length list ≡ length list'
  pub buffer_length : length buffer ≡ length buffer'
  pub node_length : length nodes ≡ length nodes'
  pub cell_length : length cells ≡ length cells'
  -- what share i held
  pub node_share : share_of (length nodes / members list) i nodes ≡ share_of (length nodes / members list) i nodes'
  pub cell_share : share_of (length cells / members list) i cells ≡ share_of (length cells / members list) i cells'
  -- the bytes that lie in member i, where it is inside the buffer
  pub bytes : start list i + size list i ≤ length buffer → (k : ℕ) → start list i ≤ k → k < start list i + size list i → get_or buffer k 0 ≡ get_or buffer' k 0
