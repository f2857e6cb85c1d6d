-- Document 01: "of the area only the words filled", and "the empty part if there is no record i, or if it points outside the member".
-- Document 02, T-07: a node's descendants are the records directly after it, and are skipped by its record alone.
use Rattle.std.specs.Prelude.{◌≡◌, refl, ◌↔◌, Bool, true, false, List, [], ◌++◌, take, drop, get_or, leb}
use Rattle.std.proofs.Common.{ap, arith, length-append, length-drop, length-take, take_at, length-take-le}
use Prim.Native.Nat.{ℕ, ◌+◌, ◌*◌, ◌/◌, ◌≤◌, ◌<◌, min}
use Rattle.std.proofs.Math.ListN.{length}
use borrow.Author.Tests.{le-leb, lt-leb, leb-true}
use Rattle.sizes.specs.Sizes.{node_words, name_place, name_length}
use Rattle.sizes.specs.Basics.{pick}
use Rattle.answer.specs.declared.Answer.{Answer}
use Rattle.grammar.specs.Part.{part_of}
use Rattle.grammar.specs.Below.{size_of, Below}
use Rattle.grammar.specs.Member.{nodes, node_records}
use Rattle.grammar.specs.Laws.Member.RecordsSpelt.{node_width}
use Rattle.grammar.proofs.Laws.Member.NodesBelow.{nodes_below, size_inside}
use Rattle.answer.specs.Demand3.{Accepted, Demand3}
use Rattle.desk.specs.Desk.{filled_of, name_of, name_place_of, after_of}

-- ---- the words filled

-- of an area that begins with `count` records, the records
only_records : (records rest : List ℕ) (count : ℕ) → length records ≡ node_words * count → filled_of (records ++ rest) count ≡ records
unfolding filled_of pick
only_records records rest count e =
    let h : node_words * count ≤ length (records ++ rest) = rw length-append (omega arith) in
    rw (le-leb (node_words * count) (length (records ++ rest)) h) (take_at records rest (node_words * count) e)

-- never more than `count` records
few : (area : List ℕ) (count : ℕ) → length (filled_of area count) ≤ node_words * count
unfolding filled_of pick
few area count = go (leb (node_words * count) (length area))
  where
    go : (b : Bool) → length (pick b (take (node_words * count) area) []) ≤ node_words * count
    go true = omega (arith, length-take (node_words * count) area)
    go false = omega arith

-- ---- names

-- what lies beyond the records changes no answer
pub beyond : (member records rest : List ℕ) (count i : ℕ) → length records ≡ node_words * count
    → name_of member (filled_of (records ++ rest) count) i ≡ name_of member records i
beyond member records rest count i e = ap (λ (ns : List ℕ). name_of member ns i) (only_records records rest count e)

-- of `count` records the last is number count - 1
pub no_record : (member area : List ℕ) (count i : ℕ) → count ≤ i → name_of member (filled_of area count) i ≡ []
unfolding name_of pick
no_record member area count i h =
    let l : length (filled_of area count) < node_words * (i + 1) = omega (arith, few area count) in
    rw (lt-leb (node_words * (i + 1)) (length (filled_of area count)) l)

same : (b : Bool) (l : List ℕ) → pick b l l ≡ l
unfolding pick
same true l = refl
same false l = refl

-- a record that points outside the member
pub outside : (member ns : List ℕ) (i : ℕ) → length member < get_or ns (node_words * i + name_place) 0 + get_or ns (node_words * i + name_length) 0 → name_of member ns i ≡ []
unfolding name_of part_of pick
outside member ns i h =
    rw (lt-leb (get_or ns (node_words * i + name_place) 0 + get_or ns (node_words * i + name_length) 0) (length member) h) (same (leb (node_words * (i + 1)) (length ns)) [])

-- a name is where its place and its length say (`digarumbi_node_name` gives these two, at the words filled)
pub named : (member nodes : List ℕ) (i : ℕ) → name_of member nodes i ≡ take (length (name_of member nodes i)) (drop (name_place_of member nodes i) member)
unfolding name_of name_place_of part_of pick
named member nodes i = record_there (leb (node_words * (i + 1)) (length nodes))
  where
    place : ℕ
    place = get_or nodes (node_words * i + name_place) 0

    n : ℕ
    n = get_or nodes (node_words * i + name_length) 0

    part : (b : Bool) → leb (place + n) (length member) ≡ b
        → pick b (take n (drop place member)) [] ≡ take (length (pick b (take n (drop place member)) [])) (drop (pick b place 0) member)
    part true e =
        let h : n ≤ length (drop place member) = omega (arith, leb-true (place + n) (length member) e, length-drop place member) in
        rw (length-take-le n (drop place member) h)
    part false e = refl

    record_there : (b : Bool)
        → pick b (pick (leb (place + n) (length member)) (take n (drop place member)) []) []
        ≡ take (length (pick b (pick (leb (place + n) (length member)) (take n (drop place member)) []) []))
        (drop (pick b (pick (leb (place + n) (length member)) place 0) 0) member)
    record_there true = part (leb (place + n) (length member)) refl
    record_there false = refl

-- ---- the node after a group

-- whatever the words are, it lies further on, at most at the end: a walk by it ends
pub leads_on : (ws : List ℕ) (count i : ℕ) → i < count → (i < after_of ws count i) × (after_of ws count i ≤ count)
unfolding after_of pick
leads_on ws count i h = whole (leb (node_words * (i + 1)) (length ws))
  where
    n : ℕ
    n = size_of ws i

    counted : (b : Bool) → leb 1 n ≡ b → (i < pick b (min (i + n) count) count) × (pick b (min (i + n) count) count ≤ count)
    counted true e = let l = leb-true 1 n e in (omega arith, omega arith)
    counted false e = (h, omega arith)

    whole : (b : Bool) → (i < pick b (pick (leb 1 n) (min (i + n) count) count) count) × (pick b (pick (leb 1 n) (min (i + n) count) count) count ≤ count)
    whole true = counted (leb 1 n) refl
    whole false = (h, omega arith)

-- ---- after a call of `read_member` that accepts

module _ {bs nodes₀ cells₀ : List ℕ} {r : Answer} {nodes₁ cells₁ : List ℕ} (call : Demand3 bs nodes₀ cells₀ r nodes₁ cells₁) (a : Accepted bs (length nodes₀) (length cells₀)) where
  -- the words filled are the derivation's records
  the_records : filled_of nodes₁ r.nodes ≡ node_records a.derivation.tree
  the_records =
      let t = a.derivation.tree in
      let y = call.yields a in
      rw (y.node_area, y.number_of_nodes) (only_records (node_records t) (drop (node_words * nodes t) nodes₀) (nodes t) (node_width a.derivation))

  -- a `Desk` of them has as many records as there are nodes
  pub as_many : length (filled_of nodes₁ r.nodes) / node_words ≡ r.nodes
  as_many = rw (the_records, node_width a.derivation, (call.yields a).number_of_nodes) (omega arith)

  -- the names are those of the derivation's records
  pub of_the_derivation : (i : ℕ) → name_of bs (filled_of nodes₁ r.nodes) i ≡ name_of bs (node_records a.derivation.tree) i
  of_the_derivation i = rw the_records

  -- node j is below node i, by the parent words, exactly when it comes after i and before the node that `node_after` gives, and `after` too (`as_many`)
  pub skips_exactly : (i j : ℕ) → i < r.nodes → let ws = filled_of nodes₁ r.nodes in Below ws r.nodes i j ↔ ((i < j) × (j < after_of ws r.nodes i))
  unfolding after_of pick
  skips_exactly i j h =
      let t = a.derivation.tree in
      let ws = node_records t in
      let n = nodes t in
      let h' : i < n = rw (call.yields a).number_of_nodes at h in
      let s = size_inside a.derivation i h' in
      let whole : node_words * (i + 1) ≤ length ws = omega (arith, node_width a.derivation) in
      let z : min (i + size_of ws i) n ≡ i + size_of ws i = omega (arith, s.1) in
      rw (the_records, (call.yields a).number_of_nodes, le-leb (node_words * (i + 1)) (length ws) whole, le-leb 1 (size_of ws i) s.0, z) (nodes_below a.derivation i j h')
