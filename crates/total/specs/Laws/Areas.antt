-- What the lent areas hold after a call: the records where nothing is refused, and what they held.
use Rattle.std.specs.Prelude.{◌≡◌, refl, Bool, true, false, List, ◌++◌, ℕ, suc, ◌*◌, ◌≤◌, take, eqb, leb}
use Rattle.std.proofs.Common.{ap, ◌∙◌, arith, length-append, take_at}
use borrow.Author.Tests.{leb-true}
use Rattle.std.proofs.Math.ListN.{length, drop}
use Rattle.sizes.specs.Sizes.{node_words, cell_words}
use Rattle.sizes.specs.Basics.{pick}
use Rattle.grammar.specs.Layout.{Bytes, Tree, size}
use Rattle.grammar.specs.Laws.Layout.Read.{no}
use Rattle.grammar.specs.Table.{Cell}
use Rattle.grammar.specs.Records.{cell_words_of}
use Rattle.grammar.specs.Laws.Table.Words.{width_rows}
use Rattle.grammar.specs.Laws.Table.Words.{width_dims}
use Rattle.answer.specs.declared.Answer.{Answer}
use Rattle.grammar.specs.Member.{Member, version, dimensions, dimensions_at, cells_start, nodes, cells, node_records, cell_records, MemberDerivation, AsDemanded}
use Rattle.grammar.specs.Laws.Member.Checked.{checked}
use Rattle.answer.specs.Answer.{accepted, wide, long, nodes_after, cells_after}
use Rattle.grammar.proofs.Laws.Member.Demanded.{derivation_checked}
use Rattle.total.specs.Laws.Reading.{Taken}

-- the first n words of a list over those of an area
abbrev pub copied : ℕ → List ℕ → List ℕ → List ℕ
copied n from to = take n from ++ drop n to

-- two lists hold the records that are answered, and two areas have room for them
pub record Fit (a : Answer) (node-list cell-list N C : List ℕ) : Type 0 where
  pub nodes_there : node_words * a.nodes ≤ length node-list
  pub cells_there : cell_words * a.cells ≤ length cell-list
  pub wide : node_words * a.nodes ≤ length N
  pub long : cell_words * a.cells ≤ length C

-- these records, over the first words of the areas
pub record Copied (a : Answer) (node-list cell-list N C N' C' : List ℕ) : Type 0 where
  pub node_area : N' ≡ copied (node_words * a.nodes) node-list N
  pub cell_area : C' ≡ copied (cell_words * a.cells) cell-list C

pub either : (c : Bool) (l : List ℕ) → l ≡ pick c l l
unfolding pick
either true l = refl
either false l = refl

-- an area is filled where nothing is refused, so where n is 0: not where it, or the other one, is too short
filled : (is_IsWide is-long : Bool) (n : ℕ) → (is_IsWide ≡ false → n ≡ 12) → (is_IsWide ≡ true → is-long ≡ false → n ≡ 13)
    → (old new records : List ℕ) → (is_IsWide ≡ true → is-long ≡ true → new ≡ records)
    → pick (eqb n 0) new old ≡ pick (eqb n 0) (pick is_IsWide (pick is-long records old) old) old
unfolding pick
filled true true n h k old new records e = ap (λ (l : List ℕ). pick (eqb n 0) l old) (e refl refl)
filled true false n h k old new records e = rw (k refl refl)
filled false is-long n h k old new records e = rw (h refl)

-- records in front of a list, over the words of an area
front : (n : ℕ) (records others to : List ℕ) → length records ≡ n → copied n (records ++ others) to ≡ records ++ drop n to
front n records others to l = rw (take_at records others n l)

-- both areas after a call that refused with n, or with 0
pub record Areas (bs N C : List ℕ) (n : ℕ) (N' C' : List ℕ) : Type 0 where
  pub node_area : N' ≡ pick (eqb n 0) (nodes_after (checked bs) N (length C)) N
  pub cell_area : C' ≡ pick (eqb n 0) (cells_after (checked bs) (length N) C) C

pub refused_areas : {bs : List ℕ} {n p : ℕ} → checked bs ≡ no n p → (N C : List ℕ) → Areas bs N C n N C
unfolding nodes_after cells_after
refused_areas {n = n} e N C = record { node_area = rw e (either (eqb n 0) N); cell_area = rw e (either (eqb n 0) C) }

module _ {bs : List ℕ} (b : Bytes bs) (d : MemberDerivation bs) (dem : AsDemanded d.tree) (other_nodes other_cells N C : List ℕ) where
  t : Tree Member
  t = d.tree

  of_derivation : (n : ℕ) → (wide d.tree (length N) ≡ false → n ≡ 12) → (wide d.tree (length N) ≡ true → long d.tree (length C) ≡ false → n ≡ 13)
      → {N' C' : List ℕ} → N' ≡ pick (eqb n 0) (copied (node_words * (accepted d.tree).nodes) (node_records d.tree ++ other_nodes) N) N
      → C' ≡ pick (eqb n 0) (copied (cell_words * (accepted d.tree).cells) (cell_records d.tree ++ other_cells) C) C → Areas bs N C n N' C'
  unfolding t nodes_after cells_after accepted
  of_derivation n h k f g =
      let is = derivation_checked bs b d dem in
      let i = node_words * nodes t in
      let j = cell_words * length (cells t) in
      let node-words-long = width_dims (version t) 0 0 (dimensions_at t) (dimensions t) in
      let cell-words-long = width_rows cell_words (size (Cell (version t))) (cell_words_of (version t)) (λ _ _. refl) (cells_start t) (cells t) in
      record {
        node_area =
            f ∙ rw is
            (filled (wide t (length N)) (long t (length C)) n h k N (copied i (node_records t ++ other_nodes) N) (node_records t ++ drop i N)
            (λ _ _. front i (node_records t) other_nodes N node-words-long));
        cell_area =
            g ∙ rw is
            (filled (wide t (length N)) (long t (length C)) n h k C (copied j (cell_records t ++ other_cells) C) (cell_records t ++ drop j C)
            (λ _ _. front j (cell_records t) other_cells C cell-words-long));
      }

-- the refusal n of areas of some lengths, for an answer a
abbrev pub Too_short : Answer → ℕ → ℕ → ℕ → Type 0
Too_short a node_length cell_length n =
    (leb (node_words * a.nodes) node_length ≡ false → n ≡ 12)
    × (leb (node_words * a.nodes) node_length ≡ true → leb (cell_words * a.cells) cell_length ≡ false → n ≡ 13)

module _ {bs : List ℕ} (b : Bytes bs) {a : Answer} {node-list cell-list : List ℕ} (h : Taken bs a node-list cell-list) (N C : List ℕ) {n : ℕ} (k : Too_short a (length N) (length C) n) where
  areas : {N' C' : List ℕ} → N' ≡ pick (eqb n 0) (copied (node_words * a.nodes) node-list N) N → C' ≡ pick (eqb n 0) (copied (cell_words * a.cells) cell-list C) C → Areas bs N C n N' C'
  unfolding accepted
  areas f g =
      let k' : Too_short (accepted h.derivation.tree) (length N) (length C) n = rw h.answer at k in
      of_derivation b h.derivation h.demands h.other_nodes h.other_cells N C n k'.0 k'.1 (rw (h.answer, h.in_nodes) at f) (rw (h.answer, h.in_cells) at g)

  -- where nothing is refused, the lists and the areas are long enough
  has_room : (x y m : ℕ) → n ≡ 0 → (leb x y ≡ false → n ≡ suc m) → leb x y ≡ true
  has_room x y m fine short = go (leb x y) refl
    where
      go : (v : Bool) → leb x y ≡ v → leb x y ≡ true
      go true e = e
      go false e = absurd (let z = short e in omega (arith, fine, z))

  pub records_fit : n ≡ 0 → Fit a node-list cell-list N C
  unfolding accepted
  records_fit fine =
      let t = h.derivation.tree in
      let is-wide = has_room (node_words * a.nodes) (length N) 11 fine k.0 in
      let is-long = has_room (cell_words * a.cells) (length C) 12 fine (k.1 is-wide) in
      let node-count : a.nodes ≡ nodes t = ap (λ (x : Answer). x.nodes) h.answer in
      let cell-count : a.cells ≡ length (cells t) = ap (λ (x : Answer). x.cells) h.answer in
      let node-words-long = width_dims (version t) 0 0 (dimensions_at t) (dimensions t) in
      let cell-words-long = width_rows cell_words (size (Cell (version t))) (cell_words_of (version t)) (λ _ _. refl) (cells_start t) (cells t) in
      record {
        nodes_there = rw h.in_nodes (omega (arith, length-append (node_records t) h.other_nodes, node-words-long, node-count));
        cells_there = rw h.in_cells (omega (arith, length-append (cell_records t) h.other_cells, cell-words-long, cell-count));
        wide = leb-true (node_words * a.nodes) (length N) is-wide;
        long = leb-true (cell_words * a.cells) (length C) is-long;
      }

  pub with_records : eqb n 0 ≡ true → {N' C' : List ℕ} → Copied a node-list cell-list N C N' C' → Areas bs N C n N' C'
  unfolding pick
  with_records fine x = areas (rw fine x.node_area) (rw fine x.cell_area)

  pub without_records : eqb n 0 ≡ false → Areas bs N C n N C
  unfolding pick
  without_records not-fine = areas (rw not-fine) (rw not-fine)
