-- What reading a member leaves of the lengths of its shares, and a member that is not inside the buffer.
use Rattle.std.specs.Prelude.{◌≡◌, refl, Bool, true, false, List, [], ◌++◌, ℕ, ◌+◌, ◌*◌, ◌/◌, ◌%◌, ◌≤◌, ◌<◌, length, take, drop, leb, eqb}
use Rattle.std.proofs.Common.{◌∙◌, arith, length-append, length-drop, leb-true}
use Rattle.std.proofs.Math.ListN.{get_or-eq_default}
use Rattle.sizes.specs.Sizes.{most_members, node_words, cell_words}
use Rattle.sizes.specs.Basics.{pick, le, among}
use Rattle.grammar.specs.Layout.{Tree, size, spell, digits, spell_all, spell_fill, passes, suits}
use Rattle.grammar.specs.Laws.Layout.Read.{Got, got, no, lead, read, refusal}
use Rattle.grammar.specs.Laws.Layout.Check.{check}
use Rattle.grammar.specs.Part.{part_of}
use Rattle.grammar.specs.Sections.{HeaderStart}
use Rattle.grammar.specs.Records.{cell_words_of}
use Rattle.grammar.specs.Table.{Cell}
use Rattle.grammar.specs.Laws.Table.Words.{width_dims}
use Rattle.grammar.specs.Laws.Table.Words.{width_rows}
use Rattle.grammar.specs.Member.{Member, version, dimensions, dimensions_at, cells, cells_start, nodes, node_records, cell_records}
use Rattle.grammar.specs.Refused.{member_rule, body_rule}
use Rattle.grammar.specs.Laws.Member.Checked.{ended, checked}
use Rattle.answer.specs.Answer.{wide, long, nodes_after, cells_after}
use Rattle.members.specs.Members.{members, list_refusal, start, size as length_of, member_at, share_of, node_share_at, cell_share_at}
use Rattle.members.specs.Laws.Shares.{share_inside, share_length}

-- ---- an area has as many words as before

kept : (b c : Bool) (k : ℕ) (words old : List ℕ) → length words ≡ k → (b ≡ true → c ≡ true → k ≤ length old)
    → length (pick b (pick c (words ++ drop k old) old) old) ≡ length old
unfolding pick
kept true true k words old e h = rw (length-append, e, length-drop) (omega (arith, h refl refl))
kept true false k words old e h = refl
kept false c k words old e h = refl

pub nodes_length : (y : Got (Tree Member)) (old : List ℕ) (n : ℕ) → length (nodes_after y old n) ≡ length old
unfolding nodes_after
nodes_length (no k p) old n = refl
nodes_length (got t r p) old n =
    kept (wide t (length old)) (long t n) (node_words * nodes t) (node_records t) old (width_dims (version t) 0 0 (dimensions_at t) (dimensions t))
    (λ e _. leb-true (node_words * nodes t) (length old) e)

pub cells_length : (y : Got (Tree Member)) (n : ℕ) (old : List ℕ) → length (cells_after y n old) ≡ length old
unfolding cells_after
cells_length (no k p) n old = refl
cells_length (got t r p) n old =
    kept (wide t n) (long t (length old)) (cell_words * length (cells t)) (cell_records t) old
    (width_rows cell_words (size (Cell (version t))) (cell_words_of (version t)) (λ _ _. refl) (cells_start t) (cells t))
    (λ _ e. leb-true (cell_words * length (cells t)) (length old) e)

-- so a share of n keeps its words
module _ (y : Got (Tree Member)) (n i : ℕ) (h : i < n) where
  pub node_share_length : (nodes : List ℕ) (cell_length : ℕ) → length (node_share_at y n i nodes cell_length) ≡ length nodes / n
  unfolding node_share_at
  node_share_length nodes cell_length =
      nodes_length y (share_of (length nodes / n) i nodes) (cell_length / n) ∙ share_length (length nodes / n) i nodes (share_inside (length nodes) n i h)

  pub cell_share_length : (node_length : ℕ) (cells : List ℕ) → length (cell_share_at y n i node_length cells) ≡ length cells / n
  unfolding cell_share_at
  cell_share_length node_length cells =
      cells_length y (node_length / n) (share_of (length cells / n) i cells) ∙ share_length (length cells / n) i cells (share_inside (length cells) n i h)

-- ---- members that are not there

-- no bytes: the first field does not fit
pub empty_refused : checked [] ≡ no 2 0
unfolding checked ended check read passes suits among refusal pick lead spell digits le spell_all spell_fill member_rule body_rule HeaderStart
empty_refused = refl

-- a member is what its part of the buffer is read as, and the part of one that is not inside is empty
pub member_part : (buffer list : List ℕ) (i : ℕ) → checked (part_of buffer (start list i) (length_of list i)) ≡ member_at buffer list i
unfolding member_at part_of pick
member_part buffer list i = go (leb (start list i + length_of list i) (length buffer)) refl
  where
    go : (b : Bool) → leb (start list i + length_of list i) (length buffer) ≡ b → checked (part_of buffer (start list i) (length_of list i)) ≡ member_at buffer list i
    go true e = rw e
    go false e = rw e empty_refused

-- a member that the list has not is empty
pub member_none : (buffer list : List ℕ) (i : ℕ) → members list ≤ i → member_at buffer list i ≡ no 2 0
unfolding member_at pick
member_none buffer list i h = rw (get_or-eq_default list 0 {n = 2 * i + 1} (omega arith)) (go (leb (start list i + 0) (length buffer)))
  where
    go : (b : Bool) → pick b (checked (take 0 (drop (start list i) buffer))) (no 2 0) ≡ no 2 0
    go true = empty_refused
    go false = refl

-- ---- a list that is not refused

pub list_short : (list : List ℕ) → list_refusal list ≡ 0 → length list ≤ 2 * most_members
unfolding list_refusal pick
list_short list e = go (leb (length list) (2 * most_members)) refl e
  where
    go : (b : Bool) → leb (length list) (2 * most_members) ≡ b → ◌≡◌ {A = ℕ} (pick b (pick (eqb (length list % 2) 0) 0 26) 26) 0 → length list ≤ 2 * most_members
    go true t z = leb-true (length list) (2 * most_members) t
    go false t z = absurd (omega arith)
