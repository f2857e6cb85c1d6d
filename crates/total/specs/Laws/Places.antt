-- A place of an answer is inside the member, so that a word of 32 bits keeps it.
use Rattle.std.specs.Prelude.{◌≡◌, Bool, true, false, List, ◌++◌, ℕ, ◌+◌, ◌^◌, ◌≤◌, ◌<◌, drop, ⊤, Option, None, Some}
use Rattle.std.proofs.Math.Path.{refl}
use Rattle.std.proofs.Common.{ap, ◌∙◌, append_assoc, arith, length-append, length-drop}
use Rattle.std.proofs.Math.ListN.{length}
use Rattle.sizes.specs.Basics.{pick}
use Rattle.grammar.specs.Layout.{Bytes, Tree, spell_all, spell, size, All, all_none, all_more, Valid}
use Rattle.grammar.specs.Laws.Layout.Read.{Got, got, no}
use Rattle.grammar.specs.Laws.Layout.Spelt as spelt
use Rattle.layout.specs.Words.{word32}
use Rattle.layout.specs.Laws.Words.{word_same}
use Rattle.grammar.specs.Table.{Cell}
use Rattle.grammar.specs.Laws.Table.LeastBytes.{cell_bytes}
use Rattle.grammar.specs.Member.{Member, version, cells, cells_start, nodes, final}
use Rattle.grammar.specs.Laws.Member.Checked.{checked}
use Rattle.answer.specs.Answer.{wide, long, refusal, answer_of, nodes_after, cells_after}
use Rattle.answer.specs.Demand3.{Demand3}
use Rattle.answer.proofs.Laws.Holds.{demand3}
use Rattle.grammar.proofs.Laws.Member.Demanded as demanded
use Rattle.grammar.specs.Laws.Member.RecordsSpelt.{cells_there}
use Rattle.counts.specs.declared.Kind.{Kind}
use Rattle.counts.specs.declared.Kind.TheVariants.{Text, Missing, Number, Bad}
use Rattle.counts.specs.Count.{kind}
use Rattle.total.specs.declared.sums.Sums.{Sums}
use Rattle.total.specs.declared.LeafTotal.{LeafTotal}
use Rattle.total.specs.Total.{CellSays, add, with_cell, sums, cells_say, under, leaf_sums}
use Rattle.total.specs.Answers.{member_first, refused, unless_bad, answered, there, leaf_answer_of, total_answer}

-- ---- sums

-- a place, if there is one, is at most m
abbrev Up_to : ℕ → Option ℕ → Type 0
Up_to m (Some place) = place ≤ m
Up_to m None = ⊤

either : (b : Bool) (m : ℕ) (s s' : Sums) → Up_to m s.bad → Up_to m s'.bad → Up_to m (pick b s s').bad
unfolding pick
either true m s s' h k = h
either false m s s' h k = k

added : (m : ℕ) (k : Kind) (place : ℕ) (s : Sums) → place ≤ m → Up_to m s.bad → Up_to m (add k place s).bad
unfolding add
added m Text place s h l = l
added m Missing place s h l = l
added m (Number n) place s h l = l
added m Bad place s h l = h

sums_place : (test : ℕ → Bool) (m : ℕ) {cs : List CellSays} → All (λ c. c.place ≤ m) cs → Up_to m (sums test cs).bad
unfolding sums with_cell
sums_place test m all_none = tt
sums_place test m (all_more {x = c} {xs = cs} h hs) =
    let k = kind c.contents.raw.form c.contents.raw.bits in
    let s = sums test cs in
    let l = sums_place test m hs in
    either (test c.index) m (add k c.place s) s (added m k c.place s h l) l

-- ---- the cells of a member

cells_inside : (version : ℕ) (bs : List ℕ) (at : ℕ) {cs : List (Tree (Cell version))} (after : List ℕ) → drop at bs ≡ spell_all (spell (Cell version)) cs ++ after → All (Valid (Cell version)) cs
    → All (λ c. c.place ≤ length bs) (cells_say version at cs)
unfolding cells_say spell_all size
cells_inside version bs at after e all_none = all_none
cells_inside version bs at after e (all_more {x = c} {xs = cs} h hs) =
    let split : drop at bs ≡ spell (Cell version) c ++ (spell_all (spell (Cell version)) cs ++ after) = e ∙ append_assoc (spell (Cell version) c) (spell_all (spell (Cell version)) cs) after in
    let long : length (drop at bs) ≡ length (spell (Cell version) c) + length (spell_all (spell (Cell version)) cs ++ after) = ap length split ∙ length-append (spell (Cell version) c) (spell_all (spell (Cell version)) cs ++ after) in
    let inside : at + 8 ≤ length bs = omega (arith, long, length-drop at bs, cell_bytes version c h) in
    all_more inside
    (cells_inside version bs (at + size (Cell version) c) after (spelt.after bs at (spell (Cell version) c) (spell_all (spell (Cell version)) cs ++ after) split) hs)

-- ---- the answer

either_total : (b : Bool) (m : ℕ) (x y : LeafTotal) → x.place ≤ m → y.place ≤ m → (pick b x y).place ≤ m
unfolding pick
either_total true m x y h k = h
either_total false m x y h k = k

unless_bad_place : (o : Option ℕ) (m : ℕ) (x : LeafTotal) → Up_to m o → x.place ≤ m → (unless_bad o x).place ≤ m
unless_bad_place (Some place) m x h k = h
unless_bad_place None m x h k = k

module _ {bs : List ℕ} (b : Bytes bs) (N C : List ℕ) (dimension leaf : ℕ) where
  leaf_place : (t : Tree Member) (r : List ℕ) (p : ℕ) → checked bs ≡ got t r p → (leaf_answer_of t dimension leaf).place ≤ length bs
  unfolding leaf_answer_of
  leaf_place t r p e =
      let k = demanded.accepted bs b t r p e in
      let d = k.derivation in
      let s : Up_to (length bs) (leaf_sums d.tree dimension leaf).bad =
      sums_place (under d.tree dimension leaf) (length bs) (cells_inside (version d.tree) bs (cells_start d.tree) (final d.ends) (cells_there d) d.valid.1.2.1.2.1) in
      let s' : Up_to (length bs) (leaf_sums t dimension leaf).bad = rw k.its_tree at s in
      either_total (there t dimension leaf) (length bs) (answered (nodes t) (length (cells t)) (leaf_sums t dimension leaf)) (refused 19 0 0 0)
      (unless_bad_place (leaf_sums t dimension leaf).bad (length bs) _ s' (omega arith)) (omega arith)

  pub total_place : (total_answer (checked bs) (length N) (length C) dimension leaf).place ≤ length bs
  unfolding total_answer member_first answer_of refusal
  total_place = go (checked bs) refl
    where
      d : Demand3 bs N C (answer_of (checked bs) (length N) (length C)) (nodes_after (checked bs) N (length C)) (cells_after (checked bs) (length N) C)
      d = demand3 bs b N C (record { answer = refl; node_area = refl; cell_area = refl })

      go : (y : Got (Tree Member)) → checked bs ≡ y → (total_answer y (length N) (length C) dimension leaf).place ≤ length bs
      go (no n p) e = let l : (answer_of (no n p) (length N) (length C)).place ≤ length bs = rw e at d.place.0 in l
      go (got t r p) e =
          either_total (wide t (length N)) (length bs) (pick (long t (length C)) (leaf_answer_of t dimension leaf) (refused 13 0 (nodes t) (length (cells t)))) (refused 12 0 (nodes t) (length (cells t)))
          (either_total (long t (length C)) (length bs) (leaf_answer_of t dimension leaf) (refused 13 0 (nodes t) (length (cells t))) (leaf_place t r p e) (omega arith)) (omega arith)

  -- a member has at most 1,048,576 bytes, and a longer one is refused at 0
  pub place_kept : let x = total_answer (checked bs) (length N) (length C) dimension leaf in length bs < 2 ^ 32 → word32 x.place ≡ x.place
  place_kept h = word_same _ (omega (arith, total_place))
