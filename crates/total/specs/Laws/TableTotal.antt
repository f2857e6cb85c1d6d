-- "Where no cell of the table is refused, the totals over all leaves of any one dimension add up to the same table total."
use Rattle.std.specs.Prelude.{◌≡◌, refl, Bool, true, false, List, [], ◌∷◌, ℕ, ◌<◌, length, get_or, None}
use Rattle.std.proofs.Common.{◌∙◌, arith}
use Rattle.std.proofs.lemmas.List.{length-map}
use borrow.Author.Tests.{lt-ltb}
use Rattle.sizes.specs.Basics.{pick}
use Rattle.grammar.specs.Layout.{Tree, All, all_none, all_more}
use Rattle.grammar.specs.Index.{coordinate}
use Rattle.grammar.specs.Laws.Index.Coordinates.{coordinate_below}
use Rattle.grammar.specs.Records.{dim_leaves}
use Rattle.grammar.specs.Member.{Member, version, dimensions, cells, cells_start, ns, places, AsDemanded}
use Rattle.counts.specs.declared.Kind.{Kind}
use Rattle.counts.specs.declared.Kind.TheVariants.{Text, Missing, Number, Bad}
use Rattle.total.specs.declared.sums.Sums.{Sums}
use Rattle.counts.specs.Count.{kind}
use Rattle.total.specs.Total.{CellSays, add, with_cell, sums, member_cells, leaf_sums, table_sums}
use Rattle.total.specs.Answers.{leaf_answer_of}
use Rattle.total.specs.Laws.Under.{all_say}
use Rattle.total.specs.Laws.Leaves.{sum_to, sum_same, leaves_add_up}

-- a cell that is added to sums, none of them bad, is not bad, and neither were they
kept_good : (k : Kind) (place : ℕ) (s s' : Sums) → (add k place s).bad ≡ None → (s.bad ≡ None) × (s'.bad ≡ None → (add k place s').bad ≡ None)
unfolding add
kept_good Text place s s' e = (e, λ f. f)
kept_good Missing place s s' e = (e, λ f. f)
kept_good (Number n) place s s' e = (e, λ f. f)
kept_good Bad place s s' e = absurd (let z : ◌≡◌ {A = ℕ} 0 1 = cc in omega arith)

either : (b : Bool) (s s' : Sums) → s.bad ≡ None → s'.bad ≡ None → (pick b s s').bad ≡ None
unfolding pick
either true s s' e f = e
either false s s' e f = f

-- where none of all cells is bad, none of some is
some_good : (test : ℕ → Bool) (cs : List CellSays) → (sums (λ _. true) cs).bad ≡ None → (sums test cs).bad ≡ None
unfolding sums with_cell pick
some_good test [] e = refl
some_good test (c ∷ cs) e =
    let k = kind c.contents.raw.form c.contents.raw.bits in
    let good = kept_good k c.place (sums (λ _. true) cs) (sums test cs) e in
    let before = some_good test cs good.0 in
    either (test c.index) (add k c.place (sums test cs)) (sums test cs) (good.1 before) before

module _ (t : Tree Member) (a : AsDemanded t) (i : ℕ) (there : i < length (dimensions t)) where
  how_many : length (ns t) ≡ length (dimensions t)
  how_many = length-map (dimensions t) (λ d. length (dim_leaves (version t) d))

  -- every cell is under a leaf
  under_some : {ks : List ℕ} → All (λ k. k < places t) ks → All (λ k. coordinate (ns t) i k < get_or (ns t) i 0) ks
  under_some all_none = all_none
  under_some (all_more {x = k} h hs) = all_more (coordinate_below (ns t) i k h (omega (arith, how_many))) (under_some hs)

  -- the total of a leaf that is there, where no cell is refused
  leaf_total_lem : (table_sums t).bad ≡ None → (j : ℕ) → j < get_or (ns t) i 0 → (leaf_answer_of t i j).total ≡ (leaf_sums t i j).total
  unfolding leaf_answer_of pick
  leaf_total_lem good j h = rw (lt-ltb i (length (dimensions t)) there, lt-ltb j (get_or (ns t) i 0) h, some_good _ (member_cells t) good)

  pub totals_add_up : (table_sums t).bad ≡ None → sum_to (get_or (ns t) i 0) (λ j. (leaf_answer_of t i j).total) ≡ (table_sums t).total
  totals_add_up good =
      sum_same (get_or (ns t) i 0) (λ j. (leaf_answer_of t i j).total) (λ j. (leaf_sums t i j).total) (leaf_total_lem good)
      ∙ leaves_add_up (coordinate (ns t) i) (get_or (ns t) i 0) (all_say (version t) (λ k. coordinate (ns t) i k < get_or (ns t) i 0) (cells_start t) (cells t) (under_some a.inside.below))
