-- A total is below 2^44: there are at most 4,096 cells.
use Rattle.std.specs.Prelude.{◌≡◌, refl, Bool, true, false, List, [], ◌∷◌, ℕ, suc, ◌+◌, ◌^◌, ◌<◌, Option, None, Some}
use Rattle.std.proofs.Common.{ap, arith}
use Rattle.std.proofs.Math.ListN.{length}
use Rattle.sizes.specs.Basics.{pick}
use Rattle.grammar.specs.Layout.{Tree, size}
use Rattle.grammar.specs.Table.{Cell}
use Rattle.grammar.specs.Member.{version, cells, nodes, cells_start, MemberDerivation}
use Rattle.total.specs.declared.LeafTotal.{LeafTotal}
use Rattle.total.specs.Total.{cells_say, member_cells, under, leaf_sums}
use Rattle.total.specs.Answers.{refused, totalled, unless_bad, answered, there, leaf_answer_of}
use Rattle.total.specs.Laws.Sums.{sums_within}
use Rattle.total.specs.Laws.LeafIs.{few_cells}

as_many : (v at : ℕ) (cs : List (Tree (Cell v))) → length (cells_say v at cs) ≡ length cs
unfolding cells_say
as_many v at [] = refl
as_many v at (c ∷ cs) = ap suc (as_many v (at + size (Cell v) c) cs)

either : (b : Bool) (x y : LeafTotal) → x.total < 2 ^ 44 → y.total < 2 ^ 44 → (pick b x y).total < 2 ^ 44
unfolding pick
either true x y h k = h
either false x y h k = k

unless_bad_below : (o : Option ℕ) (x : LeafTotal) → x.total < 2 ^ 44 → (unless_bad o x).total < 2 ^ 44
unless_bad_below (Some place) x h = omega arith
unless_bad_below None x h = h

module _ {bs : List ℕ} (d : MemberDerivation bs) (dimension leaf : ℕ) where
  sums_below : (leaf_sums d.tree dimension leaf).total < 2 ^ 44
  sums_below =
      let w = sums_within (under d.tree dimension leaf) (member_cells d.tree) in
      omega (arith, w.total, as_many (version d.tree) (cells_start d.tree) (cells d.tree), few_cells d)

  pub total_below : (leaf_answer_of d.tree dimension leaf).total < 2 ^ 44
  unfolding leaf_answer_of
  total_below =
      let s = leaf_sums d.tree dimension leaf in
      let n = nodes d.tree in
      let m = length (cells d.tree) in
      either (there d.tree dimension leaf) (answered n m s) (refused 19 0 0 0) (unless_bad_below s.bad (totalled n m s) sums_below) (omega arith)
