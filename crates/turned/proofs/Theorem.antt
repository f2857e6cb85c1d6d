-- T-11 of members: "turning a member's cells to any other axis order (triple to index to the other triple) and back gives the same cells, each
-- leaf keeping T-01's total, where it has one, over the turned triples".
use Rattle.std.specs.Prelude.{◌≡◌, true, map, ℕ, ◌<◌, ltb, length, get_or}
use Rattle.std.proofs.Common.{ap, arith}
use borrow.Author.Tests.{ltb-true}
use Rattle.sizes.specs.Basics.{pick}
use Rattle.grammar.specs.Layout.{Tree, All}
use Rattle.grammar.specs.Laws.Layout.Tests.{and_is_true}
use Rattle.grammar.specs.Member.{Member, dimensions, nodes, cells, ns, AsDemanded}
use Rattle.total.specs.Total.{CellSays, member_cells, leaf_sums}
use Rattle.total.specs.Answers.{answered, there, leaf_answer_of}
use Rattle.position.specs.Answers.{position}
use Rattle.turned.specs.Turned.{AxisOrder, Fitting, to_position, to_index, turn, sums_at}
use Rattle.turned.proofs.Laws.OwnAxes.{n_count, cells_inside}
use Rattle.turned.proofs.Laws.Cells.{none_refused, cells_back, chosen_sums, turn_is}

-- a member as demanded, and any axes that fit its n: its own are such (`Laws.OwnAxes.own_fit`)
module _ (t : Tree Member) (a : AsDemanded t) (x : AxisOrder) (f : Fitting (ns t) x) where
  -- Placed: each of the member's cells has a position on these axes
  pub cells_placed : All (λ (c : CellSays). (position (ns t) x.layers x.rows x.columns x.order c.index).refusal ≡ 0) (member_cells t)
  cells_placed = none_refused (ns t) x f (cells_inside t a)

  -- Index: the member's cells, turned to their positions and back to their indexes, are the same cells
  pub index_back : map (to_index (ns t) x) (map (to_position (ns t) x) (member_cells t)) ≡ member_cells t
  index_back = cells_back (ns t) x f (cells_inside t a)

  module _ (y : AxisOrder) (g : Fitting (ns t) y) where
    -- Turned: they turn to their positions on the other axes ..
    pub turned_there : turn (ns t) x y (map (to_position (ns t) x) (member_cells t)) ≡ map (to_position (ns t) y) (member_cells t)
    turned_there = turn_is (ns t) x f y (cells_inside t a)

    -- Back: .. and back to the same cells
    pub turned_back : turn (ns t) y x (turn (ns t) x y (map (to_position (ns t) x) (member_cells t))) ≡ map (to_position (ns t) x) (member_cells t)
    turned_back = rw turned_there (turn_is (ns t) y g x (cells_inside t a))

    -- Total: the cells under a leaf, chosen by their turned triples, have T-01's sums for that leaf ..
    pub leaf_total_lem : (dimension leaf : ℕ) → dimension < length (ns t) → sums_at (ns t) y dimension leaf (turn (ns t) x y (map (to_position (ns t) x) (member_cells t))) ≡ leaf_sums t dimension leaf
    leaf_total_lem dimension leaf l = rw turned_there (chosen_sums (ns t) y g dimension leaf l (cells_inside t a))

    -- .. so they give what T-01 answers for a leaf that is there
    pub leaf_answer : (dimension leaf : ℕ) → there t dimension leaf ≡ true
        → answered (nodes t) (length (cells t)) (sums_at (ns t) y dimension leaf (turn (ns t) x y (map (to_position (ns t) x) (member_cells t)))) ≡ leaf_answer_of t dimension leaf
    unfolding leaf_answer_of pick
    leaf_answer dimension leaf h =
        let l = ltb-true dimension (length (dimensions t)) (and_is_true (ltb dimension (length (dimensions t))) (ltb leaf (get_or (ns t) dimension 0)) h).0 in
        rw h (ap (answered (nodes t) (length (cells t))) (leaf_total_lem dimension leaf (omega (arith, l, n_count t))))
