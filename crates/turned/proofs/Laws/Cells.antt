-- Cells to positions and back, one by one.
use Rattle.std.specs.Prelude.{◌≡◌, Bool, ℕ, ◌+◌, ◌<◌, eqb, length}
use Rattle.std.proofs.Math.Path.{refl, ap}
use Rattle.std.proofs.Common.{◌∙◌}
use Rattle.std.proofs.Math.Bool.{true, false}
use mathlib.Core.List.{List, ◌∷◌, map}
use Rattle.sizes.specs.Basics.{pick}
use Rattle.grammar.specs.Layout.{All, all_none, all_more}
use Rattle.grammar.specs.Index.{product, coordinate}
use Rattle.total.specs.Total.{CellSays, with_cell, sums}
use Rattle.position.specs.Answers.{Position, CellIndex, along, at, position}
use Rattle.position.specs.Laws.OneToOne.{each_index, position_index, same_leaf}
use Rattle.turned.specs.Turned.{AxisOrder, CellAt, Fitting, to_position, to_index, under_at, turn, chosen, sums_at}

module _ (ns : List ℕ) where
  -- each is inside the table
  abbrev pub AllInside : List CellSays → Type 0
  AllInside cs = All (λ (c : CellSays). c.index < product ns) cs

module _ (ns : List ℕ) (x : AxisOrder) (f : Fitting ns x) where
  placed : (c : CellSays) → c.index < product ns
      → position ns x.layers x.rows x.columns x.order c.index
      ≡ at (along ns x.order c.index 0 x.layers) (along ns x.order c.index x.layers x.rows) (along ns x.order c.index (x.layers + x.rows) x.columns)
  placed c h = (each_index ns x.layers x.rows x.columns x.order f c.index h).0

  -- Placed: no position is refused
  pub none_refused : {cs : List CellSays} → AllInside ns cs → All (λ (c : CellSays). (position ns x.layers x.rows x.columns x.order c.index).refusal ≡ 0) cs
  none_refused all_none = all_none
  none_refused (all_more {x = c} h hs) = all_more {x = c} (ap (λ (p : Position). p.refusal) (placed c h)) (none_refused hs)

  -- a cell turned to its position and back is the cell
  pub cell_back : (c : CellSays) → c.index < product ns → to_index ns x (to_position ns x c) ≡ c
  cell_back c h =
      let e = placed c h in
      let i = position_index ns x.layers x.rows x.columns x.order c.index _ _ _ e in
      let q : (to_index ns x (to_position ns x c)).index ≡ c.index = rw e (ap (λ (r : CellIndex). r.index) i) in
      ap {B = CellSays} (λ k. record { index = k; place = c.place; contents = c.contents }) q

  -- Back: and so are all
  pub cells_back : {cs : List CellSays} → AllInside ns cs → map (to_index ns x) (map (to_position ns x) cs) ≡ cs
  cells_back all_none = refl
  cells_back (all_more {x = c} h hs) = rw (cell_back c h, cells_back hs)

  module _ (dimension leaf : ℕ) (there : dimension < length ns) where
    -- under a leaf by the position is under it by the index
    under_same : (c : CellSays) → c.index < product ns → under_at ns x dimension leaf (to_position ns x c) ≡ eqb (coordinate ns dimension c.index) leaf
    under_same c h =
        let e = placed c h in
        rw e (ap (λ k. eqb k leaf) (same_leaf ns x.layers x.rows x.columns x.order c.index _ _ _ e dimension there))

    by_test : (c : CellSays) (cs : List CellSays) → c.index < product ns → (b : Bool) → eqb (coordinate ns dimension c.index) leaf ≡ b
        → sums_at ns x dimension leaf (map (to_position ns x) cs) ≡ sums (λ k. eqb (coordinate ns dimension k) leaf) cs
        → sums (λ _. true) (map (to_index ns x) (pick b (to_position ns x c ∷ chosen (under_at ns x dimension leaf) (map (to_position ns x) cs)) (chosen (under_at ns x dimension leaf) (map (to_position ns x) cs))))
        ≡ sums (λ k. eqb (coordinate ns dimension k) leaf) (c ∷ cs)
    unfolding sums with_cell pick
    by_test c cs h true e i =
        ap (λ (d : CellSays). sums (λ _. true) (d ∷ map (to_index ns x) (chosen (under_at ns x dimension leaf) (map (to_position ns x) cs)))) (cell_back c h) ∙ rw (e, i)
    by_test c cs h false e i = rw e i

    -- Sums: those chosen by their positions have the sums of those under the leaf by their indexes
    pub chosen_sums : {cs : List CellSays} → AllInside ns cs
        → sums_at ns x dimension leaf (map (to_position ns x) cs) ≡ sums (λ k. eqb (coordinate ns dimension k) leaf) cs
    unfolding chosen sums
    chosen_sums all_none = refl
    chosen_sums (all_more {x = c} {xs = cs} h hs) =
        rw (under_same c h) (by_test c cs h (eqb (coordinate ns dimension c.index) leaf) refl (chosen_sums hs))

-- Turned: cells at their positions turn to their positions on other axes
pub turn_is : (ns : List ℕ) (x : AxisOrder) → Fitting ns x → (y : AxisOrder) → {cs : List CellSays} → AllInside ns cs → turn ns x y (map (to_position ns x) cs) ≡ map (to_position ns y) cs
turn_is ns x f y all_none = refl
turn_is ns x f y (all_more {x = c} {xs = cs} h hs) =
    ap (λ (d : CellSays). to_position ns y d ∷ turn ns x y (map (to_position ns x) cs)) (cell_back ns x f c h)
    ∙ ap {B = List CellAt} (λ ds. to_position ns y c ∷ ds) (turn_is ns x f y hs)
