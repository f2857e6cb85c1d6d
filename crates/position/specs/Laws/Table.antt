-- A table's index is the position on one axis that has all its dimensions, the last the inner one. So what holds of turning to other axes
-- holds of an index and its positions.
use Rattle.std.specs.Prelude.{◌≡◌, refl, Bool, true, false, ℕ, zero, suc, ◌+◌, ◌*◌, ◌%◌, ◌≤◌, ◌<◌, eqb, length, get_or}
use Rattle.std.proofs.Math.Path.{sym}
use Rattle.std.proofs.Common.{ap, ◌∙◌, add-zero, zero-add, mul_comm, mul_assoc, arith}
use mathlib.Core.List.{List, [], ◌∷◌, append-nil}
use Rattle.std.proofs.lemmas.Bool.{eqb-false}
use Rattle.std.proofs.Math.ListN.{get_or-map}
use Rattle.sizes.specs.Basics.{among}
use Rattle.grammar.specs.Layout.{All, all_none, all_more}
use Rattle.grammar.specs.RecordWords.{word}
use Rattle.grammar.specs.Once.{Distinct}
use Rattle.grammar.specs.Index.{product, index_from, index, coordinates, coordinate}
use Rattle.grammar.specs.Laws.Index.Coordinates.{coordinates_shape, index_of_coordinates, coordinate_of, coordinate_below}
use Rattle.position.specs.Axes.{position_on, span, coordinate_on, positions, coordinate_at, turned, pairs, index_at}
use Rattle.position.specs.Laws.Among.{none_among, first_or_later}
use Rattle.position.specs.Laws.Axis.{Inside, Same, coordinate_position}
use Rattle.position.specs.Laws.Turned.{Axes, joined, Fits, fits_none, fits_more, from_first, positions_same, in_table, turned_fits, turned_coordinate, turned_back}

-- d dimensions, the last first
unfoldable pub down : ℕ → List ℕ
down zero = []
down (suc d) = d ∷ down d

-- the axes of which an index is the position
abbrev pub whole : ℕ → List (List ℕ)
whole d = down d ∷ []

-- ---- the dimensions of that axis

pub below_down : (d e : ℕ) → among e (down d) ≡ true → e < d
unfolding down
below_down zero e m = none_among e m
below_down (suc d) e m = first_or_later e d (down d) m (λ q. omega arith) (λ q r. let h = below_down d e r in omega arith)

down_below_by : (d e : ℕ) → e < suc d → (b : Bool) → eqb e d ≡ b → (e < d → among e (down d) ≡ true) → among e (d ∷ down d) ≡ true
unfolding among
down_below_by d e h true q i = rw q
down_below_by d e h false q i = rw q (i (let f = eqb-false e d q in omega arith))

pub down_below : (d e : ℕ) → e < d → among e (down d) ≡ true
unfolding down
down_below zero e h = absurd (omega arith)
down_below (suc d) e h = down_below_by d e h (eqb e d) refl (down_below d e)

not_true_false : (b : Bool) → (b ≡ true → ⊥) → b ≡ false
not_true_false true f = absurd (f refl)
not_true_false false f = refl

pub down_distinct : (d : ℕ) → Distinct (down d)
unfolding down
down_distinct zero = tt
down_distinct (suc d) = (not_true_false (among d (down d)) (λ m. let h = below_down d d m in omega arith), down_distinct d)

all_below : (d m : ℕ) → d ≤ m → All (λ e. e < m) (down d)
unfolding down
all_below zero m h = all_none
all_below (suc d) m h = all_more {x = d} (omega arith) (all_below d m (omega arith))

down_length : (d : ℕ) → length (down d) ≡ d
unfolding down
down_length zero = refl
down_length (suc d) = rw (down_length d)

pub whole_axes : (d : ℕ) → Axes d (whole d)
unfolding joined
whole_axes d = record {
  once = record { below = rw (append-nil (down d)) (all_below d d (omega arith)); distinct = rw (append-nil (down d)) (down_distinct d) };
  whole = rw (append-nil (down d)) (down_length d);
}

-- ---- the product

-- the n of c dimensions from dimension i on
listed : (ℕ → ℕ) → ℕ → ℕ → List ℕ
listed n i zero = []
listed n i (suc c) = n i ∷ listed n (i + 1) c

listed_last : (n : ℕ → ℕ) (i c : ℕ) → product (listed n i (suc c)) ≡ n (i + c) * product (listed n i c)
unfolding listed product
listed_last n i zero = rw (add-zero i)
listed_last n i (suc c) =
    let e : i + 1 + c ≡ i + suc c = omega arith in
    let p = product (listed n (i + 1) c) in
    rw (listed_last n (i + 1) c, e)
    (sym (mul_assoc (n i) (n (i + suc c)) p) ∙ rw (mul_comm (n i) (n (i + suc c))) (mul_assoc (n (i + suc c)) (n i) p))

span_listed : (n : ℕ → ℕ) (d : ℕ) → span n (down d) ≡ product (listed n 0 d)
unfolding product down listed
span_listed n zero = refl
span_listed n (suc d) = rw (span_listed n d) (sym (rw (zero-add d) at (listed_last n 0 d)))

listed_is : (ns : List ℕ) (n : ℕ → ℕ) (i : ℕ) → ((e : ℕ) → e < length ns → n (i + e) ≡ get_or ns e 0) → listed n i (length ns) ≡ ns
unfolding listed
listed_is [] n i h = refl
listed_is (m ∷ ns) n i h =
    let a : n i ≡ m = rw (add-zero i) at (h 0 (omega arith)) in
    rw (
      a,
      listed_is ns n (i + 1) (λ e l. let q : i + 1 + e ≡ i + suc e = omega arith in rw q (h (suc e) (omega arith))),
    )

-- Product: the positions on that axis are as many as the table has places
pub span_whole : (ns : List ℕ) → span (word ns) (down (length ns)) ≡ product ns
unfolding word
span_whole ns = span_listed (word ns) (length ns) ∙ ap product (listed_is ns (word ns) 0 (λ e l. rw (zero-add e)))

-- ---- the index

from_down : (n x : ℕ → ℕ) (i c : ℕ) → index_from (position_on n x (down i)) (pairs n x i c) ≡ position_on n x (down (i + c))
unfolding pairs position_on down
from_down n x i zero = rw (add-zero i)
from_down n x i (suc c) =
    let q : i + suc c ≡ suc i + c = omega arith in
    let r : i + 1 ≡ suc i = omega arith in
    rw (q, r) (from_down n x (suc i) c)

-- Index: 003's index is the position on that axis
pub index_down : (n x : ℕ → ℕ) (d : ℕ) → index (pairs n x 0 d) ≡ position_on n x (down d)
unfolding position_on down
index_down n x d = rw (zero-add d) at (from_down n x 0 d)

pairs_are : (n x : ℕ → ℕ) (i : ℕ) (ds : List (ℕ × ℕ)) → ((e : ℕ) → e < length ds → (n (i + e), x (i + e)) ≡ get_or ds e (0, 0)) → pairs n x i (length ds) ≡ ds
unfolding pairs
pairs_are n x i [] h = refl
pairs_are n x i (d ∷ ds) h =
    let a : (n i, x i) ≡ d = rw (add-zero i) at (h 0 (omega arith)) in
    rw (
      a,
      pairs_are n x (i + 1) ds (λ e l. let q : i + 1 + e ≡ i + suc e = omega arith in rw q (h (suc e) (omega arith))),
    )

coordinates_long : (ns : List ℕ) (k : ℕ) → length (coordinates ns k) ≡ length ns
unfolding coordinates
coordinates_long [] k = refl
coordinates_long (n ∷ ns) k = rw (coordinates_long ns (k % product ns))

coordinates_pairs : (ns : List ℕ) (k : ℕ) → pairs (word ns) (λ e. coordinate ns e k) 0 (length ns) ≡ coordinates ns k
unfolding word
coordinates_pairs ns k =
    let ds = coordinates ns k in
    let l = coordinates_long ns k in
    let n : (e : ℕ) → get_or ns e 0 ≡ (get_or ds e (0, 0)).0 = λ e. rw (coordinates_shape ns k) at (get_or-map (λ (d : ℕ × ℕ). d.0) ds e (0, 0)) in
    rw l at (pairs_are (word ns) (λ e. coordinate ns e k) 0 ds (λ e h. rw (zero-add e, n e, coordinate_of ns e k)))

module _ (ns : List ℕ) (k : ℕ) (h : k < product ns) where
  -- an index's coordinates are below their n
  pub table_inside : Inside (word ns) (λ e. coordinate ns e k) (down (length ns))
  unfolding word
  table_inside e m = coordinate_below ns e k h (below_down (length ns) e m)

  index_position : position_on (word ns) (λ e. coordinate ns e k) (down (length ns)) ≡ k
  index_position = sym (index_down (word ns) (λ e. coordinate ns e k) (length ns)) ∙ ap index (coordinates_pairs ns k) ∙ index_of_coordinates ns k h

  -- Coordinate: an index's coordinates are those on that axis
  pub coordinate_down : Same (coordinate_on (word ns) (down (length ns)) k) (λ e. coordinate ns e k) (down (length ns))
  coordinate_down e m = rw index_position at (coordinate_position (word ns) (λ e. coordinate ns e k) (down (length ns)) table_inside e m)

  pub whole_fits : Fits (word ns) (whole (length ns)) (k ∷ [])
  whole_fits = fits_more {a = down (length ns)} {k = k} (rw (span_whole ns) h) fits_none

  -- Turned: the positions of an index's coordinates are those to which it turns
  pub positions_turned : {axs : List (List ℕ)} → Axes (length ns) axs → positions (word ns) (λ e. coordinate ns e k) axs ≡ turned (word ns) (whole (length ns)) axs (k ∷ [])
  unfolding turned
  positions_turned {axs} x =
      positions_same (word ns) (λ e. coordinate ns e k) (coordinate_at (word ns) (whole (length ns)) (k ∷ [])) axs
      (λ e m.
      let t = down_below (length ns) e (in_table x e m) in
      sym (from_first (word ns) (down (length ns)) [] k [] e t ∙ coordinate_down e t))

-- Index: the index at some positions is that to which they turn
pub index_turned : (ns : List ℕ) (axs : List (List ℕ)) (ks : List ℕ) → turned (word ns) axs (whole (length ns)) ks ≡ index_at ns axs ks ∷ []
unfolding turned positions
index_turned ns axs ks = rw (index_down (word ns) (coordinate_at (word ns) axs ks) (length ns))

-- ---- both ways round

module _ (ns : List ℕ) {axs : List (List ℕ)} (x : Axes (length ns) axs) where
  pub table_fits : (k : ℕ) → k < product ns → Fits (word ns) axs (positions (word ns) (λ e. coordinate ns e k) axs)
  table_fits k h = rw (positions_turned ns k h x) (turned_fits (word ns) (whole_axes (length ns)) x (k ∷ []) (whole_fits ns k h))

  -- Round: the index at an index's positions is the index
  pub index_back : (k : ℕ) → k < product ns → index_at ns axs (positions (word ns) (λ e. coordinate ns e k) axs) ≡ k
  index_back k h =
      let e : index_at ns axs (positions (word ns) (λ e. coordinate ns e k) axs) ∷ [] ≡ k ∷ [] =
      sym (index_turned ns axs (positions (word ns) (λ e. coordinate ns e k) axs))
      ∙ rw (positions_turned ns k h x) (turned_back (word ns) (whole_axes (length ns)) x (k ∷ []) (whole_fits ns k h)) in
      ap (λ t. get_or t 0 0) e

  -- Coordinate: the coordinates at an index's positions are the index's
  pub coordinate_kept : (k : ℕ) → k < product ns → (e : ℕ) → e < length ns → coordinate_at (word ns) axs (positions (word ns) (λ e. coordinate ns e k) axs) e ≡ coordinate ns e k
  coordinate_kept k h e l =
      let t = down_below (length ns) e l in
      rw (positions_turned ns k h x)
      (turned_coordinate (word ns) (whole_axes (length ns)) x (k ∷ []) (whole_fits ns k h) e l
      ∙ from_first (word ns) (down (length ns)) [] k [] e t
      ∙ coordinate_down ns k h e t)

  fits_index : {m : ℕ} → Fits (word ns) (whole (length ns)) (m ∷ []) → m < product ns
  fits_index (fits_more l fits_none) = rw (span_whole ns) at l

  module _ (ks : List ℕ) (f : Fits (word ns) axs ks) where
    -- Below: the index at positions that fit is below the product
    pub index_below : index_at ns axs ks < product ns
    index_below = fits_index (rw (index_turned ns axs ks) at (turned_fits (word ns) x (whole_axes (length ns)) ks f))

    -- Round: the positions of the index at positions that fit are the positions
    pub positions_back : positions (word ns) (λ e. coordinate ns e (index_at ns axs ks)) axs ≡ ks
    positions_back =
        positions_turned ns (index_at ns axs ks) index_below x
        ∙ rw (← (index_turned ns axs ks)) (turned_back (word ns) x (whole_axes (length ns)) ks f)
