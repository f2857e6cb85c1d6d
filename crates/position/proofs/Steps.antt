-- One turn of each loop: the first of a list is passed.
use mathlib.Core.Path.{◌≡◌, refl, sym, ◌∙◌}
use mathlib.Core.Bool.{Bool, true, false, ◌&&◌, not}
use mathlib.Core.List.{List, [], ◌∷◌}
use Prim.Native.Nat.{ℕ, zero, suc, ◌+◌, ◌-◌, ◌*◌, ◌/◌, ◌%◌, ◌≤◌, ◌<◌, min}
use native.Mathlib.Nat.{min-eq_left, min-eq_right, div-div-eq-div-mul, div-eq_of_lt}
use native.Mathlib.Numerals.{add-one}
use native.Mathlib.Omega.{arith}
use borrow.Author.Tests.{eq-eqb, ne_eqb, eqb-true, eqb-false, lt-ltb, le-ltb, leb-true, leb-false}
use lib.Dec.{leb, eqb}
use lib.ListN.{length, get_or, set, take, drop, take-append-drop}
use lib.Seq.{get_or-set_same, get_or-set_other}
use Rattle.sizes.specs.Sizes.{most_places}
use Rattle.sizes.specs.Basics.{among, pick}
use Rattle.grammar.specs.RecordWords.{word}
use Rattle.grammar.specs.Once.{fresh}
use Rattle.grammar.specs.Index.{product}
use Rattle.position.specs.Axes.{position_on, coordinate_on, coordinate_at, part, axes_of}
use Rattle.position.specs.Answers.{each_axis_once}
use Rattle.position.specs.Laws.Turned.{Fits, placed, Placed}
use Rattle.position.specs.Laws.Table.{down, index_below}
use Rattle.position.specs.Laws.Accepted.{Accepted, axes_once, Axis, axis_later, axis_small, first_small}
use Rattle.position.proofs.Fronts.{n_front, n_back, down_more}

-- ---- a coordinate, r, on a list of dimensions of which v is the first one's n

module _ (n : ℕ → ℕ) (k e : ℕ) {ds rest : List ℕ} {x : ℕ} (front : ds ≡ x ∷ rest) {r v : ℕ} (is : coordinate_on n ds k e ≡ r) (size : v ≡ n x) where
  pub at_entry : x ≡ e → {q : ℕ} → q ≡ k % v → q ≡ r
  unfolding coordinate_on pick
  at_entry s q = q ∙ rw size (rw (front, eq-eqb e x (sym s)) at is)

  pub past_entry : (x ≡ e → ⊥) → {q : ℕ} → q ≡ k / v → coordinate_on n rest q e ≡ r
  unfolding coordinate_on pick
  past_entry s q = rw (q, size) (rw (front, ne_eqb e x (λ t. s (sym t))) at is)

-- what is left of k after the n of a list is k over their product, which may be cut off above k
pub cut_off : (k p v : ℕ) {q : ℕ} → k < most_places + 1 → q ≡ min (p * v) (most_places + 1) → k / q ≡ k / p / v
cut_off k p v h e = rw e (go (leb (p * v) (most_places + 1)) refl)
  where
    go : (b : Bool) → leb (p * v) (most_places + 1) ≡ b → k / min (p * v) (most_places + 1) ≡ k / p / v
    go true i = rw (min-eq_left (leb-true (p * v) (most_places + 1) i), div-div-eq-div-mul)
    go false i =
        let l : most_places + 1 ≤ p * v = omega (arith, leb-false (p * v) (most_places + 1) i) in
        rw (min-eq_right l, div-div-eq-div-mul, div-eq_of_lt h) (sym (div-eq_of_lt (omega arith)))

-- ---- a position: one dimension more

pub one_more : (n x : ℕ → ℕ) {ds more : List ℕ} {u p v y : ℕ} → more ≡ u ∷ ds → p ≡ position_on n x ds → y ≡ x u → v ≡ n u → v * p + y ≡ position_on n x more
unfolding position_on
one_more n x f m b s = rw (s, b, m, f)

-- ---- whether the numbers of a list stand once each

module _ (d : ℕ) {ds rest : List ℕ} {x : ℕ} (front : ds ≡ x ∷ rest) {b : Bool} (is : each_axis_once d ds ≡ b) {u : ℕ} (entry : u ≡ x) where
  pub too_high : d ≤ u → false ≡ b
  unfolding each_axis_once fresh
  too_high h = rw (front, ← entry, le-ltb u d h) at is

  module _ (low : u < d) {t : Bool} (again : t ≡ among u rest) where
    pub repeated : t ≡ true → false ≡ b
    unfolding each_axis_once fresh
    repeated h = rw (front, ← entry, lt-ltb u d low, ← again, h) at is

    pub one_new : t ≡ false → each_axis_once d rest ≡ b
    unfolding each_axis_once fresh
    one_new h = rw (front, ← entry, lt-ltb u d low, ← again, h) at is

none_after : (b : Bool) → b && false ≡ false
none_after true = refl
none_after false = refl

-- those from entry i on do not, so all do not
pub not_all : (d : ℕ) (xs : List ℕ) (i : ℕ) → i ≤ length xs → false ≡ each_axis_once d (drop i xs) → false ≡ each_axis_once d xs
unfolding each_axis_once
not_all d xs zero h e = e
not_all d xs (suc i) h e =
    let q = simp add-one at (n_front xs i (omega arith)) in
    not_all d xs i (omega arith) (rw (q, ← e) (sym (none_after (fresh d (drop (suc i) xs) (word xs i)))))

pub marked_again : (b : Bool) → not b ≡ false → b ≡ true
marked_again true e = refl
marked_again false e = sym e

pub not_marked : (b : Bool) → not b ≡ true → b ≡ false
not_marked true e = sym e
not_marked false e = refl

-- ---- one dimension more of an axis; nothing is above the limit

module _ {ns : List ℕ} {k : ℕ} {axis : List ℕ} (x : Axis ns k axis) (i : ℕ) where
  axis_rest : Axis ns k (drop i axis)
  axis_rest = axis_later (take i axis) (drop i axis) (rw (take-append-drop i axis) x)

module _ {ns : List ℕ} {k : ℕ} {axis : List ℕ} (x : Axis ns k axis) (i : ℕ) (more : 0 < i) (end : i ≤ length axis) where
  pub one_outward : {p u v y : ℕ} → p ≡ position_on (word ns) (coordinate_on (word ns) (down (length ns)) k) (drop i axis)
      → u ≡ word axis (i - 1) → y ≡ coordinate_on (word ns) (down (length ns)) k u → v ≡ word ns u
      → (v * p + y ≡ position_on (word ns) (coordinate_on (word ns) (down (length ns)) k) (drop (i - 1) axis)) × (v * p + y ≤ most_places)
  one_outward m a b s =
      let n = word ns in
      let X = coordinate_on n (down (length ns)) k in
      let e = one_more n X (n_back axis i more end) m (rw a at b) (rw a at s) in
      (e, rw e (axis_small (axis_rest x (i - 1))))

-- ---- coordinates put down, each at the place of its dimension

-- one more, of the dimensions ds that are left
module _ (n : ℕ → ℕ) (k : ℕ) (xs : List ℕ) (x : ℕ) (rest : List ℕ) (new : among x rest ≡ false) (room : x < length xs) where
  by_place : (e : ℕ) (b : Bool) → eqb e x ≡ b → placed n rest (k / n x) (set xs x (k % n x)) e ≡ placed n (x ∷ rest) k xs e
  unfolding placed coordinate_on among pick
  by_place e true q = rw (eqb-true e x q, new, eq-eqb x x refl, get_or-set_same xs x (k % n x) 0 room)
  by_place e false q = rw (q, get_or-set_other xs x e (k % n x) 0 (eqb-false e x q))

  pub one_down : {ds : List ℕ} → ds ≡ x ∷ rest → {u v q r : ℕ} → u ≡ x → v ≡ n u → q ≡ k % v → r ≡ k / v → (e : ℕ) → placed n rest r (set xs u q) e ≡ placed n ds k xs e
  one_down front entry size q r e = rw (r, q, size, entry, front) (by_place e (eqb e x) refl)

-- those of three axes, the last first
module _ {ns : List ℕ} {a b c : ℕ} {order : List ℕ} (x : Accepted ns a b c order) {l r k : ℕ} where
  module _ {ws xs ys zs : List ℕ} (p : Placed (word ns) (part (word order) (a + b) c) k ws xs) (q : Placed (word ns) (part (word order) a b) r xs ys)
      (s : Placed (word ns) (part (word order) 0 a) l ys zs) where
    all_down : (e : ℕ) → get_or ws e 0 ≡ 0 → get_or zs e 0 ≡ coordinate_at (word ns) (axes_of order a b c) (l ∷ r ∷ k ∷ []) e
    unfolding placed axes_of coordinate_at
    all_down e none = rw (s.says e, q.says e, p.says e, none)

    -- an index: one dimension more
    pub one_dimension : Fits (word ns) (axes_of order a b c) (l ∷ r ∷ k ∷ []) → (i : ℕ) → i < length ns → get_or ws i 0 ≡ 0
        → {m v : ℕ} → m ≡ position_on (word ns) (coordinate_at (word ns) (axes_of order a b c) (l ∷ r ∷ k ∷ [])) (down i) → v ≡ word ns i
        → (v * m + get_or zs i 0 ≡ position_on (word ns) (coordinate_at (word ns) (axes_of order a b c) (l ∷ r ∷ k ∷ [])) (down (i + 1))) × (v * m + get_or zs i 0 ≤ most_places)
    one_dimension f i h none m t =
        let e = one_more (word ns) (coordinate_at (word ns) (axes_of order a b c) (l ∷ r ∷ k ∷ [])) (down_more i) m (all_down i none) t in
        (e, rw e (first_small x (l ∷ r ∷ k ∷ []) f (i + 1) (omega arith)))

-- there is a cell where positions fit
pub some_cell : {ns : List ℕ} {a b c : ℕ} {order : List ℕ} → Accepted ns a b c order → (ks : List ℕ) → Fits (word ns) (axes_of order a b c) ks → 0 < product ns
some_cell {ns} x ks f = let h = index_below ns (axes_once x) ks f in omega arith
