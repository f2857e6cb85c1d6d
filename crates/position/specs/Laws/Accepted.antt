-- What holds where neither 7 nor 9 is the case, and that no position or index of such a table is above the limit.
use Rattle.std.specs.Prelude.{◌≡◌, refl, ◌↔◌, Bool, true, false, ◌&&◌, List, [], ◌∷◌, ◌++◌, ℕ, zero, suc, ◌+◌, ◌≤◌, ◌<◌, ltb, length, get_or}
use Rattle.std.proofs.Common.{sym, ap, ◌∙◌, append-nil, zero-add, add-zero, suc-add, arith}
use Rattle.std.proofs.lemmas.Bool.{false≢true}
use borrow.Author.Tests.{eqb-true, eq-eqb, ltb-false, le-ltb}
use Rattle.std.proofs.Math.Dec.{eqb}
use Rattle.sizes.specs.Sizes.{most_dimensions, most_places}
use Rattle.sizes.specs.Basics.{among, pick}
use Rattle.grammar.specs.Layout.{all_none}
use Rattle.grammar.specs.Laws.Layout.Tests.{and_is_true}
use Rattle.grammar.specs.RecordWords.{word}
use Rattle.grammar.specs.Once.{fresh, Distinct, OnceEach}
use Rattle.grammar.specs.Laws.Once.{one_more}
use Rattle.grammar.specs.Index.{product, coordinate}
use Rattle.position.specs.Axes.{position_on, coordinate_on, coordinate_at, part, axes_of}
use Rattle.position.specs.Answers.{each_axis_once, too_large_answer, axes_match, refusal}
use Rattle.position.specs.Laws.Among.{on_first, on_later, parted}
use Rattle.position.specs.Laws.Axis.{position_below, position_same, coordinate_inside}
use Rattle.position.specs.Laws.Turned.{Axes, joined, Fits, on_some, in_table, at_inside}
use Rattle.position.specs.Laws.Table.{down, below_down, down_below, span_whole, coordinate_down, index_below}
use Rattle.position.specs.Laws.Bounds.{some_places, first_places}

-- ---- the test of an order

-- Once each: the test finds out whether the numbers stand once each
passed_once : (d : ℕ) (es : List ℕ) → each_axis_once d es ≡ true → OnceEach d es
unfolding each_axis_once
passed_once d [] h = record { below = all_none; distinct = tt }
passed_once d (e ∷ es) h = let q = and_is_true (fresh d es e) (each_axis_once d es) h in (one_more d es e).0 (q.0, passed_once d es q.1)

once_passed : (d : ℕ) (es : List ℕ) → OnceEach d es → each_axis_once d es ≡ true
unfolding each_axis_once
once_passed d [] o = refl
once_passed d (e ∷ es) o = let q = (one_more d es e).1 o in rw q.0 (once_passed d es q.1)

pub once_each : (d : ℕ) (es : List ℕ) → (each_axis_once d es ≡ true) ↔ OnceEach d es
once_each d es = (passed_once d es, once_passed d es)

-- ---- the entries of an order

pub part_join : (w : ℕ → ℕ) (i a b : ℕ) → part w i (a + b) ≡ part w i a ++ part w (i + a) b
unfolding part
part_join w i zero b = rw (zero-add, add-zero)
part_join w i (suc a) b =
    let e : i + suc a ≡ i + 1 + a = omega arith in
    rw (suc-add, e) (ap {B = List ℕ} (λ r. w i ∷ r) (part_join w (i + 1) a b))

part_is : (es : List ℕ) (w : ℕ → ℕ) (i : ℕ) → ((j : ℕ) → j < length es → w (i + j) ≡ get_or es j 0) → part w i (length es) ≡ es
unfolding part
part_is [] w i h = refl
part_is (e ∷ es) w i h =
    let a : w i ≡ e = rw (add-zero i) at (h 0 (omega arith)) in
    rw (
      a,
      part_is es w (i + 1) (λ j l. let q : i + 1 + j ≡ i + suc j = omega arith in rw q (h (suc j) (omega arith))),
    )

-- Whole: all entries are the order
pub part_whole : (order : List ℕ) → part (word order) 0 (length order) ≡ order
unfolding word
part_whole order = part_is order (word order) 0 (λ j l. rw (zero-add j))

joined_axes : (order : List ℕ) (a b c : ℕ) → joined (axes_of order a b c) ≡ part (word order) 0 (a + b + c)
unfolding joined axes_of
joined_axes order a b c =
    let w = word order in
    let e : a + b + c ≡ a + (b + c) = omega arith in
    rw (e, part_join w 0 a (b + c), zero-add, part_join w a b c, append-nil (part w (a + b) c))

-- ---- no refusal

pub record Accepted (ns : List ℕ) (a b c : ℕ) (order : List ℕ) : Type 0 where
  pub few : length ns ≤ most_dimensions
  pub small : product ns ≤ most_places
  pub sum : a + b + c ≡ length ns
  pub long : length order ≡ length ns
  pub once : OnceEach (length ns) order

-- the axes then have each dimension once
pub axes_once : {ns : List ℕ} {a b c : ℕ} {order : List ℕ} → Accepted ns a b c order → Axes (length ns) (axes_of order a b c)
axes_once {ns} {a} {b} {c} {order} x =
    let e : joined (axes_of order a b c) ≡ order =
    joined_axes order a b c ∙ rw (x.sum, ← x.long) (part_whole order) in
    record { once = rw e x.once; whole = rw e x.long }

numbered : (large match : Bool) → pick {X = ℕ} large 7 (pick match 0 9) ≡ 0 → (large ≡ false) × (match ≡ true)
unfolding pick
numbered true match h = absurd (omega arith)
numbered false true h = (refl, refl)
numbered false false h = absurd (omega arith)

not_large : (many : Bool) (large : Bool) → pick many true large ≡ false → (many ≡ false) × (large ≡ false)
unfolding pick
not_large true large h = absurd (false≢true (sym h))
not_large false large h = (refl, h)

module _ (ns : List ℕ) (a b c : ℕ) (order : List ℕ) where
  pub no_refusal : refusal ns a b c order ≡ 0 → Accepted ns a b c order
  unfolding refusal too_large_answer axes_match
  no_refusal h =
      let q = numbered (too_large_answer ns) (axes_match (length ns) a b c order) h in
      let s = not_large (ltb most_dimensions (length ns)) (ltb most_places (product ns)) q.0 in
      let t = and_is_true (eqb (a + b + c) (length ns) && eqb (length order) (length ns)) (each_axis_once (length ns) order) q.1 in
      let u = and_is_true (eqb (a + b + c) (length ns)) (eqb (length order) (length ns)) t.0 in
      record {
        few = ltb-false most_dimensions (length ns) s.0;
        small = ltb-false most_places (product ns) s.1;
        sum = eqb-true (a + b + c) (length ns) u.0;
        long = eqb-true (length order) (length ns) u.1;
        once = (once_each (length ns) order).0 t.1;
      }

  pub not_refused : Accepted ns a b c order → refusal ns a b c order ≡ 0
  unfolding refusal too_large_answer axes_match pick
  not_refused x =
      rw (
        le-ltb most_dimensions (length ns) x.few,
        le-ltb most_places (product ns) x.small,
        eq-eqb (a + b + c) (length ns) x.sum,
        eq-eqb (length order) (length ns) x.long,
        (once_each (length ns) order).1 x.once,
      )

-- ---- nothing is above the limit

-- an axis of a table that has the index k
pub record Axis (ns : List ℕ) (k : ℕ) (ds : List ℕ) : Type 0 where
  pub inside : k < product ns
  pub small : product ns ≤ most_places
  pub distinct : Distinct ds
  pub below : (e : ℕ) → among e ds ≡ true → e < length ns

-- the position of an index as the code has it, by the coordinates on the axis that has all dimensions
pub along_down : {ns : List ℕ} {k : ℕ} {ds : List ℕ} → Axis ns k ds → position_on (word ns) (coordinate_on (word ns) (down (length ns)) k) ds ≡ position_on (word ns) (λ e. coordinate ns e k) ds
along_down {ns} {k} {ds} x =
    position_same (word ns) (coordinate_on (word ns) (down (length ns)) k) (λ e. coordinate ns e k) ds
    (λ e m. coordinate_down ns k x.inside e (down_below (length ns) e (x.below e m)))

pub axis_small : {ns : List ℕ} {k : ℕ} {ds : List ℕ} → Axis ns k ds → position_on (word ns) (coordinate_on (word ns) (down (length ns)) k) ds ≤ most_places
axis_small {ns} {k} {ds} x =
    let n = word ns in
    let d = length ns in
    let w = span_whole ns in
    let l = position_below n (coordinate_on n (down d) k) ds (λ e m. coordinate_inside n (down d) k (omega (arith, w, x.inside)) e (down_below d e (x.below e m))) in
    let p = some_places n d ds (omega (arith, w, x.inside)) x.distinct x.below in
    omega (arith, w, x.small, l, p)

axis_first : {ns : List ℕ} {k : ℕ} (xs ys : List ℕ) → Axis ns k (xs ++ ys) → Axis ns k xs
axis_first xs ys x =
    record {
      inside = x.inside;
      small = x.small;
      distinct = (parted xs ys x.distinct).first;
      below = λ e m. x.below e (on_first e xs ys m);
    }

pub axis_later : {ns : List ℕ} {k : ℕ} (xs ys : List ℕ) → Axis ns k (xs ++ ys) → Axis ns k ys
axis_later xs ys x =
    record {
      inside = x.inside;
      small = x.small;
      distinct = (parted xs ys x.distinct).later;
      below = λ e m. x.below e (on_later e xs ys m);
    }

-- the three axes
module _ {ns : List ℕ} {a b c : ℕ} {order : List ℕ} (x : Accepted ns a b c order) (k : ℕ) (h : k < product ns) where
  all_axes : Axis ns k (part (word order) 0 a ++ (part (word order) a b ++ (part (word order) (a + b) c ++ [])))
  unfolding joined axes_of
  all_axes =
      record {
        inside = h;
        small = x.small;
        distinct = (axes_once x).once.distinct;
        below = in_table (axes_once x);
      }

  pub layers : Axis ns k (part (word order) 0 a)
  layers = axis_first (part (word order) 0 a) _ all_axes

  pub rows : Axis ns k (part (word order) a b)
  rows = axis_first (part (word order) a b) _ (axis_later (part (word order) 0 a) _ all_axes)

  pub columns : Axis ns k (part (word order) (a + b) c)
  columns =
      axis_first (part (word order) (a + b) c) []
      (axis_later (part (word order) a b) _ (axis_later (part (word order) 0 a) _ all_axes))

-- the index at positions that fit, dimension by dimension
module _ {ns : List ℕ} {a b c : ℕ} {order : List ℕ} (x : Accepted ns a b c order) (ks : List ℕ) (f : Fits (word ns) (axes_of order a b c) ks) where
  pub first_small : (i : ℕ) → i ≤ length ns → position_on (word ns) (coordinate_at (word ns) (axes_of order a b c) ks) (down i) ≤ most_places
  first_small i h =
      let n = word ns in
      let axs = axes_of order a b c in
      let y = axes_once x in
      let w = span_whole ns in
      let p = index_below ns y ks f in
      let l = position_below n (coordinate_at n axs ks) (down i) (λ e m. at_inside n axs ks f e (on_some y e (let t = below_down i e m in omega arith))) in
      let g = first_places n i (length ns) h (omega (arith, p, w)) in
      omega (arith, l, g, w, x.small)
