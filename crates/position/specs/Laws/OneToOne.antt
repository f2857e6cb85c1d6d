-- T-11's theorems, of the answers themselves. "For a table whose product isn't 0, .. cell indexes below it and triples of layer, row and
-- column position, each below its axis's product, correspond one to one": each index below the product has a position (`each_index`), each
-- such triple an index (`each_position`), and each answer is turned back by the other (`position_index`, `index_position`).
use Rattle.std.specs.Prelude.{◌≡◌, Bool, ◌&&◌, ℕ, ◌+◌, ◌<◌, eqb, length}
use Rattle.std.proofs.Math.Path.{refl, sym, ap}
use Rattle.std.proofs.Common.{◌∙◌, arith}
use Rattle.std.proofs.Math.Bool.{true, false}
use mathlib.Core.List.{List, [], ◌∷◌}
use borrow.Author.Tests.{eqb-true, eqb-false, ltb-true, lt-ltb, le-ltb}
use Rattle.std.proofs.Math.Dec.{ltb}
use Rattle.std.proofs.Math.ListN.{get_or}
use Rattle.sizes.specs.Basics.{pick}
use Rattle.grammar.specs.Laws.Layout.Tests.{and_is_true}
use Rattle.grammar.specs.RecordWords.{word}
use Rattle.grammar.specs.Index.{product, coordinate}
use Rattle.position.specs.Axes.{positions, coordinate_at, axes_of, index_at}
use Rattle.position.specs.Answers.{Position, CellIndex, refusal, along, at, no_position_answer, position, span_of, within, found, no_index_answer, index_of}
use Rattle.position.specs.Laws.Turned.{Fits, fits_none, fits_more}
use Rattle.position.specs.Laws.Table.{table_fits, index_back, coordinate_kept, index_below, positions_back}
use Rattle.position.specs.Laws.Accepted.{Accepted, axes_once, no_refusal}

-- ---- an answer without a refusal

zero_ten : {A : Type 0} → ◌≡◌ {A = ℕ} 10 0 → A
zero_ten h = absurd (omega arith)

pub record Placed (n : ℕ) (b : Bool) (x y z l r m : ℕ) : Type 0 where
  pub plain : n ≡ 0
  pub inside : b ≡ true
  pub layer : x ≡ l
  pub row : y ≡ r
  pub column : z ≡ m

placed_by : (n : ℕ) (t b : Bool) (x y z : ℕ) {l r m : ℕ} → eqb n 0 ≡ t → pick t (pick b (at x y z) (no_position_answer 10)) (no_position_answer n) ≡ at l r m → Placed n b x y z l r m
unfolding pick
placed_by n true true x y z q h = record {
  plain = eqb-true n 0 q;
  inside = refl;
  layer = ap (λ (p : Position). p.layer) h;
  row = ap (λ (p : Position). p.row) h;
  column = ap (λ (p : Position). p.column) h;
}
placed_by n true false x y z q h = zero_ten (ap (λ (p : Position). p.refusal) h)
placed_by n false b x y z q h = absurd (eqb-false n 0 q (ap (λ (p : Position). p.refusal) h))

pub record Told (n : ℕ) (b : Bool) (x k : ℕ) : Type 0 where
  pub plain : n ≡ 0
  pub inside : b ≡ true
  pub index : x ≡ k

told_by : (n : ℕ) (t b : Bool) (x : ℕ) {k : ℕ} → eqb n 0 ≡ t → pick t (pick b (found x) (no_index_answer 10)) (no_index_answer n) ≡ found k → Told n b x k
unfolding pick
told_by n true true x q h = record { plain = eqb-true n 0 q; inside = refl; index = ap (λ (p : CellIndex). p.index) h }
told_by n true false x q h = zero_ten (ap (λ (p : CellIndex). p.refusal) h)
told_by n false b x q h = absurd (eqb-false n 0 q (ap (λ (p : CellIndex). p.refusal) h))

module _ (ns : List ℕ) (a b c : ℕ) (order : List ℕ) where
  placed : (k : ℕ) {l r m : ℕ} → position ns a b c order k ≡ at l r m
      → Placed (refusal ns a b c order) (ltb k (product ns)) (along ns order k 0 a) (along ns order k a b) (along ns order k (a + b) c) l r m
  unfolding position
  placed k h = placed_by (refusal ns a b c order) (eqb (refusal ns a b c order) 0) (ltb k (product ns)) _ _ _ refl h

  told : (l r m : ℕ) {k : ℕ} → index_of ns a b c order l r m ≡ found k
      → Told (refusal ns a b c order) (within ns a b c order l r m) (index_at ns (axes_of order a b c) (l ∷ r ∷ m ∷ [])) k
  unfolding index_of
  told l r m h = told_by (refusal ns a b c order) (eqb (refusal ns a b c order) 0) (within ns a b c order l r m) _ refl h

  -- ---- triples and lists of positions

  -- "each below its axis's product"
  pub record Triple (l r m : ℕ) : Type 0 where
    pub layer : l < span_of ns order 0 a
    pub row : r < span_of ns order a b
    pub column : m < span_of ns order (a + b) c

  positions_are : (k : ℕ) → positions (word ns) (λ e. coordinate ns e k) (axes_of order a b c) ≡ along ns order k 0 a ∷ along ns order k a b ∷ along ns order k (a + b) c ∷ []
  unfolding positions axes_of along
  positions_are k = refl

  fits_are : {l r m : ℕ} → Fits (word ns) (axes_of order a b c) (l ∷ r ∷ m ∷ []) → Triple l r m
  unfolding axes_of span_of
  fits_are (fits_more h (fits_more i (fits_more j fits_none))) = record { layer = h; row = i; column = j }

  are_fits : (l r m : ℕ) → Triple l r m → Fits (word ns) (axes_of order a b c) (l ∷ r ∷ m ∷ [])
  unfolding axes_of span_of
  are_fits l r m t = fits_more t.layer (fits_more t.row (fits_more t.column fits_none))

  is_within : (l r m : ℕ) → Triple l r m → within ns a b c order l r m ≡ true
  unfolding within
  is_within l r m t = rw (lt-ltb l (span_of ns order 0 a) t.layer, lt-ltb r (span_of ns order a b) t.row, lt-ltb m (span_of ns order (a + b) c) t.column)

  within_is : (l r m : ℕ) → within ns a b c order l r m ≡ true → Triple l r m
  unfolding within
  within_is l r m h =
      let q = and_is_true (ltb l (span_of ns order 0 a) && ltb r (span_of ns order a b)) (ltb m (span_of ns order (a + b) c)) h in
      let s = and_is_true (ltb l (span_of ns order 0 a)) (ltb r (span_of ns order a b)) q.0 in
      record { layer = ltb-true l _ s.0; row = ltb-true r _ s.1; column = ltb-true m _ q.1 }

  -- ---- each has the other

  module _ (z : refusal ns a b c order ≡ 0) where
    x : Accepted ns a b c order
    x = no_refusal ns a b c order z

    -- Each index below the product has a position, each below its axis's product
    pub each_index : (k : ℕ) → k < product ns
        → (position ns a b c order k ≡ at (along ns order k 0 a) (along ns order k a b) (along ns order k (a + b) c))
        × Triple (along ns order k 0 a) (along ns order k a b) (along ns order k (a + b) c)
    unfolding position pick
    each_index k h = (
      rw (z, lt-ltb k (product ns) h),
      fits_are (rw (positions_are k) at (table_fits ns (axes_once x) k h)),
    )

    index_along : (k : ℕ) → k < product ns → index_of ns a b c order (along ns order k 0 a) (along ns order k a b) (along ns order k (a + b) c) ≡ found k
    unfolding index_of pick
    index_along k h =
        rw (
          z,
          is_within (along ns order k 0 a) (along ns order k a b) (along ns order k (a + b) c) (each_index k h).1,
          rw (positions_are k) at (index_back ns (axes_once x) k h),
        )

    position_at : (l r m : ℕ) → Triple l r m → position ns a b c order (index_at ns (axes_of order a b c) (l ∷ r ∷ m ∷ [])) ≡ at l r m
    unfolding position pick
    position_at l r m t =
        let ks = l ∷ r ∷ m ∷ [] in
        let k = index_at ns (axes_of order a b c) (l ∷ r ∷ m ∷ []) in
        let f = are_fits l r m t in
        let e : along ns order k 0 a ∷ along ns order k a b ∷ along ns order k (a + b) c ∷ [] ≡ l ∷ r ∷ m ∷ [] =
        sym (positions_are k) ∙ positions_back ns (axes_once x) ks f in
        rw (
          z,
          lt-ltb k (product ns) (index_below ns (axes_once x) ks f),
          ap (λ t. get_or t 0 0) e,
          ap (λ t. get_or t 1 0) e,
          ap (λ t. get_or t 2 0) e,
        )

    -- Each triple has an index below the product
    pub each_position : (l r m : ℕ) → Triple l r m → (k : ℕ) × (index_of ns a b c order l r m ≡ found k) × (k < product ns)
    unfolding index_of pick
    each_position l r m t = (
      index_at ns (axes_of order a b c) (l ∷ r ∷ m ∷ []),
      rw (z, is_within l r m t),
      index_below ns (axes_once x) (l ∷ r ∷ m ∷ []) (are_fits l r m t),
    )

    -- Nothing: in a table whose product is 0, 10 is the answer for every index ..
    pub no_index : product ns ≡ 0 → (k : ℕ) → position ns a b c order k ≡ no_position_answer 10
    unfolding position pick
    no_index e k = rw (z, le-ltb k (product ns) (omega arith))

    no_position_by : product ns ≡ 0 → (l r m : ℕ) (t : Bool) → within ns a b c order l r m ≡ t → index_of ns a b c order l r m ≡ no_index_answer 10
    unfolding index_of pick
    no_position_by e l r m false h = rw (z, h)
    no_position_by e l r m true h = absurd (omega (arith, (each_position l r m (within_is l r m h)).2, e))

    -- .. and for every position
    pub no_position : product ns ≡ 0 → (l r m : ℕ) → index_of ns a b c order l r m ≡ no_index_answer 10
    no_position e l r m = no_position_by e l r m (within ns a b c order l r m) refl

  -- ---- and each is the other's inverse

  -- Round: the position that is answered for an index has that index
  pub position_index : (k l r m : ℕ) → position ns a b c order k ≡ at l r m → index_of ns a b c order l r m ≡ found k
  position_index k l r m h =
      let p = placed k h in
      rw (p.layer, p.row, p.column) at (index_along p.plain k (ltb-true k (product ns) p.inside))

  -- Round: the index that is answered for a position has that position
  pub index_position : (l r m k : ℕ) → index_of ns a b c order l r m ≡ found k → position ns a b c order k ≡ at l r m
  index_position l r m k h =
      let t = told l r m h in
      rw t.index at (position_at t.plain l r m (within_is l r m t.inside))

  -- Leaf: the coordinate at the position that is answered for an index is the index's, on every dimension
  pub same_leaf : (k l r m : ℕ) → position ns a b c order k ≡ at l r m → (e : ℕ) → e < length ns → coordinate_at (word ns) (axes_of order a b c) (l ∷ r ∷ m ∷ []) e ≡ coordinate ns e k
  same_leaf k l r m h e g =
      let p = placed k h in
      rw (positions_are k, p.layer, p.row, p.column) at
      (coordinate_kept ns (axes_once (x p.plain)) k (ltb-true k (product ns) p.inside) e g)

-- ---- turning

-- Turned: a position on some axes, to its index, to the position on any other axes, to its index, and back to the first position
pub turned_back : (ns : List ℕ) (a b c : ℕ) (order : List ℕ) (a' b' c' : ℕ) (order' : List ℕ) (l r m k l' r' m' : ℕ)
    → index_of ns a b c order l r m ≡ found k → position ns a' b' c' order' k ≡ at l' r' m'
    → (index_of ns a' b' c' order' l' r' m' ≡ found k) × (position ns a b c order k ≡ at l r m)
turned_back ns a b c order a' b' c' order' l r m k l' r' m' h g = (position_index ns a' b' c' order' k l' r' m' g, index_position ns a b c order l r m k h)
