-- Each way out of `Table::accept`, `position_of` and `index_of`.
use mathlib.Core.Path.{◌≡◌}
use mathlib.Core.Bool.{Bool, true, false}
use mathlib.Core.List.{List, [], ◌∷◌}
use Prim.Native.Nat.{ℕ, ◌+◌, ◌≤◌, ◌<◌, min}
use native.Mathlib.Omega.{arith}
use borrow.Author.Tests.{eq-eqb, ne_eqb, lt-ltb, le-ltb}
use lib.Dec.{eqb}
use lib.ListN.{length}
use Rattle.sizes.specs.Sizes.{most_dimensions, most_places}
use Rattle.sizes.specs.Basics.{pick}
use Rattle.grammar.specs.RecordWords.{word}
use Rattle.grammar.specs.Index.{product, coordinate}
use Rattle.position.specs.Axes.{position_on, span, part, axes_of, index_at}
use Rattle.position.specs.Answers.{each_axis_once, too_large_answer, axes_match, refusal, along, at, no_position_answer, position, span_of, within, found, no_index_answer, index_of}
use Rattle.position.specs.Laws.Turned.{Fits, fits_none, fits_more}
use Rattle.position.specs.Laws.Accepted.{Accepted, no_refusal, Axis, layers, rows, columns}

module _ (ns : List ℕ) (a b c : ℕ) (order : List ℕ) where
  -- ---- the refusals 7 and 9

  pub many : most_dimensions < length ns → 7 ≡ refusal ns a b c order
  unfolding refusal too_large_answer pick
  many h = rw (lt-ltb most_dimensions (length ns) h)

  module _ {p : ℕ} (few : length ns ≤ most_dimensions) (is : p ≡ min (product ns) (most_places + 1)) where
    pub large : most_places < p → 7 ≡ refusal ns a b c order
    unfolding refusal too_large_answer pick
    large h = rw (le-ltb most_dimensions (length ns) few, lt-ltb most_places (product ns) (omega (arith, h, is)))

    module _ (small : p ≤ most_places) where
      exact : product ns ≤ most_places
      exact = omega (arith, small, is)

      pub uneven : (a + b + c ≡ length ns → ⊥) → 9 ≡ refusal ns a b c order
      unfolding refusal too_large_answer axes_match pick
      uneven h = rw (le-ltb most_dimensions (length ns) few, le-ltb most_places (product ns) exact, ne_eqb (a + b + c) (length ns) h)

      module _ (sum : a + b + c ≡ length ns) where
        pub unlike : (length order ≡ length ns → ⊥) → 9 ≡ refusal ns a b c order
        unfolding refusal too_large_answer axes_match pick
        unlike h =
            rw (
              le-ltb most_dimensions (length ns) few,
              le-ltb most_places (product ns) exact,
              eq-eqb (a + b + c) (length ns) sum,
              ne_eqb (length order) (length ns) h,
            )

        module _ (full : length order ≡ length ns) {t : Bool} (tested : t ≡ each_axis_once (length order) order) where
          pub unordered : t ≡ false → 9 ≡ refusal ns a b c order
          unfolding refusal too_large_answer axes_match pick
          unordered h =
              rw (
                le-ltb most_dimensions (length ns) few,
                le-ltb most_places (product ns) exact,
                eq-eqb (a + b + c) (length ns) sum,
                eq-eqb (length order) (length ns) full,
                ← full,
                ← tested,
                h,
              )

          pub accepted : t ≡ true → refusal ns a b c order ≡ 0
          unfolding refusal too_large_answer axes_match pick
          accepted h =
              rw (
                le-ltb most_dimensions (length ns) few,
                le-ltb most_places (product ns) exact,
                eq-eqb (a + b + c) (length ns) sum,
                eq-eqb (length order) (length ns) full,
                ← full,
                ← tested,
                h,
              )

  -- ---- a position

  module _ (k : ℕ) where
    pub refused : {no : ℕ} → no ≡ refusal ns a b c order → eqb no 0 ≡ false → no_position_answer no ≡ position ns a b c order k
    unfolding position pick
    refused says h = rw (← says, h)

    module _ (none : refusal ns a b c order ≡ 0) {p : ℕ} (is : p ≡ min (product ns) (most_places + 1)) where
      x : Accepted ns a b c order
      x = no_refusal ns a b c order none

      pub outside : p ≤ k → k ≤ most_places → no_position_answer 10 ≡ position ns a b c order k
      unfolding position pick
      outside h l = rw (none, le-ltb k (product ns) (omega (arith, h, l, is)))

      module _ (h : k < p) where
        inside : k < product ns
        inside = omega (arith, h, is)

        pub on_layers : {ls : List ℕ} → ls ≡ part (word order) 0 a → Axis ns k ls
        on_layers e = rw e (layers x k inside)

        pub on_rows : {rs : List ℕ} → rs ≡ part (word order) a b → Axis ns k rs
        on_rows e = rw e (rows x k inside)

        pub on_columns : {cs : List ℕ} → cs ≡ part (word order) (a + b) c → Axis ns k cs
        on_columns e = rw e (columns x k inside)

        pub stands : {ls rs cs : List ℕ} → ls ≡ part (word order) 0 a → rs ≡ part (word order) a b → cs ≡ part (word order) (a + b) c → {l r m : ℕ}
            → l ≡ position_on (word ns) (λ e. coordinate ns e k) ls → r ≡ position_on (word ns) (λ e. coordinate ns e k) rs → m ≡ position_on (word ns) (λ e. coordinate ns e k) cs
            → at l r m ≡ position ns a b c order k
        unfolding position along pick
        stands i j o e f g = rw (none, lt-ltb k (product ns) inside, e, f, g, i, j, o)

  -- ---- an index

  -- how many positions an axis has
  pub spanned : (i n : ℕ) {p : ℕ} {axis : List ℕ} → p ≡ min (span (word ns) axis) (most_places + 1) → axis ≡ part (word order) i n → p ≡ min (span_of ns order i n) (most_places + 1)
  unfolding span_of
  spanned i n is e = rw e at is

  module _ (l r k : ℕ) where
    pub no_cell : {no : ℕ} → no ≡ refusal ns a b c order → eqb no 0 ≡ false → no_index_answer no ≡ index_of ns a b c order l r k
    unfolding index_of pick
    no_cell says h = rw (← says, h)

    module _ (none : refusal ns a b c order ≡ 0) {p : ℕ} (is : p ≡ min (span_of ns order 0 a) (most_places + 1)) where
      pub layer_outside : p ≤ l → l ≤ most_places → no_index_answer 10 ≡ index_of ns a b c order l r k
      unfolding index_of within pick
      layer_outside h f = rw (none, le-ltb l (span_of ns order 0 a) (omega (arith, h, f, is)))

      module _ (in₁ : l < p) {q : ℕ} (is₂ : q ≡ min (span_of ns order a b) (most_places + 1)) where
        pub row_outside : q ≤ r → r ≤ most_places → no_index_answer 10 ≡ index_of ns a b c order l r k
        unfolding index_of within pick
        row_outside h f =
            rw (
              none,
              lt-ltb l (span_of ns order 0 a) (omega (arith, in₁, is)),
              le-ltb r (span_of ns order a b) (omega (arith, h, f, is₂)),
            )

        module _ (in₂ : r < q) {s : ℕ} (is₃ : s ≡ min (span_of ns order (a + b) c) (most_places + 1)) where
          pub column_outside : s ≤ k → k ≤ most_places → no_index_answer 10 ≡ index_of ns a b c order l r k
          unfolding index_of within pick
          column_outside h f =
              rw (
                none,
                lt-ltb l (span_of ns order 0 a) (omega (arith, in₁, is)),
                lt-ltb r (span_of ns order a b) (omega (arith, in₂, is₂)),
                le-ltb k (span_of ns order (a + b) c) (omega (arith, h, f, is₃)),
              )

          module _ (in₃ : k < s) where
            pub fit : Fits (word ns) (axes_of order a b c) (l ∷ r ∷ k ∷ [])
            unfolding axes_of span_of
            fit =
                fits_more {a = part (word order) 0 a} {k = l} (omega (arith, in₁, is))
                (fits_more {a = part (word order) a b} {k = r} (omega (arith, in₂, is₂))
                (fits_more {a = part (word order) (a + b) c} {k = k} (omega (arith, in₃, is₃)) fits_none))

            pub cell_at : {x : ℕ} → x ≡ index_at ns (axes_of order a b c) (l ∷ r ∷ k ∷ []) → found x ≡ index_of ns a b c order l r k
            unfolding index_of within pick
            cell_at e =
                rw (
                  none,
                  lt-ltb l (span_of ns order 0 a) (omega (arith, in₁, is)),
                  lt-ltb r (span_of ns order a b) (omega (arith, in₂, is₂)),
                  lt-ltb k (span_of ns order (a + b) c) (omega (arith, in₃, is₃)),
                  e,
                )
