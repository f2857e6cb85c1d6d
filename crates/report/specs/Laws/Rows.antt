-- Words, rows and tables, one more at a time.
use Rattle.std.specs.Prelude.{ℕ, ◌+◌, ◌*◌, ◌≤◌, ◌<◌, min, ◌≡◌, refl, Bool, true, false, List, [], ◌∷◌, ◌++◌, length, take, drop, get_or, leb}
use Rattle.std.proofs.Common.{append_assoc, append-nil, suc-mul, mul-le-mul_right, add-one, arith, length-take, drop_of_length-le, take-suc, leb-true, leb-false}
use Rattle.std.proofs.Math.Seq.{drop-length}
use Rattle.report.specs.Text.{decimal}
use Rattle.report.specs.Lines.{words_of, row_of, table_of}

words_append : (xs ys : List ℕ) → words_of (xs ++ ys) ≡ words_of xs ++ words_of ys
unfolding words_of
words_append [] ys = refl
words_append (x ∷ xs) ys = rw (words_append xs ys, append_assoc (32 ∷ decimal x) (words_of xs) (words_of ys))

-- one word more
pub words_suc : (ws : List ℕ) (i : ℕ) → i < length ws
    → words_of (take (i + 1) ws) ≡ words_of (take i ws) ++ (32 ∷ decimal (get_or ws i 0))
unfolding words_of
words_suc ws i h = rw (add-one, take-suc ws i 0 h, words_append, append-nil)

-- one row more
pub table_suc : (name : List ℕ) (size n : ℕ) (ws : List ℕ)
    → table_of name size (n + 1) ws ≡ table_of name size n ws ++ row_of name (take size (drop (n * size) ws))
unfolding table_of
table_suc name size n ws = rw add-one

-- a place past the words is as good as their end
pub drop_min : (k : ℕ) (ws : List ℕ) → drop (min k (length ws)) ws ≡ drop k ws
drop_min k ws = by (leb k (length ws)) refl
  where
    by : (t : Bool) → leb k (length ws) ≡ t → drop (min k (length ws)) ws ≡ drop k ws
    by true e =
        let le : min k (length ws) ≡ k = omega (arith, leb-true k (length ws) e) in
        rw le
    by false e =
        let gt : length ws < k = leb-false k (length ws) e in
        let le : min k (length ws) ≡ length ws = omega arith in
        rw (le, drop-length ws, drop_of_length-le ws {i = k} (omega arith))

-- the place of the next row
pub next_row : (size i from len : ℕ) → from ≡ min (i * size) len → min (from + size) len ≡ min ((i + 1) * size) len
next_row size i from len e = rw (add-one, suc-mul) (omega arith)

-- one row more, and the rows that are left
pub one_more : (m i at₀ : ℕ) {at r : ℕ} → at ≤ at₀ + i * m → r ≤ at + m → r ≤ at₀ + (i + 1) * m
one_more m i at₀ h g = rw (add-one, suc-mul) (omega arith)

pub rows_left : (m i n at₀ len : ℕ) {at : ℕ} → at ≤ at₀ + i * m → i < n → at₀ + n * m ≤ len → at + m ≤ len
rows_left m i n at₀ len h lt fits = omega (arith, suc-mul i m, mul-le-mul_right m lt)

-- a part has no more words than were asked for
pub length_part : (size from : ℕ) (ws : List ℕ) → length (take size (drop from ws)) ≤ size
length_part size from ws = simp length-take (omega arith)
