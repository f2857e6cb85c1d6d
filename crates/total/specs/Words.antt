-- The totals as 32-bit words, the low word of two first; and all leaves of a dimension, a row of words for each.
use Rattle.std.specs.Prelude.{List, [], ◌∷◌, ◌++◌, ℕ, zero, suc, ◌/◌, ◌^◌}
use Rattle.std.specs.Float.{binary64}
use Rattle.std.specs.Float.Ieee.{to_bits}
use Rattle.layout.specs.Words.{word32}
use Rattle.total.specs.declared.LeafTotal.{LeafTotal}
use Rattle.total.specs.declared.DimensionTotals.{DimensionTotals}

-- nine words: the total, how many numbers, texts and missing ones, the bits of the smallest and of the largest
abbrev pub sum_words : LeafTotal → List ℕ
sum_words x =
    word32 x.total ∷ x.total / 2 ^ 32 ∷ x.numbers ∷ x.texts ∷ x.missing
    ∷ word32 (to_bits binary64 x.smallest) ∷ to_bits binary64 x.smallest / 2 ^ 32
    ∷ word32 (to_bits binary64 x.largest) ∷ to_bits binary64 x.largest / 2 ^ 32 ∷ []

-- a leaf alone, 13 words: the refusal, its place, the counts of nodes and cells before them
abbrev pub answer_words_of : LeafTotal → List ℕ
answer_words_of x = x.refusal ∷ word32 x.place ∷ x.nodes ∷ x.cells ∷ sum_words x

-- a leaf among all, 11 words: the refusal and its place before them
abbrev pub leaf_words : LeafTotal → List ℕ
leaf_words x = x.refusal ∷ word32 x.place ∷ sum_words x

-- the call for all leaves, 5 words
abbrev pub dimension_words_of : DimensionTotals → List ℕ
dimension_words_of x = x.refusal ∷ word32 x.place ∷ x.nodes ∷ x.cells ∷ x.leaves ∷ []

-- row 0, row 1, .. row n - 1
unfoldable pub rows : (ℕ → List ℕ) → ℕ → List ℕ
rows f zero = []
rows f (suc n) = rows f n ++ f n
