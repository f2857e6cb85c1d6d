-- The answers as words at the front of an area (the functions for other languages): where it is shorter than the answer, nothing is read and
-- nothing is changed. A place, which the code holds in 64 bits, is a word of 32 and is kept (Laws/Places.antt).
use Rattle.std.specs.Prelude.{◌≡◌, true, false, List, ℕ, length, leb}
use Rattle.sizes.specs.Sizes.{total_answer_words, totals_answer_words}
use Rattle.store.specs.Puts.{AtFront}
use Rattle.grammar.specs.Laws.Member.Checked.{checked}
use Rattle.total.specs.Words.{answer_words_of, dimension_words_of}
use Rattle.total.specs.Answers.{total_answer, Totalled, ByDerivation, totals_answer, AllTotalled, AllByDerivation}

-- a leaf, by a call that gave n
pub record TotalRead (bs answer nodes cells : List ℕ) (dimension leaf n : ℕ) (answer' nodes' cells' : List ℕ) : Type 0 where
  pub words : AtFront total_answer_words (answer_words_of (total_answer (checked bs) (length nodes) (length cells) dimension leaf)) answer n answer'
  pub called : leb total_answer_words (length answer) ≡ true → Totalled bs nodes cells dimension leaf (total_answer (checked bs) (length nodes) (length cells) dimension leaf) nodes' cells'
  -- and by demand 3's derivation, as of a call of `total`
  pub demands : leb total_answer_words (length answer) ≡ true → ByDerivation bs nodes cells dimension leaf (total_answer (checked bs) (length nodes) (length cells) dimension leaf) nodes' cells'
  pub not_called : leb total_answer_words (length answer) ≡ false → (nodes' ≡ nodes) × (cells' ≡ cells)

-- all leaves of a dimension
pub record TotalsRead (bs answer totals nodes cells : List ℕ) (dimension n : ℕ) (answer' totals' nodes' cells' : List ℕ) : Type 0 where
  pub words : AtFront totals_answer_words (dimension_words_of (totals_answer (checked bs) dimension (length totals) (length nodes) (length cells))) answer n answer'
  pub called : leb totals_answer_words (length answer) ≡ true
      → AllTotalled bs totals nodes cells dimension (totals_answer (checked bs) dimension (length totals) (length nodes) (length cells)) totals' nodes' cells'
  pub demands : leb totals_answer_words (length answer) ≡ true
      → AllByDerivation bs totals nodes cells dimension (totals_answer (checked bs) dimension (length totals) (length nodes) (length cells)) totals' nodes' cells'
  pub not_called : leb totals_answer_words (length answer) ≡ false → (totals' ≡ totals) × (nodes' ≡ nodes) × (cells' ≡ cells)
