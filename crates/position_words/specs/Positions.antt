-- The position of a cell and the index of a position, as 32-bit words (document 02, T-11): the refusal, 0 if there is none, its place, which
-- is always 0, and the rest, all 0 after a refusal.
use Rattle.std.specs.Prelude.{List, [], ◌∷◌, ℕ}
use Rattle.sizes.specs.Sizes.{position_answer_words, index_answer_words}
use Rattle.store.specs.Puts.{AtFront}
use Rattle.position.specs.Answers.{Position, CellIndex, position, index_of}

-- 5 words: the refusal, its place, layer, row, column
abbrev pub position_words : Position → List ℕ
position_words x = x.refusal ∷ 0 ∷ x.layer ∷ x.row ∷ x.column ∷ []

-- 3 words: the refusal, its place, the index
abbrev pub index_words : CellIndex → List ℕ
index_words x = x.refusal ∷ 0 ∷ x.index ∷ []

module _ (ns : List ℕ) (layers rows columns : ℕ) (order : List ℕ) where
  -- a call of `digarumbi_position`, which gave n
  pub record PositionGiven (index : ℕ) (answer : List ℕ) (n : ℕ) (answer' : List ℕ) : Type 0 where
    pub words : AtFront position_answer_words (position_words (position ns layers rows columns order index)) answer n answer'

  -- a call of `digarumbi_index`
  pub record IndexGiven (layer row column : ℕ) (answer : List ℕ) (n : ℕ) (answer' : List ℕ) : Type 0 where
    pub words : AtFront index_answer_words (index_words (index_of ns layers rows columns order layer row column)) answer n answer'
