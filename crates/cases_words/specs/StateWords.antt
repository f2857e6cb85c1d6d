-- The state of case data as 32-bit words (our rule: the header calls them opaque). 0 number of kinds, 1 bias, 2 position in the case, 3 bytes taken,
-- 4 phase, 5 place, 6 and 7 codes, 8 how many, 9 and 10 block, 11 how many bytes of it; from 12 on 256 kinds. Two words of one number: the lower
-- first.
use Rattle.std.specs.Prelude.{List, [], ◌∷◌, ◌++◌, ℕ, ◌+◌, ◌*◌, ◌/◌, ◌%◌, ◌^◌, min, drop, get_or}
use Rattle.layout.specs.Words.{word32}
use Rattle.case_state.specs.declared.Cursor.{Cursor}
use Rattle.case_state.specs.declared.State.{State}
use Rattle.cases.specs.Steps.{firsts}

-- the words of a state
abbrev pub state_words : ℕ
state_words = 268

abbrev pub first_kind : ℕ
first_kind = 12

unfoldable pub head_words : ℕ → ℕ → Cursor → List ℕ
head_words count bias c = word32 count ∷ bias ∷ word32 c.at ∷ c.taken ∷ c.phase ∷ c.place ∷ c.codes % 2 ^ 32 ∷ c.codes / 2 ^ 32
    ∷ word32 c.left ∷ c.block % 2 ^ 32 ∷ c.block / 2 ^ 32 ∷ word32 c.filled ∷ []

unfoldable pub state_words_of : State → List ℕ
state_words_of s = head_words s.count s.bias s.cursor ++ firsts 256 s.kinds

-- the state of words
abbrev pub joint : ℕ → ℕ → ℕ
joint low high = low + 2 ^ 32 * high

-- a kind: a word that is no byte becomes 255, which is no kind
unfoldable pub narrowed : List ℕ → List ℕ
narrowed [] = []
narrowed (w ∷ ws) = min w 255 ∷ narrowed ws

unfoldable pub kinds_of : List ℕ → List ℕ
kinds_of ws = narrowed (firsts 256 (drop first_kind ws))

unfoldable pub cursor_of : List ℕ → Cursor
cursor_of ws = record {
  at = get_or ws 2 0;
  taken = get_or ws 3 0;
  phase = get_or ws 4 0;
  place = get_or ws 5 0;
  codes = joint (get_or ws 6 0) (get_or ws 7 0);
  left = get_or ws 8 0;
  block = joint (get_or ws 9 0) (get_or ws 10 0);
  filled = get_or ws 11 0;
}

unfoldable pub state_of : List ℕ → State
state_of ws = record { kinds = kinds_of ws; count = get_or ws 0 0; bias = get_or ws 1 0; cursor = cursor_of ws }
