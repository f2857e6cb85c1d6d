-- What is printed of an answer.
use Rattle.std.specs.Prelude.{ℕ, suc, zero, ◌+◌, ◌*◌, cond, List, [], ◌∷◌, ◌++◌, eqb, length, take, drop}
use Rattle.sizes.specs.Sizes.{dimension_words, node_words, cell_words}
use Rattle.answer.specs.declared.Answer.{Answer}
use Rattle.report.specs.Text.{decimal}

-- ---- the line of document 01's test program

-- "refused N at P"
abbrev pub refused_of : ℕ → ℕ → List ℕ
refused_of n p =
    -- "refused "
    (114 ∷ 101 ∷ 102 ∷ 117 ∷ 115 ∷ 101 ∷ 100 ∷ 32 ∷ [])
    -- N, " at "
    ++ (decimal n ++ (32 ∷ 97 ∷ 116 ∷ 32 ∷ []))
    -- P, line end
    ++ decimal p ++ (10 ∷ [])

-- "accepted D dims N nodes C cells"
abbrev pub accepted_of : ℕ → ℕ → ℕ → List ℕ
accepted_of d n c =
    -- "accepted "
    (97 ∷ 99 ∷ 99 ∷ 101 ∷ 112 ∷ 116 ∷ 101 ∷ 100 ∷ 32 ∷ [])
    -- D, " dims "
    ++ (decimal d ++ (32 ∷ 100 ∷ 105 ∷ 109 ∷ 115 ∷ 32 ∷ []))
    -- N, " nodes "
    ++ (decimal n ++ (32 ∷ 110 ∷ 111 ∷ 100 ∷ 101 ∷ 115 ∷ 32 ∷ []))
    -- C, " cells", line end
    ++ (decimal c ++ (32 ∷ 99 ∷ 101 ∷ 108 ∷ 108 ∷ 115 ∷ 10 ∷ []))

abbrev pub line_of : Answer → List ℕ
line_of a = cond (eqb a.refusal 0) (accepted_of a.dims a.nodes a.cells) (refused_of a.refusal a.place)

-- the longest line: three counts of ten digits
abbrev pub line_bytes : ℕ
line_bytes = 59

-- ---- the records of an accepted member, one to a line

-- " " and the number, for each word
unfoldable pub words_of : List ℕ → List ℕ
words_of [] = []
words_of (w ∷ ws) = 32 ∷ decimal w ++ words_of ws

-- a name and words
abbrev pub row_of : List ℕ → List ℕ → List ℕ
row_of name ws = name ++ words_of ws ++ (10 ∷ [])

-- n rows of that many words, one after the other
unfoldable pub table_of : List ℕ → ℕ → ℕ → List ℕ → List ℕ
table_of name size zero ws = []
table_of name size (suc n) ws = table_of name size n ws ++ row_of name (take size (drop (n * size) ws))

-- " " and ten digits
abbrev pub word_bytes : ℕ
word_bytes = 11

-- the bytes of the longest row of that many words
abbrev pub row_bytes : List ℕ → ℕ → ℕ
row_bytes name size = length name + word_bytes * size + 1

-- the names of the rows
abbrev pub dimension : List ℕ
dimension = 100 ∷ 105 ∷ 109 ∷ 101 ∷ 110 ∷ 115 ∷ 105 ∷ 111 ∷ 110 ∷ []

abbrev pub axes : List ℕ
axes = 97 ∷ 120 ∷ 101 ∷ 115 ∷ []

abbrev pub order : List ℕ
order = 111 ∷ 114 ∷ 100 ∷ 101 ∷ 114 ∷ []

abbrev pub node : List ℕ
node = 110 ∷ 111 ∷ 100 ∷ 101 ∷ []

abbrev pub cell : List ℕ
cell = 99 ∷ 101 ∷ 108 ∷ 108 ∷ []

-- the dimensions; how many are on each axis; and in which order
abbrev pub shape_of : Answer → List ℕ
shape_of a =
    table_of dimension dimension_words a.dims a.dimensions ++ row_of axes (a.layers ∷ a.rows ∷ a.columns ∷ [])
    ++ row_of order (take a.dims a.order)

-- with the category nodes and the cells
abbrev pub records_of : Answer → List ℕ → List ℕ → List ℕ
records_of a nodes cells = shape_of a ++ table_of node node_words a.nodes nodes ++ table_of cell cell_words a.cells cells

-- the bytes of the longest such rows
abbrev pub shape_bytes : ℕ → ℕ
shape_bytes d = d * row_bytes dimension dimension_words + row_bytes axes 3 + row_bytes order d

abbrev pub records_bytes : ℕ → ℕ → ℕ → ℕ
records_bytes d n c = shape_bytes d + n * row_bytes node node_words + c * row_bytes cell cell_words
