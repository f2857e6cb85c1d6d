-- Where the cells under a leaf stand, by the answer of `read_member`: the places of its dimensions, and whether there is such a leaf.
use Rattle.std.specs.Prelude.{Bool, ◌&&◌, List, ℕ, ◌+◌, ◌-◌, ◌*◌, min, ltb}
use Rattle.sizes.specs.Sizes.{most_dimensions, most_cells, most_places, dimension_words, dimension_n}
use Rattle.grammar.specs.Layout.{little}
use Rattle.grammar.specs.RecordWords.{word, sizes}
use Rattle.grammar.specs.Index.{product}
use Rattle.std.specs.Prelude.{Ok}
use Rattle.layout.specs.Reads.{peek}
use Rattle.answer.specs.declared.Answer.{Answer}
use Rattle.grid.specs.declared.Grid.{Grid}

-- the version, after 01 00
abbrev pub version_of : List ℕ → ℕ
version_of bs = peek little 4 bs (Ok 2)

-- the places of the dimensions from dimension i on, as far as one too large
abbrev pub places_of : List ℕ → ℕ → ℕ → ℕ
places_of dims d i = min (product (sizes dims (min i most_dimensions) (min (d - i) most_dimensions))) (most_places + 1)

-- what the sums under a leaf of dimension i need
unfoldable pub grid_of : List ℕ → Answer → ℕ → Grid
grid_of bs a i = record {
  version = version_of bs;
  block = places_of a.dimensions a.dims i;
  step = places_of a.dimensions a.dims (i + 1);
  cells = min a.cells most_cells;
}

-- the dimension is there, and the leaf
unfoldable pub there_of : List ℕ → ℕ → ℕ → ℕ → Bool
there_of dims d i leaf = ltb i d && ltb leaf (word dims (dimension_words * i + dimension_n))
