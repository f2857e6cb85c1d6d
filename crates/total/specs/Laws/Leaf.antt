-- A leaf by the answer of `read_member` and the words of the cell records, as the code has it.
use Rattle.std.specs.Prelude.{List, ℕ}
use Rattle.sizes.specs.Basics.{pick}
use Rattle.answer.specs.declared.Answer.{Answer}
use Rattle.grid.specs.Grid.{grid_of, there_of}
use Rattle.total.specs.declared.sums.Sums.{Sums}
use Rattle.total.specs.declared.LeafTotal.{LeafTotal}
use Rattle.total.specs.Total.{sums}
use Rattle.total.specs.Answers.{refused, answered}
use Rattle.total.specs.Laws.Words.{records_say, under_by}

unfoldable pub word_sums : List ℕ → Answer → List ℕ → ℕ → ℕ → Sums
word_sums bs a ws i leaf = let g = grid_of bs a i in sums (under_by g.block g.step leaf) (records_say bs g.version ws 0 g.cells)

unfoldable pub word_answer : List ℕ → Answer → List ℕ → ℕ → ℕ → LeafTotal
word_answer bs a ws i leaf = pick (there_of a.dimensions a.dims i leaf) (answered a.nodes a.cells (word_sums bs a ws i leaf)) (refused 19 0 0 0)
