-- What `read_into` answers, and what its two lists then hold.
use Rattle.std.specs.Prelude.{◌≡◌, List, ◌++◌, ℕ, ◌-◌, ◌*◌, ◌≤◌, length, drop}
use Rattle.sizes.specs.Sizes.{node_words, cell_words}
use Rattle.grammar.specs.Layout.{Tree}
use Rattle.grammar.specs.Laws.Layout.Read.{Got, got, no}
use Rattle.table.specs.Laws.Within.{needed, within, Scratch}
use Rattle.table.specs.Laws.Dims.{node_record_sizes}
use Rattle.cells.specs.Laws.Cells.{cell_record_sizes}
use Rattle.answer.specs.declared.Answer.{Answer}
use Rattle.grammar.specs.Member.{Member, cells, nodes, node_records, cell_records}
use Rattle.grammar.specs.Laws.Member.Checked.{checked}
use Rattle.answer.specs.Answer.{refusal, accepted}

-- lists of those lengths have room for the records of all that the bytes from the place `at` on can hold
abbrev pub LongEnough : List ℕ → ℕ → ℕ → ℕ → Type 0
LongEnough bs at node_length cell_length = (needed node_record_sizes (length bs - at) ≤ node_length) × (needed cell_record_sizes (length bs - at) ≤ cell_length)

-- a list that has not is refused before anything is read: that of the nodes by 12, that of the cells by 13, both at 0
abbrev pub into_lists : List ℕ → ℕ → ℕ → Got (Tree Member)
into_lists bs node_length cell_length = within node_record_sizes bs 0 node_length (within cell_record_sizes bs 0 cell_length (checked bs))

-- the answer, and both lists then: the records, and beyond them what was there; after a refusal as many words, which may be any
pub data Stored (node-list cell-list : List ℕ) : Got (Tree Member) → Answer → List ℕ → List ℕ → Type 0 where
  all_stored : {t : Tree Member} {r : List ℕ} {p : ℕ} {a : Answer} {ms vs : List ℕ} → a ≡ accepted t → ms ≡ node_records t ++ drop (node_words * nodes t) node-list
      → vs ≡ cell_records t ++ drop (cell_words * length (cells t)) cell-list → Stored node-list cell-list (got t r p) a ms vs
  not_stored : {n p : ℕ} {a : Answer} {ms vs : List ℕ} → a ≡ refusal n p 0 0 → Scratch node-list ms → Scratch cell-list vs → Stored node-list cell-list (no n p) a ms vs
