-- What a call for a leaf answers, and what the lent areas then hold.
use Rattle.std.specs.Prelude.{◌≡◌, List, ◌++◌, ℕ, ◌*◌, length, leb}
use Rattle.std.proofs.Common.{◌∙◌}
use Rattle.sizes.specs.Sizes.{node_words, cell_words}
use Rattle.sizes.specs.Basics.{pick}
use Rattle.grammar.specs.Layout.{Bytes}
use Rattle.grammar.specs.Laws.Layout.Read.{no}
use Rattle.answer.specs.declared.Answer.{Answer}
use Rattle.grammar.specs.Member.{cell_records, MemberDerivation, AsDemanded}
use Rattle.grammar.specs.Laws.Member.Checked.{checked}
use Rattle.answer.specs.Answer.{accepted}
use Rattle.grammar.proofs.Laws.Member.Demanded.{derivation_checked}
use Rattle.total.specs.declared.LeafTotal.{LeafTotal}
use Rattle.total.specs.Answers.{member_first, refused, total_answer, Totalled}
use Rattle.total.specs.Laws.Leaf.{word_answer}
use Rattle.total.specs.Laws.LeafIs.{leaf_is}
use Rattle.total.specs.Laws.Reading.{Taken}
use Rattle.total.specs.Laws.Areas.{Areas, Too_short, refused_areas}

-- what the code answers of an accepted member for lent areas of some lengths
abbrev pub fitting : List ℕ → Answer → List ℕ → ℕ → ℕ → ℕ → ℕ → LeafTotal
fitting bs a ws dimension leaf node_length cell_length =
    pick (leb (node_words * a.nodes) node_length)
    (pick (leb (cell_words * a.cells) cell_length) (word_answer bs a ws dimension leaf) (refused 13 0 a.nodes a.cells))
    (refused 12 0 a.nodes a.cells)

pub too_short : (a : Answer) (bs ws : List ℕ) (dimension leaf node_length cell_length : ℕ) {x : LeafTotal} → x ≡ fitting bs a ws dimension leaf node_length cell_length → Too_short a node_length cell_length x.refusal
unfolding pick
too_short a bs ws dimension leaf node_length cell_length e = (λ z. rw (e, z), λ y z. rw (e, y, z))

-- by the areas
abbrev filled_as : {bs N C : List ℕ} {dimension leaf : ℕ} {x : LeafTotal} {N' C' : List ℕ} → x ≡ total_answer (checked bs) (length N) (length C) dimension leaf → Areas bs N C x.refusal N' C'
    → Totalled bs N C dimension leaf x N' C'
filled_as e y = record { answer = e; node_area = y.node_area; cell_area = y.cell_area }

pub refused_call : {bs : List ℕ} {n p : ℕ} → checked bs ≡ no n p → (N C : List ℕ) (dimension leaf : ℕ) → Totalled bs N C dimension leaf (refused n p 0 0) N C
unfolding total_answer member_first
refused_call e N C dimension leaf = filled_as (rw e) (refused_areas e N C)

fits : {bs : List ℕ} → Bytes bs → (d : MemberDerivation bs) → AsDemanded d.tree → (others : List ℕ) (node_length cell_length dimension leaf : ℕ)
    → fitting bs (accepted d.tree) (cell_records d.tree ++ others) dimension leaf node_length cell_length ≡ total_answer (checked bs) node_length cell_length dimension leaf
unfolding total_answer member_first accepted
fits {bs} b d dem others node_length cell_length dimension leaf = rw (derivation_checked bs b d dem, leaf_is d dem dimension leaf others)

pub accepted_call : {bs : List ℕ} → Bytes bs → {a : Answer} {node-list cell-list : List ℕ} → Taken bs a node-list cell-list → (N C : List ℕ) (dimension leaf : ℕ) {x : LeafTotal}
    → x ≡ fitting bs a cell-list dimension leaf (length N) (length C) → {N' C' : List ℕ} → Areas bs N C x.refusal N' C' → Totalled bs N C dimension leaf x N' C'
accepted_call b h N C dimension leaf e y =
    filled_as ((rw (h.answer, h.in_cells) at e) ∙ fits b h.derivation h.demands h.other_cells (length N) (length C) dimension leaf) y
