-- The cells as the words of their records have them.
use Rattle.std.specs.Prelude.{◌≡◌, refl, Bool, true, false, List, [], ◌∷◌, ℕ, zero, suc, ◌+◌, ◌-◌, ◌*◌, ◌/◌, ◌%◌, ◌^◌, ◌≤◌, ◌<◌, length, eqb}
use Rattle.std.proofs.Common.{ap, ◌∙◌, arith}
use Rattle.sizes.specs.Sizes.{cell_words}
use Rattle.sizes.specs.Basics.{pick, among}
use Rattle.grammar.specs.Part.{part_of}
use Rattle.grammar.specs.RecordWords.{word}
use Rattle.contents.specs.declared.RawValue.{RawValue}
use Rattle.contents.specs.Laws.Answers.{value_answer}
use Rattle.contents.specs.Laws.Figure.{figure, figure_with, no_figure}
use Rattle.contents.specs.declared.figure.Figure.{Figure}
use Rattle.counts.specs.declared.Kind.{Kind}
use Rattle.counts.specs.declared.Kind.TheVariants.{Text}
use Rattle.counts.specs.Count.{kind}
use Rattle.total.specs.declared.sums.Sums.{Sums}
use Rattle.total.specs.Total.{CellSays, add_cell, with_cell, sums}
use Rattle.total.specs.Laws.Sums.{Within, sums_within, within_more}

-- the cell of record i, in the member bs
abbrev pub record_says : List ℕ → ℕ → List ℕ → ℕ → CellSays
record_says bs version ws i = record {
  index = word ws (cell_words * i);
  place = word ws (cell_words * i + 1);
  contents = value_answer version (part_of bs (word ws (cell_words * i + 1)) (word ws (cell_words * i + 2)));
}

-- what it counts as
abbrev pub kind_at : List ℕ → ℕ → List ℕ → ℕ → Kind
kind_at bs version ws i = kind (record_says bs version ws i).contents.raw.form (record_says bs version ws i).contents.raw.bits

-- those of k records from record i on
unfoldable pub records_say : List ℕ → ℕ → List ℕ → ℕ → ℕ → List CellSays
records_say bs version ws i zero = []
records_say bs version ws i (suc k) = record_says bs version ws i ∷ records_say bs version ws (suc i) k

-- under a leaf, where the dimensions from its own on have `block` places and those after it `step`
unfoldable pub under_by : ℕ → ℕ → ℕ → ℕ → Bool
under_by block step leaf index = eqb (index % block / step) leaf

-- ---- one cell

module _ (test : ℕ → Bool) (c : CellSays) (s : Sums) where
  pub cell_added : {r : Sums} {b : Bool} → b ≡ test c.index → b ≡ true → r ≡ add_cell c s → r ≡ with_cell test c s
  unfolding with_cell pick
  cell_added t b h = h ∙ rw (← t, b)

  pub cell_left : {b : Bool} → b ≡ test c.index → b ≡ false → s ≡ with_cell test c s
  unfolding with_cell pick
  cell_left t b = rw (← t, b)

-- a cell counts as its figure does
pub figure_counts : (x : RawValue) → kind (figure x).form (figure x).bits ≡ kind x.form x.bits
unfolding kind figure_with among pick
figure_counts x = go (among x.form (1 ∷ 2 ∷ [])) refl
  where
    go : (b : Bool) → among x.form (1 ∷ 2 ∷ []) ≡ b
        → kind (pick b (record { form = x.form; bits = x.bits }) no_figure).form (pick b (record { form = x.form; bits = x.bits }) no_figure).bits ≡ kind x.form x.bits
    go true e = refl
    go false e = rw e

-- and no figure, as a text
pub no_figure_counts : (x : RawValue) → no_figure ≡ figure x → Text ≡ kind x.form x.bits
unfolding kind among pick
no_figure_counts x e = ap (λ (f : Figure). kind f.form f.bits) e ∙ figure_counts x

-- ---- the loop: the record before those behind it

pub before_others : (bs : List ℕ) (version : ℕ) (ws : List ℕ) (test : ℕ → Bool) (i m : ℕ) {s r : Sums} → 0 < i → i ≤ m → s ≡ sums test (records_say bs version ws i (m - i))
    → r ≡ with_cell test (record_says bs version ws (i - 1)) s → r ≡ sums test (records_say bs version ws (i - 1) (m - (i - 1)))
unfolding records_say sums
before_others bs version ws test i m h l e f =
    let a : m - (i - 1) ≡ suc (m - i) = omega arith in
    let b : suc (i - 1) ≡ i = omega arith in
    f ∙ rw (a, b, e)

length_records : (bs : List ℕ) (version : ℕ) (ws : List ℕ) (i k : ℕ) → length (records_say bs version ws i k) ≡ k
unfolding records_say
length_records bs version ws i zero = refl
length_records bs version ws i (suc k) = ap suc (length_records bs version ws (suc i) k)

-- the sums of some records have room for one more
pub records_within : (bs : List ℕ) (version : ℕ) (ws : List ℕ) (test : ℕ → Bool) (i k : ℕ) {s : Sums} → k ≤ 2 ^ 31 → s ≡ sums test (records_say bs version ws i k) → Within (2 ^ 31) s
records_within bs version ws test i k h e =
    rw e (within_more (rw (length_records bs version ws i k) h) (sums_within test (records_say bs version ws i k)))
