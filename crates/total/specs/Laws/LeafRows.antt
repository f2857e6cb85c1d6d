-- The sums of all leaves in rows of words, as the code holds them.
use Rattle.std.specs.Prelude.{◌≡◌, Bool, drop, get_or, eqb, Option, None, Some}
use Rattle.std.specs.Option.{is_some, unwrap_or}
use Rattle.std.specs.Bool.{then_some}
use Rattle.std.proofs.Math.Path.{refl, ap}
use Rattle.std.proofs.Common.{sym, ◌∙◌, add-zero, add-one, length-drop, length-append, drop-drop, drop_at}
use Rattle.std.proofs.Math.Bool.{true, false}
use mathlib.Core.List.{List, [], ◌∷◌, ◌++◌, append_assoc}
use Prim.Native.Nat.{ℕ, zero, suc, ◌+◌, ◌-◌, ◌*◌, ◌/◌, ◌%◌, ◌^◌, ◌≤◌, ◌<◌}
use Rattle.std.proofs.Math.Nat.{sub_self}
use native.Mathlib.Omega.{arith}
use Rattle.std.proofs.Math.ListN.{length}
use Rattle.std.proofs.Math.Seq.{sets, length-sets}
use Rattle.std.proofs.Math.Dec.{ltb}
use borrow.Author.Tests.{eqb-true, eqb-false, ltb-true, ltb-false, lt-ltb, le-ltb, ne_eqb}
use Rattle.sizes.specs.Sizes.{leaf_total_words}
use Rattle.sizes.specs.Basics.{pick}
use Rattle.layout.specs.Words.{word32}
use Rattle.store.specs.Values.{bit}
use Rattle.grammar.specs.RecordWords.{word}
use Rattle.answer.specs.declared.Answer.{Answer}
use Rattle.grid.specs.declared.Grid.{Grid}
use Rattle.total.specs.declared.sums.Sums.{Sums}
use Rattle.total.specs.Total.{CellSays, add_cell, with_cell, no_sums, sums}
use Rattle.total.specs.Words.{leaf_words, rows}
use Rattle.total.specs.Answers.{answered}
use Rattle.total.specs.Laws.Sums.{Within}
use Rattle.total.specs.Laws.Words.{under_by, record_says, records_say, records_within}
use Rattle.grid.specs.Grid.{grid_of}
use Rattle.total.specs.Laws.Leaf.{word_sums}
use Rattle.total.specs.Laws.Rows.{rows_same, row_word, but, row_set, last_row, rows_length}

-- sums as a row of words
abbrev pub sum_row : Sums → List ℕ
sum_row s = bit (is_some s.bad) ∷ unwrap_or s.bad 0 ∷ word32 s.total ∷ s.total / 2 ^ 32 ∷ s.numbers ∷ s.texts ∷ s.missing ∷ s.smallest ∷ s.largest ∷ 0 ∷ 0 ∷ []

-- those of row j
unfoldable pub sums_at : List ℕ → ℕ → Sums
sums_at ws j = record {
  bad = then_some (eqb (word ws (leaf_total_words * j)) 1) (word ws (leaf_total_words * j + 1));
  total = word ws (leaf_total_words * j + 2) + word ws (leaf_total_words * j + 3) * 2 ^ 32;
  numbers = word ws (leaf_total_words * j + 4);
  texts = word ws (leaf_total_words * j + 5);
  missing = word ws (leaf_total_words * j + 6);
  smallest = word ws (leaf_total_words * j + 7);
  largest = word ws (leaf_total_words * j + 8);
}

-- words in the place of row j
abbrev pub stored : List ℕ → ℕ → List ℕ → List ℕ
stored ws j xs = sets ws (leaf_total_words * j) xs

-- n rows of no cell, and of all cells
abbrev pub no_sum_words : ℕ → List ℕ
no_sum_words n = rows (λ _. sum_row no_sums) n

abbrev pub all_sums : ℕ → ℕ → List CellSays → ℕ → List ℕ
all_sums block step cs n = rows (λ j. sum_row (sums (under_by block step j) cs)) n

-- each of n rows has room for one more cell
abbrev pub Room : ℕ → List ℕ → Type 0
Room n ws = (j : ℕ) → j < n → Within (2 ^ 31) (sums_at ws j)

-- a cell added to the row of its leaf, of n
unfoldable pub scattered : ℕ → ℕ → ℕ → CellSays → List ℕ → List ℕ
scattered block step n c ws =
    let leaf = c.index % block / step in
    pick (ltb leaf n) (sets ws (leaf_total_words * leaf) (sum_row (add_cell c (sums_at ws leaf)))) ws

-- the first j rows of sums made to what is answered
unfoldable pub finished : ℕ → ℕ → ℕ → List ℕ → List ℕ
finished nodes cells zero ws = ws
finished nodes cells (suc j) ws = let before = finished nodes cells j ws in sets before (leaf_total_words * j) (leaf_words (answered nodes cells (sums_at before j)))

either : (b : Bool) (x y : List ℕ) {z : List ℕ} → (b ≡ true → x ≡ z) → (b ≡ false → y ≡ z) → pick b x y ≡ z
unfolding pick
either true x y h k = h refl
either false x y h k = k refl

module _ (block step n : ℕ) (c : CellSays) (ws : List ℕ) {leaf : ℕ} (e : leaf ≡ c.index % block / step) where
  pub scatter_in : leaf < n → {s s' : Sums} {ws' : List ℕ} → s ≡ sums_at ws leaf → s' ≡ add_cell c s → ws' ≡ stored ws leaf (sum_row s') → ws' ≡ scattered block step n c ws
  unfolding scattered pick
  scatter_in h f g k = k ∙ rw (g, f, ← e, lt-ltb leaf n h)

  pub scatter_out : n ≤ leaf → ws ≡ scattered block step n c ws
  unfolding scattered pick
  scatter_out h = rw (← e, le-ltb leaf n h)

is_bad : (o : Option ℕ) → then_some (eqb (bit (is_some o)) 1) (unwrap_or o 0) ≡ o
is_bad (Some place) = refl
is_bad None = refl

-- a row that holds sums
module _ (g : ℕ → List ℕ) (width : (j : ℕ) → length (g j) ≡ leaf_total_words) (n : ℕ) (rest : List ℕ) (j : ℕ) (h : j < n) (s : Sums) (is : g j ≡ sum_row s) where
  state : List ℕ
  state = rows g n ++ rest

  in_row : (m : ℕ) → m < leaf_total_words → word state (leaf_total_words * j + m) ≡ get_or (sum_row s) m 0
  unfolding word state
  in_row m l = row_word leaf_total_words g width n rest j m h l ∙ rw is

  pub sums_at_lem : sums_at (rows g n ++ rest) j ≡ s
  unfolding sums_at state
  sums_at_lem =
      let whole : s.total % 2 ^ 32 + s.total / 2 ^ 32 * 2 ^ 32 ≡ s.total = omega arith in
      let first : word state (leaf_total_words * j) ≡ bit (is_some s.bad) = rw (add-zero (leaf_total_words * j)) at (in_row 0 (omega arith)) in
      rw (
        first,
        in_row 1 (omega arith),
        in_row 2 (omega arith),
        in_row 3 (omega arith),
        in_row 4 (omega arith),
        in_row 5 (omega arith),
        in_row 6 (omega arith),
        in_row 7 (omega arith),
        in_row 8 (omega arith),
        is_bad s.bad,
        whole,
      )

module _ (f : ℕ → Sums) (n : ℕ) (rest : List ℕ) where
  -- ---- a cell

  module _ (block step : ℕ) (c : CellSays) where
    abbrev leaf : ℕ
    leaf = c.index % block / step

    -- row j then
    abbrev grown : ℕ → Sums
    grown j = with_cell (under_by block step j) c (f j)

    its_row : (j : ℕ) (b : Bool) → eqb leaf j ≡ b → pick b (sum_row (add_cell c (f leaf))) (sum_row (f j)) ≡ sum_row (pick b (add_cell c (f j)) (f j))
    unfolding pick
    its_row j true e = let same : leaf ≡ j = eqb-true leaf j e in rw same
    its_row j false e = refl

    inside : leaf < n → sets (rows (λ j. sum_row (f j)) n ++ rest) (leaf_total_words * leaf) (sum_row (add_cell c (sums_at (rows (λ j. sum_row (f j)) n ++ rest) leaf))) ≡ rows (λ j. sum_row (grown j)) n ++ rest
    unfolding with_cell under_by
    inside h =
        ap (λ (s : Sums). sets (rows (λ j. sum_row (f j)) n ++ rest) (leaf_total_words * leaf) (sum_row (add_cell c s))) (sums_at_lem (λ j. sum_row (f j)) (λ _. refl) n rest leaf h (f leaf) refl)
        ∙ row_set leaf_total_words (λ j. sum_row (f j)) (λ _. refl) (sum_row (add_cell c (f leaf))) refl n rest leaf h
        ∙ ap (λ (l : List ℕ). l ++ rest) (rows_same (but leaf_total_words (λ j. sum_row (f j)) (λ _. refl) (sum_row (add_cell c (f leaf))) refl leaf) (λ j. sum_row (grown j)) n (λ j _. its_row j (eqb leaf j) refl))

    outside : n ≤ leaf → rows (λ j. sum_row (f j)) n ++ rest ≡ rows (λ j. sum_row (grown j)) n ++ rest
    unfolding with_cell under_by pick
    outside h = ap (λ (l : List ℕ). l ++ rest) (rows_same (λ j. sum_row (f j)) (λ j. sum_row (grown j)) n (λ j l. rw (ne_eqb leaf j (λ q. omega arith))))

    pub scattered_is : scattered block step n c (rows (λ j. sum_row (f j)) n ++ rest) ≡ rows (λ j. sum_row (grown j)) n ++ rest
    unfolding scattered
    scattered_is =
        either (ltb leaf n) (sets (rows (λ j. sum_row (f j)) n ++ rest) (leaf_total_words * leaf) (sum_row (add_cell c (sums_at (rows (λ j. sum_row (f j)) n ++ rest) leaf)))) (rows (λ j. sum_row (f j)) n ++ rest)
        (λ e. inside (ltb-true leaf n e)) (λ e. outside (ltb-false leaf n e))

  -- ---- the answers

  module _ (nodes cells : ℕ) where
    abbrev answer : ℕ → List ℕ
    answer j = leaf_words (answered nodes cells (f j))

    -- the rows when those before j are answers
    abbrev half : ℕ → ℕ → List ℕ
    half j i = pick (ltb i j) (answer i) (sum_row (f i))

    half_long : (j i : ℕ) → length (half j i) ≡ leaf_total_words
    unfolding pick
    half_long j i = go (ltb i j)
      where
        go : (b : Bool) → length (pick b (answer i) (sum_row (f i))) ≡ leaf_total_words
        go true = refl
        go false = refl

    -- one more
    half_next : (j i : ℕ) → pick (eqb j i) (answer j) (half j i) ≡ half (suc j) i
    unfolding pick
    half_next j i = go (eqb j i) refl
      where
        later : (b : Bool) → ltb i j ≡ b → (j ≡ i → ⊥) → pick b (answer i) (sum_row (f i)) ≡ half (suc j) i
        later true e o = let l : i < j = ltb-true i j e in rw (lt-ltb i (suc j) (omega arith))
        later false e o = let l : j ≤ i = ltb-false i j e in rw (le-ltb i (suc j) (omega arith))

        go : (b : Bool) → eqb j i ≡ b → pick b (answer j) (half j i) ≡ half (suc j) i
        go true e = let same : j ≡ i = eqb-true j i e in rw (same, lt-ltb i (suc i) (omega arith))
        go false e = later (ltb i j) refl (eqb-false j i e)

    finished_to : (j : ℕ) → j ≤ n → finished nodes cells j (rows (λ i. sum_row (f i)) n ++ rest) ≡ rows (half j) n ++ rest
    unfolding finished pick
    finished_to zero h = ap (λ (l : List ℕ). l ++ rest) (rows_same (λ i. sum_row (f i)) (half 0) n (λ i _. rw (le-ltb i 0 (omega arith))))
    finished_to (suc j) h =
        let before = finished_to j (omega arith) in
        let row : half j j ≡ sum_row (f j) = rw (le-ltb j j (omega arith)) in
        let s : sums_at (rows (half j) n ++ rest) j ≡ f j = sums_at_lem (half j) (half_long j) n rest j (omega arith) (f j) row in
        ap (λ (ws : List ℕ). sets ws (leaf_total_words * j) (leaf_words (answered nodes cells (sums_at ws j)))) before
        ∙ ap (λ (s : Sums). sets (rows (half j) n ++ rest) (leaf_total_words * j) (leaf_words (answered nodes cells s))) s
        ∙ row_set leaf_total_words (half j) (half_long j) (answer j) refl n rest j (omega arith)
        ∙ ap (λ (l : List ℕ). l ++ rest) (rows_same (but leaf_total_words (half j) (half_long j) (answer j) refl j) (half (suc j)) n (λ i _. half_next j i))

    pub all_finished : finished nodes cells n (rows (λ i. sum_row (f i)) n ++ rest) ≡ rows answer n ++ rest
    unfolding pick
    all_finished = finished_to n (omega arith) ∙ ap (λ (l : List ℕ). l ++ rest) (rows_same (half n) answer n (λ i l. rw (lt-ltb i n l)))

-- ---- what the loops keep

-- rows that are cleared one after the other
pub cleared_none : (ws : List ℕ) → ws ≡ no_sum_words 0 ++ drop (leaf_total_words * 0) ws
unfolding rows
cleared_none ws = refl

pub cleared_more : (ws : List ℕ) (j : ℕ) → leaf_total_words * (j + 1) ≤ length ws → stored (no_sum_words j ++ drop (leaf_total_words * j) ws) j (sum_row no_sums) ≡ no_sum_words (j + 1) ++ drop (leaf_total_words * (j + 1)) ws
unfolding rows
cleared_more ws j h =
    let fit : leaf_total_words ≤ length (drop (leaf_total_words * j) ws) = rw length-drop (omega arith) in
    let next : leaf_total_words * j + leaf_total_words ≡ leaf_total_words * suc j = omega arith in
    rw (add-one j)
    (last_row leaf_total_words (λ _. sum_row no_sums) (λ _. refl) (sum_row no_sums) refl j (drop (leaf_total_words * j) ws) fit
    ∙ rw (drop-drop leaf_total_words (leaf_total_words * j) ws, next) (sym (append_assoc (no_sum_words j) (sum_row no_sums) (drop (leaf_total_words * suc j) ws))))

-- rows that are all cleared
module _ (n : ℕ) {ws : List ℕ} (old : List ℕ) (e : ws ≡ no_sum_words n ++ drop (leaf_total_words * n) old) where
  pub cleared_rest : drop (leaf_total_words * n) ws ≡ drop (leaf_total_words * n) old
  cleared_rest = rw e (drop_at (no_sum_words n) (drop (leaf_total_words * n) old) (leaf_total_words * n) (rows_length leaf_total_words (λ _. sum_row no_sums) (λ _. refl) n))

  pub cleared_again : ws ≡ no_sum_words n ++ drop (leaf_total_words * n) ws
  cleared_again = rw cleared_rest e

-- a finished row has as many words
pub finished_length : (nodes cells j : ℕ) (ws : List ℕ) → length (finished nodes cells j ws) ≡ length ws
unfolding finished
finished_length nodes cells zero ws = refl
finished_length nodes cells (suc j) ws =
    let before = finished nodes cells j ws in
    length-sets before (leaf_total_words * j) (leaf_words (answered nodes cells (sums_at before j))) ∙ finished_length nodes cells j ws

pub finished_more : (nodes cells j : ℕ) (ws : List ℕ) → let before = finished nodes cells j ws in
    stored before j (leaf_words (answered nodes cells (sums_at before j))) ≡ finished nodes cells (j + 1) ws
unfolding finished
finished_more nodes cells j ws = rw (add-one j)

-- rows in front of an area leave its length
pub kept_length : (f : ℕ → Sums) (n : ℕ) (ws : List ℕ) → leaf_total_words * n ≤ length ws → length (rows (λ j. sum_row (f j)) n ++ drop (leaf_total_words * n) ws) ≡ length ws
kept_length f n ws h = rw (length-append, rows_length leaf_total_words (λ j. sum_row (f j)) (λ _. refl) n, length-drop) (omega arith)

module _ (bs : List ℕ) (version : ℕ) (words : List ℕ) (block step n : ℕ) (rest : List ℕ) where
  abbrev after : ℕ → ℕ → List ℕ
  after i k = all_sums block step (records_say bs version words i k) n ++ rest

  pub none_scattered : (m : ℕ) {ws : List ℕ} → ws ≡ no_sum_words n ++ rest → ws ≡ after m (m - m)
  unfolding records_say sums
  none_scattered m e = rw sub_self e

  pub one_scattered : (i m : ℕ) {ws ws' : List ℕ} → 0 < i → i ≤ m → ws ≡ after i (m - i) → ws' ≡ scattered block step n (record_says bs version words (i - 1)) ws → ws' ≡ after (i - 1) (m - (i - 1))
  unfolding records_say sums
  one_scattered i m h l e f =
      let a : m - (i - 1) ≡ suc (m - i) = omega arith in
      let b : suc (i - 1) ≡ i = omega arith in
      f ∙ rw (e, a, b) (scattered_is (λ j. sums (under_by block step j) (records_say bs version words i (m - i))) n rest block step (record_says bs version words (i - 1)))

  pub has_room : (i k : ℕ) {ws : List ℕ} → k ≤ 2 ^ 31 → ws ≡ after i k → Room n ws
  has_room i k h e j l =
      records_within bs version words (under_by block step j) i k h
      (rw e (sums_at_lem (λ j. sum_row (sums (under_by block step j) (records_say bs version words i k))) (λ _. refl) n rest j l (sums (under_by block step j) (records_say bs version words i k)) refl))

-- ---- all leaves

-- what is answered for each leaf
abbrev pub leaf_rows : List ℕ → Answer → List ℕ → ℕ → ℕ → List ℕ
leaf_rows bs a ws dimension n = rows (λ j. leaf_words (answered a.nodes a.cells (word_sums bs a ws dimension j))) n

module _ (n : ℕ) (old : List ℕ) {ws : List ℕ} (e : ws ≡ no_sum_words n ++ drop (leaf_total_words * n) old) where
  pub rows_fit : leaf_total_words * n ≤ length old → (f : ℕ → Sums) {w : List ℕ} → w ≡ rows (λ j. sum_row (f j)) n ++ drop (leaf_total_words * n) ws → leaf_total_words * n ≤ length w
  rows_fit h f g =
      let same : length (rows (λ j. sum_row (f j)) n ++ drop (leaf_total_words * n) old) ≡ length old = kept_length f n old h in
      rw (g, cleared_rest n old e) (omega (arith, same))

  pub filled_rows : (bs : List ℕ) (a : Answer) (records : List ℕ) (dimension : ℕ) {g : Grid} → g ≡ grid_of bs a dimension → {w w' : List ℕ}
      → w ≡ all_sums g.block g.step (records_say bs g.version records 0 g.cells) n ++ drop (leaf_total_words * n) ws → w' ≡ finished a.nodes a.cells n w
      → w' ≡ leaf_rows bs a records dimension n ++ drop (leaf_total_words * n) old
  unfolding word_sums
  filled_rows bs a records dimension d f h =
      h ∙ rw (f, d, cleared_rest n old e) (all_finished (λ j. word_sums bs a records dimension j) n (drop (leaf_total_words * n) old) a.nodes a.cells)
