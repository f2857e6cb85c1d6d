-- Cells that are read with no look at the indexes before them, and looked through after for the first index that stands again. Where
-- reading stops, such an index comes first.
use Rattle.std.specs.Prelude.{◌≡◌, refl, List, ℕ, ◌+◌, ◌-◌, ◌*◌, ◌≤◌, ◌<◌, length}
use Rattle.std.proofs.Common.{sym, ◌∙◌, arith, below_more}
use Rattle.sizes.specs.Sizes.{cell_words}
use Rattle.layout.specs.Step.{Step}
use Rattle.std.specs.Prelude.{Ok, Err}
use Rattle.layout.specs.Keeps.{Out, on, off}
use Rattle.grammar.specs.RecordWords.{word}
use Rattle.grammar.specs.Repeat.{strided, Before, FirstRepeat}
use Rattle.repeats.specs.Laws.Repeats.{AllNew, before_among, none_among}
use Rattle.grammar.specs.Laws.Table.LeastBytes.{least_cell}
use Rattle.cells.specs.CellRead.{Whole, BadIndex, BadValue}
use Rattle.axes.specs.Laws.Rows.{Storing, storing, stores_on, stores_off, stores_to}
use Rattle.cells.specs.Laws.Cells.{cell_kind, cell_of, OneCell, Stored, CellDone, bad_index, bad_value, whole, AllRead}

-- the index of cell k
abbrev pub index_of : List ℕ → ℕ → ℕ
index_of ws = strided cell_words ws

-- the place of the Value of cell k; its index stands 8 bytes before
abbrev pub value_at : List ℕ → ℕ → ℕ
value_at ws k = word ws (cell_words * k + 1)

-- the first m cells have an index before their Value
abbrev pub Placed : List ℕ → ℕ → Type 0
Placed ws m = (k : ℕ) → k < m → 8 ≤ value_at ws k

-- what the test of the first m cells gives
pub data Tested (ws : List ℕ) (m : ℕ) (end : Step) : Step → Type 0 where
  all_once : AllNew (index_of ws) m → Tested ws m end end
  repeated : (k : ℕ) → k < m → AllNew (index_of ws) k → Before (index_of ws) k (index_of ws k) → Tested ws m end (Err (10, value_at ws k - 8))

pub tested_once : {ws : List ℕ} {m at : ℕ} {end : Step} → FirstRepeat (index_of ws) m at → m ≤ at → Tested ws m end end
tested_once f h = all_once (λ j l. f.new j (omega arith))

pub tested_repeat : {ws : List ℕ} {m at : ℕ} {end : Step} → FirstRepeat (index_of ws) m at → at < m → Tested ws m end (Err (10, value_at ws at - 8))
tested_repeat {at = at} f h = repeated at h f.new (f.there h)

module _ (version : ℕ) where
  -- ---- the loop

  module _ (places : ℕ) (s : List ℕ) (n at : ℕ) (ws : List ℕ) where
    -- each of the first m cells of vs that repeats an earlier one, where none before it does, is where the whole reading is refused
    abbrev pub Repeats : ℕ → List ℕ → Type 0
    Repeats m vs = (k : ℕ) → k < m → AllNew (index_of vs) k → Before (index_of vs) k (index_of vs k) → AllRead version s at places n ws (Err (10, value_at vs k - 8)) vs

    -- after j cells, which end at at' and whose words are in vs
    pub record Reading (j at' : ℕ) (vs : List ℕ) : Type 0 where
      pub same_length : length vs ≡ length ws
      pub most : j ≤ n
      pub bytes : at + least_cell * j ≤ at'
      pub placed : Placed vs j
      pub stores : AllNew (index_of vs) j → Storing (cell_kind version) (cell_of version places) s n at ws j at' vs
      pub repeats : Repeats j vs

    pub reading : Reading 0 at ws
    reading = record { same_length = refl; most = omega arith; bytes = omega arith; placed = λ k l. absurd (omega arith); stores = λ _. storing (cell_kind version) (cell_of version places) s n at ws; repeats = λ k l. absurd (omega arith) }

    module _ {j at' : ℕ} {vs : List ℕ} (v : Reading j at' vs) where
      module _ (h : j < n) where
        refused : {m p : ℕ} → OneCell version s at' places j vs (off m p) → AllNew (index_of vs) j → AllRead version s at places n ws (Err (m, p)) vs
        refused o a = stores_off (cell_kind version) (cell_of version places) s n at ws (v.stores a) h o

        -- cell j has an index, x
        module _ {x : ℕ} {o : Out (ℕ × List ℕ)} {us : List ℕ} (d : (Stored version) s at' places j vs x o us) where
          alike : (k : ℕ) → k < j → index_of us k ≡ index_of vs k
          alike k l = d.same (cell_words * k) (omega arith)

          news : (k : ℕ) → k ≤ j → AllNew (index_of us) k → AllNew (index_of vs) k
          news k l a i h b = a i h (b.0, b.1, alike b.0 (omega (arith, b.1)) ∙ b.2 ∙ sym (alike i (omega arith)))

          is_new : AllNew (index_of us) (j + 1) → OneCell version s at' places j vs o
          is_new a = d.new (none_among cell_words vs j x (λ b. a j (omega arith) (b.0, b.1, alike b.0 b.1 ∙ b.2 ∙ sym d.index)))

          is_old : AllNew (index_of us) j → Before (index_of us) j (index_of us j) → AllRead version s at places n ws (Err (10, at')) us
          is_old a b =
              refused (d.old (before_among cell_words vs j x (b.0, b.1, sym (alike b.0 b.1) ∙ b.2 ∙ d.index))) (news j (omega arith) a)

          one_placed : Placed us (j + 1)
          one_placed =
              below_more (λ k. 8 ≤ value_at us k) j (λ k l. rw (d.same (cell_words * k + 1) (omega arith)) (v.placed k l)) (omega (arith, d.place))

          one_repeat : Repeats (j + 1) us
          one_repeat =
              below_more (λ k. AllNew (index_of us) k → Before (index_of us) k (index_of us k) → AllRead version s at places n ws (Err (10, value_at us k - 8)) us) j
              (λ k l a b.
              rw (d.same (cell_words * k + 1) (omega arith))
              (v.repeats k l (news k (omega arith) a) (b.0, b.1, sym (alike b.0 (omega (arith, b.1))) ∙ b.2 ∙ alike k l)))
              (λ a b.
              let e : at' + 8 - 8 ≡ at' = omega arith in
              rw (d.place, e) (is_old a b))

          one_more : {q : ℕ} → o ≡ on q (j + 1, us) → at' + least_cell ≤ q → Reading (j + 1) q us
          one_more {q} e l =
              record {
                same_length = d.same_length ∙ v.same_length;
                most = omega arith;
                bytes = omega (arith, v.bytes);
                placed = one_placed;
                stores = λ a. stores_on (cell_kind version) (cell_of version places) s n at ws (v.stores (news j (omega arith) (λ i b. a i (omega arith)))) h d.room (rw e at (is_new a));
                repeats = one_repeat;
              }

    -- what the test of the indexes asks for, and what it then decides
    pub record Testable (m : ℕ) (end : Step) (vs : List ℕ) : Type 0 where
      pub same_length : length vs ≡ length ws
      pub placed : Placed vs m
      pub repeats : Repeats m vs
      pub once : AllNew (index_of vs) m → AllRead version s at places n ws end vs

    module _ {j at' : ℕ} {vs : List ℕ} (v : Reading j at' vs) (h : j < n) where
      -- Whole: the next cell was read
      pub goes_on : {q : ℕ} {us : List ℕ} → CellDone version s at' places j vs (Whole q) us → Reading (j + 1) q us
      goes_on (whole d l) = one_more v h d refl l

      -- Bad index: reading stops, and the indexes before it are tested
      pub at_index : {m p : ℕ} {us : List ℕ} → CellDone version s at' places j vs (BadIndex m p) us → Testable j (Err (m, p)) us
      at_index (bad_index o) = record { same_length = v.same_length; placed = v.placed; repeats = v.repeats; once = refused v h o }

      -- Bad Value: reading stops, and the index of this cell is tested too
      pub at_value : {m p : ℕ} {us : List ℕ} → CellDone version s at' places j vs (BadValue m p) us → Testable (j + 1) (Err (m, p)) us
      at_value (bad_value d) =
          record {
            same_length = d.same_length ∙ v.same_length;
            placed = one_placed v h d;
            repeats = one_repeat v h d;
            once = λ a. refused v h (is_new v h d a) (news v h d j (omega arith) (λ i b. a i (omega arith)));
          }

    -- End: all cells were read, and all are tested
    pub at_end : {j at' : ℕ} {vs : List ℕ} → Reading j at' vs → n ≤ j → Testable n (Ok at') vs
    at_end v h =
        record {
          same_length = v.same_length;
          placed = λ k l. v.placed k (omega arith);
          repeats = λ k l. v.repeats k (omega arith);
          once = λ a. stores_to (cell_kind version) (cell_of version places) s n at ws (v.stores (λ i l. a i (omega (arith, v.most)))) h;
        }

    -- Tested: the first repeat, or else the answer of the reading
    pub answered : {m : ℕ} {end r : Step} {vs : List ℕ} → Testable m end vs → Tested vs m end r → AllRead version s at places n ws r vs
    answered {m} {end} {r} {vs} t x = go vs r t x
      where
        go : (vs : List ℕ) (r : Step) → Testable m end vs → Tested vs m end r → AllRead version s at places n ws r vs
        go vs r t (all_once a) = t.once a
        go vs r t (repeated k l a b) = t.repeats k l a b
