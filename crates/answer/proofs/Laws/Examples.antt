-- What is answered for a member, by computation: with areas that are just large enough, or not; and of a member whose axes differ in all three.
use Rattle.std.specs.Prelude.{◌≡◌, refl, List, [], ◌∷◌, ◌++◌, map, ℕ, take, drop}
use Rattle.grammar.specs.Layout.{little, digits}
use Rattle.grammar.specs.Records.{dim_record, cell_record, dim_entry, dims_entries, rows_words}
use Rattle.grammar.specs.Member.{cell_records}
use Rattle.grammar.specs.Laws.Member.AcceptedExample.{member, computed, words_of}
use Rattle.answer.specs.Demand3.{zeros}
use Rattle.answer.specs.Answer.{refusal, accepted, answer_of}

-- Example: five nodes take 35 words, two cells 6. Where both areas are too short, 12 comes first
areas : map (λ (a : ℕ × ℕ). (answer_of (computed member) a.0 a.1).refusal) ((34, 5) ∷ (34, 6) ∷ (35, 5) ∷ (35, 6) ∷ []) ≡ 12 ∷ 12 ∷ 13 ∷ 0 ∷ []
unfolding member computed refusal accepted answer_of
areas = refl

-- 12 and 13 give the number of nodes and that of cells
counts : answer_of (computed member) 34 5 ≡ refusal 12 0 5 2
unfolding member computed refusal accepted answer_of
counts = refl

-- an int32
abbrev int : ℕ → List ℕ
int n = digits little 4 n

-- the member with its second dimension once more: no layer, a row with dimension 2, and two columns with dimensions 0 and 1
three : List ℕ
unfolding member
three =
    take 706 member ++ int 3 ++ drop 710 (take 882 member) ++ drop 808 (take 882 member) ++ int 0 ++ int 1 ++ int 2 ++ int 2 ++ int 0 ++ int 1
    ++ drop 902 member

-- Example: everything that is answered by value
values : answer_of (computed three) 49 6
    ≡ record {
      refusal = 0;
      place = 0;
      dims = 3;
      nodes = 7;
      cells = 2;
      dimensions = dim_record 710 9 2 0 ++ dim_record 808 9 2 3 ++ dim_record 882 9 2 5 ++ zeros 52;
      layers = 0;
      rows = 1;
      columns = 2;
      order = 2 ∷ 0 ∷ 1 ∷ zeros 13;
    }
unfolding three member computed zeros refusal accepted answer_of dim_entry dims_entries
values = refl

-- Example: and its cell records
cell_records_lem : words_of cell_records (computed three) ≡ cell_record 3 992 9 ++ cell_record 0 1009 9
unfolding three member computed words_of rows_words
cell_records_lem = refl
