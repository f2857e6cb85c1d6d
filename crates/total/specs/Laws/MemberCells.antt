-- The cells of a derivation are those that the words of its records have.
use Rattle.std.specs.Prelude.{◌≡◌, get_or}
use Rattle.std.proofs.Math.Path.{refl}
use Rattle.std.proofs.Common.{sym, ap, ◌∙◌, arith, get_or-append-add}
use mathlib.Core.List.{List, [], ◌∷◌, ◌++◌, append_assoc, append-nil}
use Prim.Native.Nat.{ℕ, suc, ◌+◌, ◌*◌}
use Rattle.std.proofs.Math.Nat.{mul-suc}
use Rattle.std.proofs.Math.ListN.{length, drop, length-append}
use Rattle.sizes.specs.Sizes.{cell_words}
use Rattle.sizes.specs.Basics.{pick}
use Rattle.grammar.specs.Layout.{little, Tree, digits, spell_all, spell, size, All, all_none, all_more, Valid}
use Rattle.grammar.specs.Part.{part_of}
use Rattle.grammar.specs.Laws.Layout.Read.{read, got}
use Rattle.grammar.specs.Laws.Layout as laws
use Rattle.grammar.specs.Laws.Layout.{digits_length}
use Rattle.grammar.specs.Laws.Layout.Spelt as spelt
use Rattle.grammar.specs.Value.{CellValue}
use Rattle.grammar.specs.RecordWords.{word}
use Rattle.grammar.specs.Table.{Cell}
use Rattle.grammar.specs.Laws.Member.RecordsSpelt.{part_of_lem}
use Rattle.grammar.specs.Records.{cell_words_of, rows_words, cell_index, cell_value}
use Rattle.contents.specs.Contents.{contents}
use Rattle.contents.specs.Answers.{unread}
use Rattle.contents.specs.Laws.Answers.{answer_of, value_answer}
use Rattle.total.specs.Total.{CellSays, cells_say}
use Rattle.total.specs.Laws.Words.{records_say}

-- what is answered for the bytes of a Value is what it says
value_of_bytes : (version : ℕ) (s : List ℕ) (v : Tree (CellValue version)) → unread version s ≡ 0 → s ≡ spell (CellValue version) v → Valid (CellValue version) v
    → value_answer version s ≡ contents version v
unfolding answer_of pick
value_of_bytes version s v known e h =
    let r : read (CellValue version) s 0 ≡ got v [] (0 + length (spell (CellValue version) v)) =
    rw (e ∙ sym (append-nil (spell (CellValue version) v))) (laws.complete (CellValue version) v h [] 0) in
    rw (known, r)

-- ---- the words of one record, after those before it

-- the word m of what follows
pub later_word : (pre ys : List ℕ) (i m : ℕ) → i ≡ length pre + m → word (pre ++ ys) i ≡ get_or ys m 0
unfolding word
later_word pre ys i m e = rw e (get_or-append-add pre ys m 0)

module _ (bs : List ℕ) (version : ℕ) (known : (place long : ℕ) → unread version (part_of bs place long) ≡ 0) where
  -- the Value of a cell, which is at `at`
  cell_value_lem : (at : ℕ) (c : Tree (Cell version)) (after : List ℕ) → Valid (Cell version) c → drop at bs ≡ spell (Cell version) c ++ after
      → value_answer version (part_of bs (at + 8) (size (CellValue version) (cell_value version c))) ≡ contents version (cell_value version c)
  unfolding spell
  cell_value_lem at c after h e =
      let v = cell_value version c in
      let index = digits little 8 (cell_index version c) in
      let split : drop at bs ≡ index ++ (spell (CellValue version) v ++ after) = e ∙ rw (append-nil index) (append_assoc index (spell (CellValue version) v) after) in
      let there : drop (at + 8) bs ≡ spell (CellValue version) v ++ after = rw digits_length at (spelt.after bs at index (spell (CellValue version) v ++ after) split) in
      value_of_bytes version (part_of bs (at + 8) (size (CellValue version) v)) v (known (at + 8) (size (CellValue version) v))
      (part_of_lem (record { rest = after; there = there; length_of = refl })) h.1

  pub records_say_lem : (pre : List ℕ) (j at : ℕ) {cs : List (Tree (Cell version))} (after rest : List ℕ) → length pre ≡ cell_words * j → drop at bs ≡ spell_all (spell (Cell version)) cs ++ after
      → All (Valid (Cell version)) cs
      → records_say bs version (pre ++ (rows_words (size (Cell version)) (cell_words_of version) at cs ++ rest)) j (length cs) ≡ cells_say version at cs
  unfolding records_say cells_say rows_words spell_all size
  records_say_lem pre j at after rest l e all_none = refl
  records_say_lem pre j at after rest l e (all_more {x = c} {xs = cs} h hs) =
      let one = cell_words_of version at c in
      let others = rows_words (size (Cell version)) (cell_words_of version) (at + size (Cell version) c) cs ++ rest in
      let split : drop at bs ≡ spell (Cell version) c ++ (spell_all (spell (Cell version)) cs ++ after) =
      e ∙ append_assoc (spell (Cell version) c) (spell_all (spell (Cell version)) cs) after in
      let next : length (pre ++ one) ≡ cell_words * suc j = omega (arith, length-append pre one, mul-suc cell_words j, l) in
      let behind : drop (at + size (Cell version) c) bs ≡ spell_all (spell (Cell version)) cs ++ after = spelt.after bs at (spell (Cell version) c) (spell_all (spell (Cell version)) cs ++ after) split in
      let rest-says = rw append_assoc at (records_say_lem (pre ++ one) (suc j) (at + size (Cell version) c) after rest next behind hs) in
      rw (
        later_word pre (one ++ others) (cell_words * j) 0 (omega arith),
        later_word pre (one ++ others) (cell_words * j + 1) 1 (omega arith),
        later_word pre (one ++ others) (cell_words * j + 2) 2 (omega arith),
        cell_value_lem at c (spell_all (spell (Cell version)) cs ++ after) h split,
      )
      (ap {B = List CellSays} (λ xs. record { index = cell_index version c; place = at + 8; contents = contents version (cell_value version c) } ∷ xs) rest-says)
