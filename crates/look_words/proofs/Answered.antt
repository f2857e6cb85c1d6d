-- An answer's words at the front of an area with room for them.
use mathlib.Core.Path.{◌≡◌, sym, ap, ◌∙◌}
use mathlib.Core.Bool.{true}
use mathlib.Core.List.{List}
use Prim.Native.Nat.{ℕ}
use lib.ListN.{length}
use lib.Dec.{leb}
use Rattle.sizes.specs.Sizes.{look_answer_words}
use Rattle.layout.specs.Step.{Step}
use Rattle.std.specs.Prelude.{Ok}
use Rattle.grammar.specs.Layout.{Bytes}
use Rattle.grammar.specs.Laws.Layout.Read.{read}
use Rattle.look.specs.Read.{Answer}
use Rattle.look.specs.Look.{TableLook}
use Rattle.look.specs.Answers.{outcome, expected}
use Rattle.look_words.specs.FieldWords.{answer_words_of}
use Rattle.look_words.specs.Laws.Theorems.{code_words, answer_same, answer_long}
use Rattle.store.specs.Puts.{PutsWordsTo, AtFront}
use Rattle.store.specs.Laws.Puts.{with_room}

module _ (s : List ℕ) (bs : Bytes s) (b : List ℕ) (a : Answer) {c : Answer} {b' : List ℕ} {r : Step} where
  pub answered : outcome a ≡ expected (read TableLook s 0) → leb look_answer_words (length b) ≡ true → a ≡ c → PutsWordsTo (code_words c) b (Ok 0) b' r
      → AtFront look_answer_words (answer_words_of (expected (read TableLook s 0))) b look_answer_words b'
  answered e t i x =
      let j : answer_words_of (expected (read TableLook s 0)) ≡ code_words a = ap answer_words_of (sym e) ∙ answer_same s bs a e in
      let y : PutsWordsTo (code_words a) b (Ok 0) b' r = rw i x in
      rw j (with_room look_answer_words (code_words a) b (answer_long a) t y)
