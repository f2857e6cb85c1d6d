-- The words of a look's fields in the file, and of what reading a file answers.
use Rattle.std.specs.Prelude.{List, [], ◌∷◌, ◌++◌, ℕ, length, take, replicate}
use Rattle.sizes.specs.Sizes.{look_words, no_place}
use Rattle.grammar.specs.Layout.{Test, any_number, the_number, a_version, a_bool, at_most, one_of, one_of_but, a_color, Layout, empty, number, string, ◌▸◌, times, leading, region, nothing, spell_all}
use Rattle.layout.specs.Words.{word32}
use Rattle.store.specs.Fields.{Text, lent, letters, Fields}
use Rattle.look.specs.Look as grammar
use Rattle.look.specs.Look.{TableLook02}
use Rattle.look.specs.Answers.{Outcome, accepted, refused}

-- A number and the words of what follows it. A fixed number has no word; a choice (002 has one, Separator) has three words after it, 0 where
-- less follows.
abbrev pub numbered : Test → ℕ → List ℕ → List ℕ
numbered (the_number v) n rest = rest
numbered (one_of ns) n rest = n ∷ take 3 (rest ++ 0 ∷ 0 ∷ 0 ∷ [])
numbered any_number n rest = n ∷ rest
numbered (a_version ns) n rest = n ∷ rest
numbered a_bool n rest = n ∷ rest
numbered (at_most m) n rest = n ∷ rest
numbered (one_of_but ks others) n rest = n ∷ rest
numbered a_color n rest = n ∷ rest

-- a name by its place and its length; letters that stand in no file have their length, and no place
unfoldable pub text_words : Text → List ℕ
text_words (lent n) = word32 n.place ∷ word32 n.length ∷ []
text_words (letters xs) = no_place ∷ length xs ∷ []

-- (A look has no runs and no regions.)
unfoldable pub words : (g : Layout) → Fields g → List ℕ
words empty f = []
words (number o w test k) f = numbered test f.0 (words (k f.0) f.1)
words (string o w c) f = text_words f
words (a ▸ b) f = words a f.0 ++ words b f.1
words (times n a) f = spell_all (words a) f
words (leading b n a) f = []
words (region o m a) f = []
words nothing f = []

-- the words of a look: its version, its settings, and its four other sections
unfoldable pub field_words : Fields TableLook02 → List ℕ
field_words f =
    f.1.0 ∷ words grammar.settings f.1.1.0
    ++ words (grammar.PVSeparatorStyle ▸ grammar.PVCellStyle ▸ grammar.PVTextStyle) f.1.1.1.0
    ++ words grammar.V2Styles f.1.1.1.1

-- 264 words: the refusal, 0 if the look is accepted, and its place, which is at most `longest_look`; then the look, all 0 on a refusal
unfoldable pub answer_words_of : Outcome → List ℕ
answer_words_of (accepted f) = 0 ∷ 0 ∷ field_words f
answer_words_of (refused n p) = n ∷ p ∷ replicate look_words 0
