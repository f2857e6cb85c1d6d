-- Words of separators, one after the other.
use Rattle.std.specs.Prelude.{◌≡◌, refl, List, [], ◌∷◌, ◌++◌, ℕ, ◌+◌, ◌<◌, length, take}
use Rattle.std.proofs.Common.{append_assoc, append-nil, get_or}
use Rattle.std.proofs.lemmas.List.{take_more}
use Rattle.grammar.specs.Layout.{spell_all}
use Rattle.layout.specs.Step.{Step}
use Rattle.look.specs.declared.Separator.{Separator}
use Rattle.look_words.specs.LookWords.{separator, four}
use Rattle.store.specs.Put.{put_words}
use Rattle.store.specs.Puts.{PutsWordsTo}
use Rattle.store.specs.Laws.Puts.{◌⟩◌}

-- none yet
pub puts_none : (xs : List Separator) {b : List ℕ} {st : Step} → PutsWordsTo (spell_all separator (take 0 xs)) b st b st
unfolding spell_all put_words
puts_none xs = record { is = refl }

with_last : (xs : List Separator) (x : Separator) → spell_all separator (xs ++ x ∷ []) ≡ spell_all separator xs ++ separator x
unfolding spell_all
with_last [] x = append-nil (separator x)
with_last (y ∷ xs) x = rw (with_last xs x, append_assoc (separator y) (spell_all separator xs) (separator x)) refl

-- some, and the next
pub puts_more : (xs : List Separator) (i : ℕ) (d : Separator) {b b₁ b₂ : List ℕ} {st q r : Step} → i < length xs
    → PutsWordsTo (spell_all separator (take i xs)) b st b₁ q → PutsWordsTo (separator (get_or xs i d)) b₁ q b₂ r
    → PutsWordsTo (spell_all separator (take (i + 1) xs)) b st b₂ r
puts_more xs i d l x y = rw (take_more xs i d l, with_last (take i xs) (get_or xs i d)) (x ⟩ y)

pub all_four : (a b c d : Separator) → spell_all separator (a ∷ b ∷ c ∷ d ∷ []) ≡ four a b c d
unfolding spell_all four
all_four a b c d = simp (append-nil, append_assoc)
