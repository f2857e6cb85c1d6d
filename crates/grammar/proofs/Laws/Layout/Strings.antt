-- Passed on: where a layout asks of each of its strings that no byte is 0, no string of a derivation has a byte 0.
use Rattle.std.specs.Prelude.{◌≡◌, refl, Bool, true, false, not, ℕ, eqb}
use Rattle.std.proofs.Common.{sym}
use Rattle.std.proofs.lemmas.Bool.{false≢true, eqb-false}
use Rattle.std.proofs.Math.Option.{none, some}
use mathlib.Core.List.{List, [], ◌∷◌}
use Rattle.sizes.specs.Basics.{among}
use Rattle.grammar.specs.Layout.{Test, Content, any_bytes, no_zero, suits, Fill, exact, optional, open_ended, Filled, Layout, Tree, spell, All, all_none, all_more, ValidFill, Valid}
use Rattle.grammar.specs.Strings.{strings_in, strings, NoZero}
use Rattle.grammar.specs.Laws.Layout.Uses.{Uses, of_empty, of_number, of_string, of_two, of_times, of_leading, of_region, of_nothing}
use Rattle.grammar.specs.Laws.Layout.Tests.{or_is_false}
use Rattle.grammar.specs.Laws.Layout.Strings.{strict, all_append, all_flat}

not_among : (xs : List ℕ) → among 0 xs ≡ false → NoZero xs
unfolding among
not_among [] e = all_none
not_among (x ∷ xs) e =
    let q = or_is_false (eqb 0 x) (among 0 xs) e in
    all_more (λ z. eqb-false 0 x q.0 (sym z)) (not_among xs q.1)

not-true : (b : Bool) → not b ≡ true → b ≡ false
not-true true e = sym e
not-true false e = refl

suited : (c : Content) (xs : List ℕ) → strict c ≡ true → suits c xs ≡ true → NoZero xs
unfolding suits
suited any_bytes xs h e = absurd (false≢true h)
suited no_zero xs h e = not_among xs (not-true (among 0 xs) e)

fill_free : {A : Type 0} {P : A → Type 0} {g : A → List (List ℕ)} (sp : A → List ℕ) → ((x : A) → P x → All NoZero (g x)) → (f : Fill) (t : Filled f A)
    → ValidFill f P sp t → All NoZero (strings_in f g t)
unfolding strings_in
fill_free sp one exact t v = one t v
fill_free sp one optional none v = all_none
fill_free sp one optional (some t) v = one t v.0
fill_free sp one open_ended t v = one t.0 v.0

pub strings_free : {P : Test → Bool} {g : Layout} → Uses P strict g → (t : Tree g) → Valid g t → All NoZero (strings g t)
unfolding strings
strings_free of_empty t v = all_none
strings_free (of_number e h) t v = strings_free (h t.0) t.1 v.2
strings_free (of_string {c = c} e) t v = all_more (suited c t e v.2) all_none
strings_free (of_two h k) t v = all_append (strings_free h t.0 v.0) (strings_free k t.1 v.1)
strings_free (of_times h) t v = all_flat (λ x w. strings_free h x w) v.1
strings_free (of_leading h) t v = strings_free h t.1 v.1
strings_free (of_region {f = f} {a = a} h) t v = fill_free (spell a) (λ x w. strings_free h x w) f t v.1
strings_free of_nothing t v = absurd t
