-- Bytes that fail by a layout without runs and regions, whose strings may hold any bytes: no farther than its longest fields reach, and by which numbers.
use Rattle.std.specs.Prelude.{◌≡◌, refl, Bool, true, false, List, [], ◌∷◌, ℕ, ◌+◌, ◌*◌, ◌≤◌, length}
use Rattle.std.proofs.Common.{sym, suc-mul, mul-le-mul_right, length-append}
use Rattle.std.proofs.lemmas.Bool.{false≢true}
use native.Mathlib.Omega.{arith}
use Rattle.sizes.specs.Basics.{among, pick}
use Rattle.grammar.specs.Layout.{Test, any_number, the_number, a_version, a_bool, at_most, one_of, one_of_but, a_color, passes, suits, Layout, empty, number, string, ◌▸◌, times, leading, region, nothing, Tree, spell_all, spell, All, all_none, all_more, Valid}
use Rattle.grammar.specs.Numbers.{refusal}
use Rattle.grammar.specs.Fails.{Fails, number_short, number_wrong, number_then, string_short, string_wrong, first, second, item, after_run, run_alone, region_short, content, bytes_left, too_deep}
use Rattle.grammar.specs.Laws.Layout as laws
use Rattle.store.specs.Laws.Bounds.{most, Bounded}

-- ---- how many bytes a derivation has at most

module _ {A : Type 0} (sp : A → List ℕ) (P : A → Type 0) (m : ℕ) (one : (x : A) → P x → length (sp x) ≤ m) where
  all_most : {xs : List A} → All P xs → length (spell_all sp xs) ≤ length xs * m
  unfolding spell_all
  all_most all_none = omega arith
  all_most (all_more {x} {xs} h hs) = rw (length-append, suc-mul) (omega (arith, one x h, all_most hs))

pub spell_most : (g : Layout) → Bounded g → (t : Tree g) → Valid g t → length (spell g t) ≤ most g
unfolding spell
spell_most empty h t v = omega arith
spell_most (number o w test k) h t v = rw (length-append, laws.digits_length) (omega (arith, spell_most (k t.0) (h t.0).1 t.1 v.2, (h t.0).0))
spell_most (string o w c) h t v = rw (length-append, laws.digits_length) (omega (arith, v.0))
spell_most (a ▸ b) h t v = rw length-append (omega (arith, spell_most a h.0 t.0 v.0, spell_most b h.1 t.1 v.1))
spell_most (times n a) h t v = rw (← v.0) (all_most (spell a) (Valid a) (most a) (spell_most a h) v.1)
spell_most (leading _ _ _) h t v = elim h [ ]
spell_most (region _ _ _) h t v = elim h [ ]
spell_most nothing h t v = elim h [ ]

-- ---- where bytes fail

pub fails_within : {g : Layout} {s : List ℕ} {at n p : ℕ} → Fails g s at n p → Bounded g → p ≤ at + most g
fails_within (number_short l) h = omega arith
fails_within (number_wrong v e) h = omega arith
fails_within (number_then {n = n} v e f) h = omega (arith, fails_within f (h n).1, (h n).0)
fails_within (string_short u) h = omega arith
fails_within (string_wrong v e) h = omega arith
fails_within (first f) h = omega (arith, fails_within f h.0)
fails_within (second {a = a} {t = t} v f) h = omega (arith, spell_most a h.0 t v.valid, fails_within f h.1)
fails_within (item {n} {a} {ts = ts} v l f) h =
    let far : (length ts + 1) * most a ≤ n * most a = mul-le-mul_right (most a) (omega arith) in
    omega (arith, all_most (spell a) (Valid a) (most a) (spell_most a h) v.valid, fails_within f h, far)
fails_within (after_run v f) h = absurd h
fails_within (run_alone v u e) h = absurd h
fails_within (region_short u) h = absurd h
fails_within (content v l f) h = absurd h
fails_within (bytes_left v l c u) h = absurd h
fails_within too_deep h = absurd h

-- ---- and by which numbers

abbrev pub field_numbers : List ℕ
field_numbers = 2 ∷ 3 ∷ 4 ∷ 5 ∷ 7 ∷ 14 ∷ []

pub test_number : (test : Test) (v : ℕ) → passes test v ≡ false → among (refusal test v) field_numbers ≡ true
unfolding passes refusal among pick
test_number any_number v e = absurd (false≢true (sym e))
test_number (the_number k) v e = refl
test_number (a_version ks) v e = refl
test_number a_bool v e = refl
test_number (at_most k) v e = refl
test_number (one_of ks) v e = refl
test_number (one_of_but ks others) v e = go (among v others)
  where
    go : (b : Bool) → among (pick b 4 3) field_numbers ≡ true
    go true = refl
    go false = refl
test_number a_color v e = refl

pub fails_numbers : {g : Layout} {s : List ℕ} {at n p : ℕ} → Fails g s at n p → Bounded g → among n field_numbers ≡ true
unfolding among suits
fails_numbers (number_short l) h = refl
fails_numbers (number_wrong {test = test} {n = n} v e) h = test_number test n e
fails_numbers (number_then {n = n} v e f) h = fails_numbers f (h n).1
fails_numbers (string_short u) h = refl
fails_numbers (string_wrong v e) h = absurd (false≢true (sym (rw h at e)))
fails_numbers (first f) h = fails_numbers f h.0
fails_numbers (second v f) h = fails_numbers f h.1
fails_numbers (item v l f) h = fails_numbers f h
fails_numbers (after_run v f) h = absurd h
fails_numbers (run_alone v u e) h = absurd h
fails_numbers (region_short u) h = absurd h
fails_numbers (content v l f) h = absurd h
fails_numbers (bytes_left v l c u) h = absurd h
fails_numbers too_deep h = absurd h
