-- Which numbers a refusal of a layout or of a rule can have, and where its place can be.
use Rattle.std.specs.Prelude.{◌≡◌, true, List, [], ℕ, ◌+◌, ◌≤◌, length}
use Rattle.std.proofs.Math.Path.{refl}
use Rattle.std.proofs.Common.{arith, length-append}
use Rattle.sizes.specs.Basics.{among}
use Rattle.grammar.specs.Layout.{Test, any_number, the_number, a_version, a_bool, at_most, one_of, one_of_but, a_color, Content, any_bytes, no_zero, Layout, empty, number, string, ◌▸◌, times, leading, region, nothing}
use Rattle.grammar.specs.Fails.{Fails}
use Rattle.grammar.specs.Rule.{Rule, plain, ◌▸▸◌, numbered, items, asked, tested, onto, Breaks}
use Rattle.grammar.specs.Rule as rule
use Rattle.grammar.specs.Laws.Layout.Uses.{of_empty, of_number, of_string, of_two, of_times, of_leading, of_region, of_nothing}
use Rattle.grammar.specs.Laws.Layout.Digits.{length_digits}
use Rattle.grammar.proofs.Laws.Layout.FailsExactly.{place_inside}
use Rattle.grammar.specs.Laws.Layout.Bounds.{all_among, layout_numbers, untested, given, test_gives, content_gives, TestsGive, Numbered, is_among, fails_among, breaks_among, PlacesInside}

-- every layout gives only these
module _ (ks : List ℕ) (h : all_among layout_numbers ks ≡ true) where
  test_gives_lem : (test : Test) → test_gives ks test ≡ true
  unfolding test_gives all_among given among
  test_gives_lem any_number = refl
  test_gives_lem (the_number k) = rw (is_among 3 layout_numbers ks refl h)
  test_gives_lem (a_version vs) = rw (is_among 4 layout_numbers ks refl h)
  test_gives_lem a_bool = rw (is_among 5 layout_numbers ks refl h)
  test_gives_lem (at_most k) = rw (is_among 7 layout_numbers ks refl h)
  test_gives_lem (one_of vs) = rw (is_among 3 layout_numbers ks refl h)
  test_gives_lem (one_of_but vs others) = rw (is_among 3 layout_numbers ks refl h, is_among 4 layout_numbers ks refl h)
  test_gives_lem a_color = rw (is_among 14 layout_numbers ks refl h)

  content_gives_lem : (c : Content) → content_gives ks c ≡ true
  unfolding content_gives among
  content_gives_lem any_bytes = refl
  content_gives_lem no_zero = is_among 18 layout_numbers ks refl h

  pub every_layout : (g : Layout) → TestsGive ks g
  every_layout empty = of_empty
  every_layout (number o w test k) = of_number (test_gives_lem test) (λ n. every_layout (k n))
  every_layout (string o w c) = of_string (content_gives_lem c)
  every_layout (a ▸ b) = of_two (every_layout a) (every_layout b)
  every_layout (times n a) = of_times (every_layout a)
  every_layout (leading b n a) = of_leading (every_layout a)
  every_layout (region o f a) = of_region (every_layout a)
  every_layout nothing = of_nothing

  untested_too : all_among untested ks ≡ true
  unfolding all_among among
  untested_too = rw (is_among 2 layout_numbers ks refl h, is_among 3 layout_numbers ks refl h, is_among 6 layout_numbers ks refl h, is_among 7 layout_numbers ks refl h)

  pub breaks_numbers : {g : Layout} {u : Rule g} → Numbered ks u → {s : List ℕ} {at n p : ℕ} → Breaks g u s at n p → among n ks ≡ true
  breaks_numbers {g} r f = breaks_among ks untested_too (every_layout g) r f

pub fails_numbers : {g : Layout} {s : List ℕ} {at n p : ℕ} → Fails g s at n p → among n layout_numbers ≡ true
unfolding all_among among
fails_numbers {g} f = fails_among layout_numbers refl (every_layout layout_numbers refl g) f

pub break_inside : {g : Layout} {u : Rule g} → PlacesInside u → {s : List ℕ} {at n p : ℕ} → Breaks g u s at n p → p ≤ at + length s
break_inside r (rule.fails f) = (place_inside f).1
break_inside r (rule.first f) = break_inside r.0 f
break_inside r (rule.second {t = t} v c f) = let i = break_inside (r.1 t) f in rw (v.split, length-append) (omega arith)
break_inside r (rule.in_number f) = (place_inside f).1
break_inside r (rule.after_number {o} {w} {m = m} v e f) = let i = break_inside (r m) f in rw (v.split, length-append, length_digits) (omega arith)
break_inside r (rule.item {ts = ts} v c l f) = let i = break_inside (r (onto [] ts)) f in rw (v.split, length-append) (omega arith)
break_inside r (rule.not_so e) = omega arith
break_inside r (rule.is_so e f) = break_inside r f
break_inside r (rule.before_test f) = break_inside r.0 f
break_inside r (rule.wrong {t = t} {q = q} v c e) = let i = r.1 t v.valid q e in rw (v.split, length-append) (omega arith)
