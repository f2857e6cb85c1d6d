-- Which numbers a refusal of a layout or of a rule can have, and where its place can be.
use Rattle.std.specs.Prelude.{◌≡◌, Bool, true, false, ◌||◌, ◌&&◌, List, [], ◌∷◌, ℕ, ◌≤◌, length, eqb}
use Rattle.std.proofs.Math.Path.{refl}
use Rattle.std.proofs.Math.Option.{some}
use Rattle.std.proofs.Common.{eqb-true}
use Rattle.sizes.specs.Basics.{among, pick}
use Rattle.grammar.specs.Layout.{Test, any_number, the_number, a_version, a_bool, at_most, one_of, one_of_but, a_color, Content, any_bytes, no_zero, Layout, Tree, spell, passes, suits, Valid}
use Rattle.grammar.specs.Numbers.{refusal, too_short, zero_byte, differs, ends_early, limit_passed}
use Rattle.grammar.specs.Fails.{Fails, number_short, number_wrong, number_then, string_short, string_wrong, first, second, item, after_run, run_alone, region_short, content, bytes_left, too_deep}
use Rattle.grammar.specs.Rule.{Rule, plain, ◌▸▸◌, numbered, items, asked, tested, onto, Breaks}
use Rattle.grammar.specs.Rule as rule
use Rattle.grammar.specs.Laws.Layout.Uses.{Uses, of_empty, of_number, of_string, of_two, of_times, of_leading, of_region}

-- ---- numbers

-- all of the ns are among the ks
unfoldable pub all_among : List ℕ → List ℕ → Bool
all_among [] ks = true
all_among (n ∷ ns) ks = among n ks && all_among ns ks

-- the numbers that a layout gives (document 01, "Refusal numbers")
abbrev pub layout_numbers : List ℕ
layout_numbers = 2 ∷ 3 ∷ 4 ∷ 5 ∷ 6 ∷ 7 ∷ 14 ∷ 18 ∷ []

-- those among them that no test gives
abbrev pub untested : List ℕ
untested = too_short ∷ differs ∷ ends_early ∷ limit_passed ∷ []

-- the numbers that a broken test may give
unfoldable pub given : Test → List ℕ
given any_number = []
given (the_number k) = 3 ∷ []
given (a_version vs) = 4 ∷ []
given a_bool = 5 ∷ []
given (at_most k) = 7 ∷ []
given (one_of vs) = 3 ∷ []
given (one_of_but vs others) = 3 ∷ 4 ∷ []
given a_color = 14 ∷ []

-- they are among the ks
unfoldable pub test_gives : List ℕ → Test → Bool
unfolding all_among given
test_gives ks test = all_among (given test) ks

-- a string of forbidden content likewise
unfoldable pub content_gives : List ℕ → Content → Bool
content_gives ks any_bytes = true
content_gives ks no_zero = among zero_byte ks

-- whatever of the layout is broken gives one of the ks
abbrev pub TestsGive : List ℕ → Layout → Type 0
TestsGive ks g = Uses (test_gives ks) (content_gives ks) g

-- every number that the rule gives itself is one of the ks
abbrev pub Numbered : {g : Layout} → List ℕ → Rule g → Type 0
Numbered ks (plain g) = Unit {0}
Numbered ks (◌▸▸◌ {a} u k) = Numbered ks u × ((t : Tree a) → Numbered ks (k t))
Numbered ks (numbered k) = (n : ℕ) → Numbered ks (k n)
Numbered ks (items {a = a} k) = (done : List (Tree a)) → Numbered ks (k done)
Numbered ks (asked b n back u) = (among n ks ≡ true) × Numbered ks u
Numbered ks (tested u n v) = (among n ks ≡ true) × Numbered ks u

pub is_among : (n : ℕ) (ns ks : List ℕ) → among n ns ≡ true → all_among ns ks ≡ true → among n ks ≡ true
unfolding among all_among
is_among n [] ks e h = cc
is_among n (m ∷ ns) ks e h = go (eqb n m) refl (among m ks) refl e h (is_among n ns ks)
  where
    go : (b : Bool) → eqb n m ≡ b → (c : Bool) → among m ks ≡ c → (b || among n ns) ≡ true → (c && all_among ns ks) ≡ true
        → (among n ns ≡ true → all_among ns ks ≡ true → among n ks ≡ true) → among n ks ≡ true
    go b q false r e' h' rest = cc
    go true q true r e' h' rest = rw (eqb-true n m q) r
    go false q true r e' h' rest = rest e' h'

broken_given : (test : Test) (n : ℕ) → passes test n ≡ false → among (refusal test n) (given test) ≡ true
unfolding passes refusal given among pick
broken_given any_number n e = cc
broken_given (the_number k) n e = refl
broken_given (a_version vs) n e = refl
broken_given a_bool n e = refl
broken_given (at_most k) n e = refl
broken_given (one_of vs) n e = refl
broken_given (one_of_but vs others) n e = go (among n others)
  where
    go : (b : Bool) → among (pick b 4 3) (3 ∷ 4 ∷ []) ≡ true
    go true = refl
    go false = refl
broken_given a_color n e = refl

broken_gives : (ks : List ℕ) (test : Test) (n : ℕ) → test_gives ks test ≡ true → passes test n ≡ false → among (refusal test n) ks ≡ true
unfolding test_gives
broken_gives ks test n h e = is_among (refusal test n) (given test) ks (broken_given test n e) h

wrong_gives : (ks : List ℕ) (c : Content) (xs : List ℕ) → content_gives ks c ≡ true → suits c xs ≡ false → among zero_byte ks ≡ true
unfolding content_gives suits
wrong_gives ks any_bytes xs h e = cc
wrong_gives ks no_zero xs h e = h

module _ (ks : List ℕ) (h : all_among untested ks ≡ true) where
  pub fails_among : {g : Layout} → TestsGive ks g → {s : List ℕ} {at n p : ℕ} → Fails g s at n p → among n ks ≡ true
  unfolding among
  fails_among t (number_short l) = is_among 2 untested ks refl h
  fails_among (of_number e t) (number_wrong {test = test} {n = n} v w) = broken_gives ks test n e w
  fails_among (of_number e t) (number_then {n = n} v w f) = fails_among (t n) f
  fails_among t (string_short u) = is_among 2 untested ks refl h
  fails_among (of_string e) (string_wrong {c = c} {xs = xs} v w) = wrong_gives ks c xs e w
  fails_among (of_two t u) (first f) = fails_among t f
  fails_among (of_two t u) (second v f) = fails_among u f
  fails_among (of_times t) (item v l f) = fails_among t f
  fails_among (of_leading t) (after_run v f) = fails_among t f
  fails_among t (run_alone v u e) = is_among 3 untested ks refl h
  fails_among t (region_short u) = is_among 2 untested ks refl h
  fails_among (of_region t) (content v l f) = fails_among t f
  fails_among t (bytes_left v l c u) = is_among 6 untested ks refl h
  fails_among t too_deep = is_among 7 untested ks refl h

  pub breaks_among : {g : Layout} → TestsGive ks g → {u : Rule g} → Numbered ks u → {s : List ℕ} {at n p : ℕ} → Breaks g u s at n p → among n ks ≡ true
  breaks_among t r (rule.fails f) = fails_among t f
  breaks_among (of_two t t') r (rule.first f) = breaks_among t r.0 f
  breaks_among (of_two t t') r (rule.second {t = x} v c f) = breaks_among t' (r.1 x) f
  breaks_among (of_number e t) r (rule.in_number f) = fails_among (of_number e (λ _. of_empty)) f
  breaks_among (of_number e t) r (rule.after_number {m = m} v w f) = breaks_among (t m) (r m) f
  breaks_among (of_times t) r (rule.item {ts = ts} v c l f) = breaks_among t (r (onto [] ts)) f
  breaks_among t r (rule.not_so e) = r.0
  breaks_among t r (rule.is_so e f) = breaks_among t r.1 f
  breaks_among t r (rule.before_test f) = breaks_among t r.1 f
  breaks_among t r (rule.wrong v c e) = r.0

-- ---- places

-- what a test of the rule finds wrong in a tree when it ends lies in the tree, or right after it
abbrev pub PlacesInside : {g : Layout} → Rule g → Type 0
PlacesInside (plain g) = Unit {0}
PlacesInside (◌▸▸◌ {a} u k) = PlacesInside u × ((t : Tree a) → PlacesInside (k t))
PlacesInside (numbered k) = (n : ℕ) → PlacesInside (k n)
PlacesInside (items {a = a} k) = (done : List (Tree a)) → PlacesInside (k done)
PlacesInside (asked b n back u) = PlacesInside u
PlacesInside (tested {a} u n v) = PlacesInside u × ((t : Tree a) → Valid a t → (q : ℕ) → v t ≡ some q → q ≤ length (spell a t))
