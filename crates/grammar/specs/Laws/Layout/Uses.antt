-- Which tests of numbers and which contents of strings a layout uses.
use Rattle.std.specs.Prelude.{◌≡◌, Bool, true, false, ℕ}
use Rattle.sizes.specs.Basics.{pick}
use Rattle.grammar.specs.Layout.{Order, Test, Content, Fill, Layout, empty, number, string, ◌▸◌, times, leading, region, nothing}

-- every test is one that P names, every content one that Q names
pub data Uses (P : Test → Bool) (Q : Content → Bool) : Layout → Type 0 where
  of_empty : Uses P Q empty
  of_number : {o : Order} {w : ℕ} {test : Test} {k : ℕ → Layout} → P test ≡ true → ((n : ℕ) → Uses P Q (k n)) → Uses P Q (number o w test k)
  of_string : {o : Order} {w : ℕ} {c : Content} → Q c ≡ true → Uses P Q (string o w c)
  of_two : {a b : Layout} → Uses P Q a → Uses P Q b → Uses P Q (a ▸ b)
  of_times : {n : ℕ} {a : Layout} → Uses P Q a → Uses P Q (times n a)
  of_leading : {b n : ℕ} {a : Layout} → Uses P Q a → Uses P Q (leading b n a)
  of_region : {o : Order} {f : Fill} {a : Layout} → Uses P Q a → Uses P Q (region o f a)
  of_nothing : Uses P Q nothing

pub of_pick : {P : Test → Bool} {Q : Content → Bool} (b : Bool) {x y : Layout} → Uses P Q x → Uses P Q y → Uses P Q (pick b x y)
unfolding pick
of_pick true h k = h
of_pick false h k = k

pub ruleset uses = (of_empty, of_number, of_string, of_two, of_times, of_leading, of_region, of_nothing, of_pick)

-- and so of contents that are named more freely
pub more_contents : {P : Test → Bool} {Q R : Content → Bool} → ((c : Content) → Q c ≡ true → R c ≡ true) → {g : Layout} → Uses P Q g → Uses P R g
more_contents f of_empty = of_empty
more_contents f (of_number e h) = of_number e (λ n. more_contents f (h n))
more_contents f (of_string {c = c} e) = of_string (f c e)
more_contents f (of_two h k) = of_two (more_contents f h) (more_contents f k)
more_contents f (of_times h) = of_times (more_contents f h)
more_contents f (of_leading h) = of_leading (more_contents f h)
more_contents f (of_region h) = of_region (more_contents f h)
more_contents f of_nothing = of_nothing
