-- There is one first repeat.
use Rattle.std.specs.Prelude.{◌≡◌, refl, Bool, true, false, ℕ, ◌<◌, ltb}
use Rattle.std.proofs.Common.{arith, ltb-true, ltb-false}
use Rattle.grammar.specs.Repeat.{FirstRepeat}

not_later : {w : ℕ → ℕ} {m a b : ℕ} → FirstRepeat w m a → FirstRepeat w m b → a < b → ⊥
not_later {w} {m} {a} {b} f g h = g.new a h (f.there (omega (arith, g.within)))

by_order : {w : ℕ → ℕ} {m a b : ℕ} → FirstRepeat w m a → FirstRepeat w m b → (s t : Bool) → ltb a b ≡ s → ltb b a ≡ t → a ≡ b
by_order {w} {m} {a} {b} f g true t e e' = absurd (not_later f g (ltb-true a b e))
by_order {w} {m} {a} {b} f g false true e e' = absurd (not_later g f (ltb-true b a e'))
by_order {w} {m} {a} {b} f g false false e e' = omega (arith, ltb-false a b e, ltb-false b a e')

-- One: two answers are the same
pub one_first : {w : ℕ → ℕ} {m a b : ℕ} → FirstRepeat w m a → FirstRepeat w m b → a ≡ b
one_first {w} {m} {a} {b} f g = by_order f g (ltb a b) (ltb b a) refl refl
