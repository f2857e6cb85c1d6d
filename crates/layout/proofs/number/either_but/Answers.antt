-- the number that may be left out, and others
use Rattle.std.proofs.Common.{◌≡◌, refl, ◌∙◌, ℕ, Bool, true, false, not, ◌||◌, ◌&&◌, [], ◌∷◌, eqb, eq-eqb, ne_eqb}
use Rattle.sizes.specs.Basics.{among, pick}
use Rattle.grammar.specs.Layout.{one_of_but, passes}
use Rattle.grammar.specs.Laws.Layout.Read.{refusal}
use Rattle.layout.specs.Reads.{verdict}
use Rattle.layout.proofs.number.either_but.Goals as goal

left_out : (without : Bool) (v a b : ℕ) → v ≡ a → pick (not without) 0 4 ≡ verdict (one_of_but (a ∷ b ∷ []) (pick without (a ∷ []) [])) v
unfolding verdict passes refusal among pick
left_out true v a b e = rw (eq-eqb v a e)
left_out false v a b e = rw (eq-eqb v a e)

one : (c : Bool) → ◌≡◌ {A = ℕ} (pick c 0 3) (pick ((c || false) && true) 0 3)
unfolding pick
one true = refl
one false = refl

others : (without : Bool) (v a b : ℕ) → (v ≡ a → ⊥) → pick (eqb v b) 0 3 ≡ verdict (one_of_but (a ∷ b ∷ []) (pick without (a ∷ []) [])) v
unfolding verdict passes refusal among pick
others true v a b n = rw (ne_eqb v a n) (one (eqb v b))
others false v a b n = rw (ne_eqb v a n) (one (eqb v b))

pub returns-then-v-a : goal.returns-then-v-a
returns-then-v-a c = c.unless.ensures.code ∙ left_out _ _ _ _ c.if-v-a.true

pub returns : goal.returns
returns c = c.unless-2.ensures.code ∙ others _ _ _ _ c.if-v-a.false
