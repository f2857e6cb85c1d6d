use Rattle.std.proofs.Common.{◌≡◌, ◌∙◌, refl, sym, Bool, true, false, ◌||◌, [], ◌∷◌, eq-eqb, ne_eqb}
use Rattle.sizes.specs.Basics.{pick, among}
use Rattle.contents.specs.Laws.Figure.{figure_with}
use Rattle.contents.proofs.figure.figure_of.Goals as goal
use Rattle.contents.proofs.figure.figure_of.Goals.{then-x-eq1, else-x-eq1}

last : (b : Bool) → b ≡ b || false
last true = refl
last false = refl

pub returns-then-number-clause-value : goal.returns-then-number-clause-value
unfolding figure_with pick among
returns-then-number-clause-value c =
    let among : c.if-x-eq1.number ≡ among c.in-Ok.x.form (1 ∷ 2 ∷ []) = elim c.if-x-eq1.branch [
      | then-x-eq1 w ↦ rw (w.number-is, eq-eqb _ _ w.if-x-eq1.true)
      | else-x-eq1 w ↦ rw (w.number-is, ne_eqb _ _ w.if-x-eq1.false) (last _)
    ] in
    rw (c.in-Ok.is, ← among, c.if-number.true)

pub returns-else-number-clause-value : goal.returns-else-number-clause-value
unfolding figure_with pick among
returns-else-number-clause-value c =
    let among : c.if-x-eq1.number ≡ among c.in-Ok.x.form (1 ∷ 2 ∷ []) = elim c.if-x-eq1.branch [
      | then-x-eq1 w ↦ rw (w.number-is, eq-eqb _ _ w.if-x-eq1.true)
      | else-x-eq1 w ↦ rw (w.number-is, ne_eqb _ _ w.if-x-eq1.false) (last _)
    ] in
    rw (c.in-Ok.is, ← among, c.if-number.false)

pub returns-then-number-clause-there : goal.returns-then-number-clause-there
unfolding among
returns-then-number-clause-there c =
    let among : c.if-x-eq1.number ≡ among c.in-Ok.x.form (1 ∷ 2 ∷ []) = elim c.if-x-eq1.branch [
      | then-x-eq1 w ↦ rw (w.number-is, eq-eqb _ _ w.if-x-eq1.true)
      | else-x-eq1 w ↦ rw (w.number-is, ne_eqb _ _ w.if-x-eq1.false) (last _)
    ] in
    sym among ∙ c.if-number.true
