use Rattle.std.proofs.Common.{◌≡◌, refl, Bool, true, false, ◌||◌, [], ◌∷◌, eq-eqb, ne_eqb}
use Rattle.std.proofs.lemmas.Bool.{le-leb, lt-leb}
use Rattle.sizes.specs.Basics.{pick, among}
use Rattle.grammar.specs.Numbers.{refusal}
use Rattle.contents.specs.Answers.{unread}
use Rattle.contents.proofs.readable.Goals as goal
use Rattle.contents.proofs.readable.Goals.{then-version-eq1, else-version-eq1}

pub returns-then-s-gt-MEMBER_BYTES : goal.returns-then-s-gt-MEMBER_BYTES
unfolding unread pick among refusal
returns-then-s-gt-MEMBER_BYTES c = (rw (lt-leb _ _ c.if-s-gt-MEMBER_BYTES.true), refl, refl)

last : (b : Bool) → b ≡ b || false
last true = refl
last false = refl

pub returns-then-known : goal.returns-then-known
unfolding unread pick among refusal
returns-then-known c =
    let among : c.if-version-eq1.known ≡ among c.args.version (1 ∷ 3 ∷ []) = elim c.if-version-eq1.branch [
      | then-version-eq1 w ↦ rw (w.known-is, eq-eqb _ _ w.if-version-eq1.true)
      | else-version-eq1 w ↦ rw (w.known-is, ne_eqb _ _ w.if-version-eq1.false) (last _)
    ] in
    rw (le-leb _ _ c.if-s-gt-MEMBER_BYTES.false, ← among, c.if-known.true)

pub returns-else-known : goal.returns-else-known
unfolding unread pick among refusal
returns-else-known c =
    let among : c.if-version-eq1.known ≡ among c.args.version (1 ∷ 3 ∷ []) = elim c.if-version-eq1.branch [
      | then-version-eq1 w ↦ rw (w.known-is, eq-eqb _ _ w.if-version-eq1.true)
      | else-version-eq1 w ↦ rw (w.known-is, ne_eqb _ _ w.if-version-eq1.false) (last _)
    ] in
    (rw (le-leb _ _ c.if-s-gt-MEMBER_BYTES.false, ← among, c.if-known.false), refl, refl)
