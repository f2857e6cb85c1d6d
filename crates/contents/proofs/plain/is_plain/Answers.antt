use Rattle.std.proofs.Common.{sym, ◌∙◌, eq-eqb, ne_eqb}
use Rattle.std.proofs.lemmas.Bool.{le-leb, lt-leb}
use Rattle.sizes.specs.Basics.{pick}
use Rattle.contents.specs.Laws.Plain.{plain}
use Rattle.contents.proofs.Unread.{is_read, is_unread}
use Rattle.contents.proofs.plain.is_plain.Goals as goal

pub returns-then-s-lt-PLAIN_BYTES : goal.returns-then-s-lt-PLAIN_BYTES
unfolding plain pick
returns-then-s-lt-PLAIN_BYTES c = rw (lt-leb _ _ c.if-s-lt-PLAIN_BYTES.true)

pub returns-then-is_err : goal.returns-then-is_err
unfolding plain pick
returns-then-is_err c =
    rw (le-leb _ _ c.if-s-lt-PLAIN_BYTES.false, ne_eqb _ _ (is_unread _ _ _ c.readable.ensures (sym c.is_err.ensures.value ∙ c.if-is_err.true)))

pub returns-then-peek-eq1 : goal.returns-then-peek-eq1
unfolding plain pick
returns-then-peek-eq1 c =
    rw (
      le-leb _ _ c.if-s-lt-PLAIN_BYTES.false,
      eq-eqb _ _ (is_read _ _ _ c.readable.ensures (sym c.is_err.ensures.value ∙ c.if-is_err.false)),
      ← c.peek.ensures,
      eq-eqb _ _ c.if-peek-eq1.true,
      c.peek-then-peek-eq1.ensures,
    )

pub returns-else-peek-eq1 : goal.returns-else-peek-eq1
unfolding plain pick
returns-else-peek-eq1 c =
    rw (
      le-leb _ _ c.if-s-lt-PLAIN_BYTES.false,
      eq-eqb _ _ (is_read _ _ _ c.readable.ensures (sym c.is_err.ensures.value ∙ c.if-is_err.false)),
      ← c.peek.ensures,
      ne_eqb _ _ c.if-peek-eq1.false,
    )
