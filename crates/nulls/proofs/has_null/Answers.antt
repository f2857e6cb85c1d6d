use mathlib.Core.Path.{sym}
use borrow.Author.Tests.{eqb-true}
use Rattle.nulls.proofs.NullBytes.{none_in_empty}
use Rattle.nulls.proofs.has_null.Goals as goal

pub returns-then-is_empty : goal.returns-then-is_empty
returns-then-is_empty c = none_in_empty _ (eqb-true _ _ (sym c.if-is_empty.ensures))
