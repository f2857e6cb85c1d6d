use native.Mathlib.Omega.{arith}
use mathlib.Core.Path.{refl}
use Rattle.std.proofs.Common.{inl, inr, ⊎_elim}
use Rattle.convert.proofs.Laws.Pages.{side}
use Rattle.pages.proofs.Known.{known_page, other_page}
use Rattle.pages.proofs.PageTryFromU32.try_from.Goals as goal

pub returns-in-1250 : goal.returns-in-1250
returns-in-1250 c = known_page _ 0 (omega arith) (omega arith)

pub returns-in-1251 : goal.returns-in-1251
returns-in-1251 c = known_page _ 1 (omega arith) (omega arith)

pub returns-in-1252 : goal.returns-in-1252
returns-in-1252 c = known_page _ 2 (omega arith) (omega arith)

pub returns-in_default : goal.returns-in_default
returns-in_default c = (refl, other_page _ (⊎_elim (λ l. inl l) (λ l. inr (omega arith)) (side c.args.page 1250)))
