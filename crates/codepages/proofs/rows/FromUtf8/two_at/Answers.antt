use native.Mathlib.Omega.{arith}
use mathlib.Core.Path.{refl, ap, sym, ◌∙◌}
use Rattle.std.proofs.Common.{◌+◌, get_or}
use Rattle.pages.specs.Numbers.{index}
use Rattle.convert.specs.Pages.{byte}
use Rattle.convert.specs.Utf8.{row_two}
use Rattle.codepages.specs.Laws.Branches.{decode_two, from_found, lead_two}
use Rattle.codepages.proofs.Pages.{index_below, some_below}
use Rattle.codepages.proofs.rows.FromUtf8.two_at.Goals as goal

pub returns-then-a-eq6 : goal.returns-then-a-eq6
returns-then-a-eq6 c = λ e.
    let g = c.args in
    let k = index g.self.now.page in
    let a = get_or g.input.now g.j 0 in
    let b = get_or g.input.now (g.j + 1) 0 in
    let h = some_below c.two.result (sym c.is_some.ensures ∙ e) c.two.ensures in
    let d = decode_two k g.input.now g.j a refl b (row_two a b) (omega (arith, c.if-a-eq6.true)) (omega (arith, c.if-a-eq6.true)) refl refl in
    let s = lead_two a (omega (arith, c.if-a-eq6.true)) (omega (arith, c.if-a-eq6.true)) in
    (from_found _ g.input.now g.j _ 2 (index_below g.self.now.page) (omega (arith, c.if-input-j-lt2.false)) (ap (byte k) d) s h).passed (omega arith)
