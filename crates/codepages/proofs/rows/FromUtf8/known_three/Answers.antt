use native.Mathlib.Omega.{arith}
use mathlib.Core.Path.{refl, ◌∙◌}
use Rattle.codepages.specs.Laws.Back.{known_three}
use Rattle.codepages.proofs.Pages.{index_below}
use Rattle.codepages.proofs.rows.FromUtf8.known_three.Goals as goal

pub bounds-input-i : goal.bounds-input-i
bounds-input-i c = let a = c.args in let t = known_three _ a.input.now a.i _ (index_below a.self.now.page) refl c.requires.1 c.requires.2 c.requires.3 in t.next

pub overflow_sub-input : goal.overflow_sub-input
overflow_sub-input c = let a = c.args in let t = known_three _ a.input.now a.i _ (index_below a.self.now.page) refl c.requires.1 c.requires.2 c.requires.3 in omega (arith, t.above)

pub bounds-input-i-2 : goal.bounds-input-i-2
bounds-input-i-2 c = let a = c.args in let t = known_three _ a.input.now a.i _ (index_below a.self.now.page) refl c.requires.1 c.requires.2 c.requires.3 in t.there

pub overflow_sub-input-2 : goal.overflow_sub-input-2
overflow_sub-input-2 c = let a = c.args in let t = known_three _ a.input.now a.i _ (index_below a.self.now.page) refl c.requires.1 c.requires.2 c.requires.3 in omega (arith, t.over)

pub look_up-requires : goal.look_up-requires
look_up-requires c = let a = c.args in let t = known_three _ a.input.now a.i _ (index_below a.self.now.page) refl c.requires.1 c.requires.2 c.requires.3 in (omega (arith, t.below), omega (arith, t.under))

pub returns : goal.returns
returns c = let a = c.args in let t = known_three _ a.input.now a.i _ (index_below a.self.now.page) refl c.requires.1 c.requires.2 c.requires.3 in c.look_up.ensures ∙ t.is
