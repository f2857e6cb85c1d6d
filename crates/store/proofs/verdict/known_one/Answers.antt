use Rattle.std.proofs.Common.{◌≡◌, refl, ◌∙◌, ℕ, Bool, true, false, ◌||◌, eqb}
use Rattle.sizes.specs.Basics.{among, pick}
use Rattle.grammar.specs.Layout.{passes}
use Rattle.grammar.specs.Laws.Layout.Read.{refusal}
use Rattle.layout.specs.Reads.{verdict}
use Rattle.store.proofs.verdict.known_one.Goals as goal

one : (b : Bool) (n : ℕ) → pick b 0 n ≡ pick (b || false) 0 n
unfolding pick
one true n = refl
one false n = refl

pub returns-clause-code : goal.returns-clause-code
unfolding verdict passes refusal among
returns-clause-code c = c.unless.ensures.code ∙ one (eqb c.args.v c.args.a) 4
