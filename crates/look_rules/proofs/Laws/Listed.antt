-- What is said of a separator's tree, by its value.
use Rattle.std.specs.Prelude.{◌≡◌, refl, Bool, true, false, List, ℕ, ◌+◌, eqb}
use Rattle.std.proofs.Common.{subst}
use Rattle.layout.specs.Step.{Step}
use Rattle.grammar.specs.Layout.{Tree}
use Rattle.store.specs.Fields.{Fields, placed}
use Rattle.fields.specs.Gives.{ShowsTo, GivesTo}
use Rattle.fields.specs.Laws.Gives.{to_shows}
use Rattle.fields.specs.Laws.Shows.{shows_of}
use Rattle.look.specs.declared.Separator as border
use Rattle.look.specs.declared.Separator.TheVariants.{NotDrawn, Drawn}
use Rattle.look.specs.Look.{SeparatorIf, Separator}
use Rattle.look.specs.Values as values
use Rattle.look_rules.specs.StyleRule.{listed, listed_border, listed_if, listed_separator}

-- of its fields, which are the tree's numbers
abbrev pub fields_listed : (b : Bool) → Fields (SeparatorIf b) → Bool
fields_listed true f = listed f.0.1.0 f.1.0
fields_listed false f = true

pub of_tree : (b : Bool) (t : Tree (SeparatorIf b)) (at : ℕ) → fields_listed b (placed (SeparatorIf b) t at) ≡ listed_if b t
unfolding placed
of_tree true t at = refl
of_tree false t at = refl

pub of_border : (x : border.Separator) → fields_listed (eqb (values.separator x).0 1) (values.separator x).1 ≡ listed_border x
of_border NotDrawn = refl
of_border (Drawn color style width) = refl

-- what is said of the separator that was read
pub shows_listed : {s : List ℕ} {st r : Step} (x : border.Separator) → GivesTo Separator s st r (values.separator x) → ShowsTo Separator (λ t at. listed_separator t) s st r (listed_border x)
unfolding placed
shows_listed {s} {st} {r} x h =
    subst (λ (b : Bool). ShowsTo Separator (λ t at. listed_separator t) s st r b) (of_border x)
    (shows_of (λ (f : Fields Separator). fields_listed (eqb f.0 1) f.1) (λ t at. of_tree (eqb t.0 1) t.1 (at + 1)) (to_shows h))
