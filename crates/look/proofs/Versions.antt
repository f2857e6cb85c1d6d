-- V2Styles goes by the version, and what is said is a look of version 02.
use mathlib.Core.Path.{◌≡◌, refl, sym}
use mathlib.Core.Bool.{Bool, true, false, false≢true}
use mathlib.Core.List.{List, [], ◌∷◌}
use Prim.Native.Nat.{ℕ}
use lib.Dec.{eqb}
use Rattle.layout.specs.Step.{Step}
use Rattle.grammar.specs.Layout.{little, a_version, Layout, empty, number, ◌▸◌, Tree}
use Rattle.layout.specs.Reads.{ReadsTo, peek}
use Rattle.layout.specs.Steps.Chain.{empty_of, then}
use Rattle.layout.specs.Steps.Numbers.{switch_of}
use Rattle.store.specs.Fields.{Fields, placed}
use Rattle.fields.specs.Gives.{ShowsTo, GivesTo, ShowsValue, GivesValue}
use Rattle.std.specs.Prelude.{Result, Ok, Err}
use Rattle.refusals.specs.declared.Refusal.{Refusal}
use Rattle.fields.specs.Laws.Gives.{to_shows}
use Rattle.fields.specs.Laws.Shows.{◌&◌, shows_of, shows_at, peeked, switch_shows}
use Rattle.look.specs.declared.V2Styles.{V2Styles}
use Rattle.look.specs.Look as grammar
use Rattle.look.specs.Values as values
use Rattle.look.specs.Answers.{defaults, v2_data, look_of}

pub with_v2 : (b : Bool) (s : List ℕ) (st : Result ℕ Refusal) (r : Result (V2Styles × ℕ) Refusal) → b ≡ true → GivesValue grammar.V2Styles values.v2_styles s st r
    → ShowsValue (grammar.V2StylesIf b) (λ t at. v2_data b (placed (grammar.V2StylesIf b) t at)) values.v2_styles s st r
with_v2 true s st (Ok y) e h = to_shows h
with_v2 true s st (Err x) e h = h
with_v2 false s st r e h = absurd (false≢true e)

pub without_v2 : (b : Bool) {s : List ℕ} {st : Step} (x : V2Styles) → b ≡ false → x ≡ defaults
    → ShowsTo (grammar.V2StylesIf b) (λ t at. v2_data b (placed (grammar.V2StylesIf b) t at)) s st st (values.v2_styles x)
without_v2 true x e h = absurd (false≢true (sym e))
without_v2 false x e h = shows_at (λ _. values.v2_styles defaults) empty_of (λ at i. rw h)

-- what follows the version, by the version
abbrev after : ℕ → Layout
after version = grammar.settings ▸ grammar.sections (grammar.V2StylesIf (eqb version 2))

abbrev three : Layout
three = grammar.PVSeparatorStyle ▸ grammar.PVCellStyle ▸ grammar.PVTextStyle

-- what is said of that: the version 2, and V2Styles or the defaults
abbrev after_said : (version : ℕ) → Tree (after version) → ℕ → ℕ × (Fields grammar.settings × (Fields three × Fields grammar.V2Styles))
after_said version t at =
    let f = placed (after version) t at in
    (2, (f.0, (f.1.0, v2_data (eqb version 2) f.1.1)))

pub look_shows : (v : ℕ) {s : List ℕ} {st q₁ q₂ q₃ q₄ r : Step} {a : Fields (grammar.section grammar.PTTable_look_name)} {b : Fields grammar.settings} {c : Fields three} {d : Fields grammar.V2Styles}
    → GivesTo (grammar.section grammar.PTTable_look_name) s st q₁ a → v ≡ peek little 1 s q₁ → ReadsTo (number little 1 (a_version (0 ∷ 2 ∷ [])) (λ _. empty)) s q₁ q₂
    → GivesTo grammar.settings s q₂ q₃ b → GivesTo three s q₃ q₄ c
    → ShowsTo (grammar.V2StylesIf (eqb v 2)) (λ t at. v2_data (eqb v 2) (placed (grammar.V2StylesIf (eqb v 2)) t at)) s q₄ r d
    → ShowsTo grammar.TableLook (λ t at. look_of (placed grammar.TableLook t at)) s st r (a, (2, (b, (c, d))))
unfolding placed
look_shows v {s = s} {b = b} {c = c} {d = d} x e h y z w =
    shows_of (λ f. f) (λ t at. refl)
    (to_shows x & switch_shows after after_said (λ at m i n. peeked s at n i e) h
    (shows_of (λ (f : Fields grammar.settings × (Fields three × Fields grammar.V2Styles)). (2, f)) (λ t at. refl) (to_shows y & (to_shows z & w))))

-- what the version asks for is refused
pub look_refused : (v : ℕ) {s : List ℕ} {st q₁ q₂ : Step} {a : Fields (grammar.section grammar.PTTable_look_name)} {e : ℕ × ℕ}
    → GivesTo (grammar.section grammar.PTTable_look_name) s st q₁ a → v ≡ peek little 1 s q₁ → ReadsTo (number little 1 (a_version (0 ∷ 2 ∷ [])) (λ _. empty)) s q₁ q₂
    → ReadsTo (after v) s q₂ (Err e) → ReadsTo grammar.TableLook s st (Err e)
look_refused v x p h y = then (switch_of {k = after} {v = v} y p h) x.reads
