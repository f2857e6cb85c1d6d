-- A Value from its form, or from the refusal of it.
use Rattle.std.specs.Prelude.{◌≡◌, refl, true, false, List, ℕ, Result, Ok, Err, eqb}
use Rattle.refusals.specs.declared.Refusal.{Refusal}
use Rattle.refusals.specs.Numbers.{by_number}
use Rattle.sizes.specs.Basics.{among}
use Rattle.grammar.specs.Layout.{little, Layout, ◌▸◌}
use Rattle.grammar.specs.Conventions.{byte, choose, keys}
use Rattle.grammar.specs.Value.{Modifiers, TemplateOf, without_long_form, forms, RawValueOf}
use Rattle.layout.specs.Step.{Step}
use Rattle.layout.specs.Reads.{ReadsTo, peek, field}
use Rattle.layout.specs.Steps.Chain.{then}
use Rattle.fields.specs.Gives.{ShowsValue}
use Rattle.fields.specs.Laws.Shows.{refused_shows}
use Rattle.contents.specs.declared.RawValue.{RawValue}
use Rattle.contents.specs.Contents.{none, raw, said, says_31, says_58, raw_says, NoForm}
use Rattle.contents.specs.Laws.Forms.{modified_shows, form_says, form_shows, long_shows, no_form_shows}

abbrev pub blank : RawValue
blank = raw 0 0 0 0 false none none none none none 0 0

pub modified_value : (v : Layout) (s : List ℕ) (st q : Result ℕ Refusal) (r : Result (RawValue × ℕ) Refusal) → ReadsTo Modifiers s (by_number st) (by_number q)
    → ShowsValue (TemplateOf v) (said (TemplateOf v) (says_58 v)) (λ x. x) s q r
    → ShowsValue (Modifiers ▸ TemplateOf v) (said (Modifiers ▸ TemplateOf v) (says_31 v)) (λ x. x) s st r
modified_value v s st q (Ok y) a b = modified_shows v a b
modified_value v s st q (Err e) a b = then b a

module _ (version : ℕ) (v : Layout) (s : List ℕ) (q p : Result ℕ Refusal) where
  pub form_value : (r : Result (RawValue × ℕ) Refusal) {x n : ℕ} → x ≡ n → among n (keys (forms version v)) ≡ true → eqb n 0x31 ≡ false
      → ShowsValue (choose (forms version v) n) (form_says version v n) (λ x. x) s p r → x ≡ peek little 1 s (by_number q) → ReadsTo byte s (by_number q) (by_number p)
      → ShowsValue (RawValueOf version v) (said (RawValueOf version v) (raw_says version v)) (λ x. x) s q r
  form_value (Ok y) e a b h f g = form_shows version v e a b h f g
  form_value (Err z) e a b h f g = (form_shows version v {y = blank} e a b (refused_shows refl h) f g).reads

  pub long_value : (r : Result (RawValue × ℕ) Refusal) {x : ℕ} → x ≡ 0x31 → without_long_form version ≡ false
      → ShowsValue (choose (forms version v) 0x31) (form_says version v 0x31) (λ x. x) s p r → x ≡ peek little 1 s (by_number q) → ReadsTo byte s (by_number q) (by_number p)
      → ShowsValue (RawValueOf version v) (said (RawValueOf version v) (raw_says version v)) (λ x. x) s q r
  long_value (Ok y) e w h f g = long_shows version v e w h f g
  long_value (Err z) e w h f g = (long_shows version v {y = blank} e w (refused_shows refl h) f g).reads

pub no_form_value : (version : ℕ) (v : Layout) (s : List ℕ) (q : Result ℕ Refusal) (r : Result (RawValue × ℕ) Refusal) (c : ℕ) → eqb c 0 ≡ false → NoForm c s q r
    → ((a : Step) → a ≡ field 1 c s (by_number q) → ReadsTo (RawValueOf version v) s (by_number q) a)
    → ShowsValue (RawValueOf version v) (said (RawValueOf version v) (raw_says version v)) (λ x. x) s q r
no_form_value version v s q (Ok y) c b e h = no_form_shows version v c b e (h _ e)
no_form_value version v s q (Err z) c b e h = h _ e
