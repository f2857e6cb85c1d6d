-- What a template says, and a Value from its form.
use Rattle.std.specs.Prelude.{◌≡◌, refl, true, false, List, ℕ, ◌+◌, eqb, length}
use Rattle.std.proofs.Common.{sym, ap, ◌∙◌, arith, length-append}
use Rattle.layout.specs.Step.{Step}
use Rattle.sizes.specs.Basics.{among}
use Rattle.grammar.specs.Layout.{little, any_number, passes, Layout, empty, ◌▸◌, times, Tree, spell}
use Rattle.grammar.specs.Conventions.{byte, int32, lestring, choose, keys}
use Rattle.layout.specs.Reads.{ReadsTo, peek, field}
use Rattle.layout.specs.Steps.Chain.{Refuses, refuses, empty_of}
use Rattle.layout.specs.Steps.Numbers.{arm_of, broken_refuses}
use Rattle.grammar.specs.Laws.Layout.{digits_length}
use Rattle.store.specs.declared.Name.{Name}
use Rattle.store.specs.Fields.{Text, lent, placed}
use Rattle.fields.specs.Gives.{GivesTo, ShowsTo}
use Rattle.fields.specs.Laws.Shows.{◌&◌, shows_nothing, shows_at, shows_of, refused_shows, switch_shows, peeked}
use Rattle.fields.specs.Laws.Gives.{to_shows}
use Rattle.grammar.specs.Value.{Modifiers, ArgumentOf, TemplateOf, without_long_form, forms, RawValueOf}
use Rattle.value.specs.Laws.Forms.{first_byte, form_passes, long_passes}
use Rattle.contents.specs.declared.RawValue.{RawValue}
use Rattle.contents.specs.Contents.{none, bytes_of, raw, template_form, position_of, said, says_31, says_58, chosen, each_form, raw_says}

-- the arguments start after the template's bytes and their number
first_argument : (at : ℕ) (t : List ℕ) → at + length (spell lestring t) + 4 ≡ at + 4 + length t + 4
unfolding spell
first_argument at t = rw (length-append, digits_length) (omega arith)

pub template_shows : (v : Layout) {s : List ℕ} {st q q' r : Step} {template : Name} {n p : ℕ} → GivesTo lestring s st q (lent template) → n ≡ peek little 4 s q → ReadsTo int32 s q q'
    → ReadsTo (times n (ArgumentOf v)) s q' r → p ≡ position_of q'
    → ShowsTo (TemplateOf v) (said (TemplateOf v) (says_58 v)) s st r (raw template_form 0 0 0 false template none none none none n p)
unfolding TemplateOf says_58 placed
template_shows v {s} {q = q} {q' = q'} {n = n} {p = p} a e b c i =
    shows_of (λ (x : Text × (ℕ × ℕ)). raw template_form 0 0 0 false (bytes_of x.0) none none none none x.1.0 x.1.1)
    (λ t at. ap (λ (first : ℕ). raw template_form 0 0 0 false (bytes_of (placed lestring t.0 at)) none none none none t.1.0 first) (first_argument at t.0))
    (to_shows a & switch_shows {o = little} {w = 4} {test = any_number} (λ n. times n (ArgumentOf v)) (λ n t at. (n, at)) (λ at m j x. peeked s at x j e) b (shows_at (λ at. (n, at)) c (λ at j. ap (λ (p : ℕ). (n, p)) (sym (i ∙ rw j)))))

-- the long form of the ValueMod before a template
pub modified_shows : (v : Layout) {s : List ℕ} {st q r : Step} {x : RawValue} → ReadsTo Modifiers s st q → ShowsTo (TemplateOf v) (said (TemplateOf v) (says_58 v)) s q r x
    → ShowsTo (Modifiers ▸ TemplateOf v) (said (Modifiers ▸ TemplateOf v) (says_31 v)) s st r x
unfolding says_31 says_58 TemplateOf placed
modified_shows v a b = shows_of (λ (x : Unit {0} × RawValue). x.1) (λ t at. refl) (shows_nothing a & b)

-- ---- a Value from its form

module _ (version : ℕ) (v : Layout) where
  -- what is said of the form that begins with the byte n
  abbrev pub form_says : (n : ℕ) → Tree (choose (forms version v) n) → ℕ → RawValue
  form_says n t at = chosen (each_form version v) n (placed (choose (forms version v) n) t at)

  byte_shows : {s : List ℕ} {q p r : Step} {x n : ℕ} {y : RawValue} → x ≡ n → passes (first_byte version v) n ≡ true → ShowsTo (choose (forms version v) n) (form_says n) s p r y
      → x ≡ peek little 1 s q → ReadsTo byte s q p → ShowsTo (RawValueOf version v) (said (RawValueOf version v) (raw_says version v)) s q r y
  unfolding RawValueOf raw_says placed
  byte_shows {s} e a h f g =
      switch_shows {o = little} {w = 1} {test = first_byte version v} (choose (forms version v)) form_says (λ at m j z. peeked s at z j f ∙ e) (arm_of {k = λ _. empty} e a empty_of f g) h

  -- a form by its first byte
  pub form_shows : {s : List ℕ} {q p r : Step} {x n : ℕ} {y : RawValue} → x ≡ n → among n (keys (forms version v)) ≡ true → eqb n 0x31 ≡ false
      → ShowsTo (choose (forms version v) n) (form_says n) s p r y → x ≡ peek little 1 s q → ReadsTo byte s q p
      → ShowsTo (RawValueOf version v) (said (RawValueOf version v) (raw_says version v)) s q r y
  form_shows {n = n} e a b h f g = byte_shows e (form_passes version v n a b) h f g

  -- the long form, where it is not left out
  pub long_shows : {s : List ℕ} {q p r : Step} {x : ℕ} {y : RawValue} → x ≡ 0x31 → without_long_form version ≡ false
      → ShowsTo (choose (forms version v) 0x31) (form_says 0x31) s p r y → x ≡ peek little 1 s q → ReadsTo byte s q p
      → ShowsTo (RawValueOf version v) (said (RawValueOf version v) (raw_says version v)) s q r y
  long_shows e w h f g = byte_shows e (long_passes version v w) h f g

  -- no form: a refusal
  pub no_form_shows : {f : Tree (RawValueOf version v) → ℕ → RawValue} {s : List ℕ} {q r : Step} {y : RawValue} (c : ℕ) → eqb c 0 ≡ false → r ≡ field 1 c s q → ReadsTo (RawValueOf version v) s q r
      → ShowsTo (RawValueOf version v) f s q r y
  no_form_shows {s = s} {q = q} c b e h = go (broken_refuses 1 c s q b) e h
    where
      go : {f : Tree (RawValueOf version v) → ℕ → RawValue} {s : List ℕ} {q r x : Step} {y : RawValue} → Refuses x → r ≡ x → ReadsTo (RawValueOf version v) s q r → ShowsTo (RawValueOf version v) f s q r y
      go refuses e h = refused_shows e h
