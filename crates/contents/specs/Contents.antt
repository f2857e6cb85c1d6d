-- What a Value says (source document 003, "Value"): which form it has, each number by value, each string by the place and length of its bytes.
use Rattle.std.specs.Prelude.{◌≡◌, Bool, true, List, [], ◌∷◌, ℕ, ◌+◌, eqb}
use Rattle.std.proofs.Math.Bool.{false}
use Rattle.sizes.specs.Sizes.{below_value}
use Rattle.layout.specs.Step.{Step}
use Rattle.std.specs.Prelude.{Result, Ok, Err}
use Rattle.refusals.specs.declared.Refusal.{Refusal}
use Rattle.refusals.specs.Numbers.{number, by_number}
use Rattle.layout.specs.Reads.{field}
use Rattle.sizes.specs.Basics.{pick}
use Rattle.grammar.specs.Layout.{Layout, ◌▸◌, Tree, size}
use Rattle.grammar.specs.Conventions.{choose}
use Rattle.store.specs.declared.Name.{Name}
use Rattle.store.specs.Fields.{Text, lent, letters, Fields, placed}
use Rattle.grammar.specs.Value.{Modifiers, ArgumentOf, TemplateOf, Form01, Form02, Form03, Form04, Form05, Form06, RawValueOf, ValueIn, CellValue, Argument}
use Rattle.contents.specs.declared.RawValue.{RawValue}
use Rattle.contents.specs.Said.{Contents}
use Rattle.contents.specs.Said.{Argument as ArgumentContents}

-- ---- fields

-- the bytes of a string; of a string that is not there
abbrev pub none : Name
none = record { place = 0; length = 0 }

abbrev pub bytes_of : Text → Name
bytes_of (lent n) = n
bytes_of (letters xs) = none

-- form; format; the bits of the double x; show; fixed; local, s or template; var-name; value-label or var-label; id; c; how many arguments,
-- and where the first starts
abbrev pub raw : ℕ → ℕ → ℕ → ℕ → Bool → Name → Name → Name → Name → Name → ℕ → ℕ → RawValue
raw form format bits show fixed text var-name label id c arguments first = record {
  form = form;
  format = format;
  bits = bits;
  show = show;
  fixed = fixed;
  text = text;
  var_name = var-name;
  label = label;
  id = id;
  c = c;
  arguments = arguments;
  first_argument = first;
}

-- "template", as a form's number (our rule)
abbrev pub template_form : ℕ
template_form = 7

-- a position; 0 after a refusal
abbrev pub position_of : Step → ℕ
position_of (Ok at) = at
position_of (Err (r, p)) = 0

-- past a byte that is refused by n, which no form begins with
abbrev pub NoForm : ℕ → List ℕ → Result ℕ Refusal → Result (RawValue × ℕ) Refusal → Type 0
NoForm n s st (Ok (x, p)) = ◌≡◌ {A = Step} (Ok p) (field 1 n s (by_number st))
NoForm n s st (Err e) = ◌≡◌ {A = Step} (Err (number e.reason, e.place)) (field 1 n s (by_number st))

-- what is said of the fields of a tree, at its place
abbrev pub said : (g : Layout) → (Fields g → RawValue) → Tree g → ℕ → RawValue
said g f t at = f (placed g t at)

-- ---- what each form says

-- the arguments start after their number, which follows the template's bytes
abbrev pub template_says : Name → ℕ → RawValue
template_says template n-args = raw template_form 0 0 0 false template none none none none n-args (template.place + template.length + 4)

module _ (version : ℕ) where
  -- 01 ValueMod int32[format] double[x]
  unfoldable pub says_01 : Fields (Form01 version) → RawValue
  unfolding Form01
  says_01 ((_, (format, _)), (x, _)) = raw 1 format x 0 false none none none none none 0 0

  -- 02 ValueMod int32[format] double[x] string[var-name] string[value-label] byte[show]
  unfoldable pub says_02 : Fields (Form02 version) → RawValue
  unfolding Form02
  says_02 (((((_, (format, _)), (x, _)), var-name), value-label), (show, _)) =
      raw 2 format x show false none (bytes_of var-name) (bytes_of value-label) none none 0 0

  -- 03 string[local] ValueMod string[id] string[c] bool[fixed]
  unfoldable pub says_03 : Fields (Form03 version) → RawValue
  unfolding Form03
  says_03 ((((local, _), id), c), (fixed, _)) = raw 3 0 0 0 (eqb fixed 1) (bytes_of local) none none (bytes_of id) (bytes_of c) 0 0

  -- 04 ValueMod int32[format] string[value-label] string[var-name] byte[show] string[s]
  unfoldable pub says_04 : Fields (Form04 version) → RawValue
  unfolding Form04
  says_04 (((((_, (format, _)), value-label), var-name), (show, _)), s) =
      raw 4 format 0 show false (bytes_of s) (bytes_of var-name) (bytes_of value-label) none none 0 0

  -- 05 ValueMod string[var-name] string[var-label] byte[show]
  unfoldable pub says_05 : Fields (Form05 version) → RawValue
  unfolding Form05
  says_05 (((_, var-name), var-label), (show, _)) = raw 5 0 0 show false none (bytes_of var-name) (bytes_of var-label) none none 0 0

  -- 06 string[local] ValueMod string[id] string[c]
  unfoldable pub says_06 : Fields (Form06 version) → RawValue
  unfolding Form06
  says_06 (((local, _), id), c) = raw 6 0 0 0 false (bytes_of local) none none (bytes_of id) (bytes_of c) 0 0

-- ValueMod string[template] int32[n-args] Argument*[n-args], after its first byte: 31 or 58
module _ (v : Layout) where
  unfoldable pub says_31 : Fields (Modifiers ▸ TemplateOf v) → RawValue
  unfolding TemplateOf
  says_31 (_, (template, (n-args, _))) = template_says (bytes_of template) n-args

  unfoldable pub says_58 : Fields (TemplateOf v) → RawValue
  unfolding TemplateOf
  says_58 (template, (n-args, _)) = template_says (bytes_of template) n-args

-- the template of a Value, whose own values are nested one level less
abbrev pub Template : ℕ → Layout
Template version = TemplateOf (ValueIn version below_value)

abbrev pub Raw : ℕ → Layout
Raw version = RawValueOf version (ValueIn version below_value)

-- ---- a Value

-- a form: its first byte, its layout, and what it says
pub record Form : Type 0 where
  pub key : ℕ
  pub layout : Layout
  pub says : Fields layout → RawValue

abbrev pub layouts : List Form → List (ℕ × Layout)
layouts [] = []
layouts (f ∷ fs) = (f.key, f.layout) ∷ layouts fs

unfoldable pub either : (g h : Layout) (b : Bool) → (Fields g → RawValue) → (Fields h → RawValue) → Fields (pick b g h) → RawValue
unfolding pick
either g h true x y f = x f
either g h false x y f = y f

unfoldable pub chosen : (fs : List Form) (n : ℕ) → Fields (choose (layouts fs) n) → RawValue
unfolding either
chosen [] n f = raw 0 0 0 0 false none none none none none 0 0
chosen (x ∷ fs) n f = either x.layout (choose (layouts fs) n) (eqb n x.key) x.says (chosen fs n) f

module _ (version : ℕ) (v : Layout) where
  -- the forms of 003, in its order: `layouts` of these is `forms`
  abbrev pub each_form : List Form
  each_form =
      record { key = 1; layout = Form01 version; says = says_01 version } ∷ record { key = 2; layout = Form02 version; says = says_02 version }
      ∷ record { key = 3; layout = Form03 version; says = says_03 version } ∷ record { key = 4; layout = Form04 version; says = says_04 version }
      ∷ record { key = 5; layout = Form05 version; says = says_05 version } ∷ record { key = 6; layout = Form06 version; says = says_06 version }
      ∷ record { key = 0x31; layout = Modifiers ▸ TemplateOf v; says = says_31 v } ∷ record { key = 0x58; layout = TemplateOf v; says = says_58 v } ∷ []

  unfoldable pub raw_says : Fields (RawValueOf version v) → RawValue
  unfolding RawValueOf chosen
  raw_says (n, f) = chosen each_form n f

-- what a Value says that stands in front of some bytes
unfoldable pub contents : (version : ℕ) → Tree (CellValue version) → Contents
unfolding CellValue raw_says
contents version t = record {
  refusal = 0;
  place = 0;
  length = size (CellValue version) t;
  zeros = t.0;
  raw = raw_says version (ValueIn version below_value) (placed (CellValue version) t 0).1;
}

-- ---- an Argument

-- Argument => i0 Value | int32[x] i0 Value*[x] /* x > 0 */: how many values, and where the first starts
abbrev pub argument_of : ℕ → ℕ → ArgumentContents
argument_of length x = record { refusal = 0; place = 0; length = length; values = pick (eqb x 0) 1 x; first = pick (eqb x 0) 4 8 }

unfoldable pub argument_contents : (version : ℕ) → Tree (Argument version below_value) → ArgumentContents
unfolding ArgumentOf
argument_contents version t = argument_of (size (Argument version below_value) t) t.0
