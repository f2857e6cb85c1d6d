-- What a look that keeps the rule of styles is, in words: of its derivation tree, and of the look that reading it answers.
use Rattle.std.specs.Prelude.{◌≡◌, refl, Bool, true, false, List, [], ◌∷◌, ℕ, ◌^◌, ◌≤◌, ◌<◌, eqb, leb}
use Rattle.std.proofs.Math.Option.{Option, none, some}
use Rattle.std.proofs.Common.{arith, leb-true}
use Rattle.sizes.specs.Basics.{pick}
use Rattle.grammar.specs.Layout.{no_zero, Tree, suits, All, all_none, all_more, Valid}
use Rattle.grammar.specs.Rule.{KeptAll, Kept}
use Rattle.look.specs.Look.{Separator, PVSeparatorStyle, AreaStyle, MostAreas, PVTextStyle, V2StylesIf, TableLook}
use Rattle.look_rules.specs.StyleRule.{listed_separator, separator_rule, last_valign, last_halign, align_rule, alignment_rule, most_height, height, has_height, size_rule, font_rule, name_rule, typeface_rule, AreaStyleRule, MostAreasRule, V2StylesIfRule, style_rule}

-- ---- trees

-- the fields of an area's style that are asked for
abbrev pub valign : Tree AreaStyle → ℕ
valign t = t.0.0.0.0.0.0.0.0.0.0.0.0.0

abbrev pub halign : Tree AreaStyle → ℕ
halign t = t.0.0.0.0.0.0.0.0.0.0.0.1.0

-- its 32 bits
abbrev pub font_size : Tree AreaStyle → ℕ
font_size t = t.0.1.0.0.0.0.0.0.0

abbrev pub font_name : Tree AreaStyle → List ℕ
font_name t = t.1.0.0.1

pub record KeptArea (t : Tree AreaStyle) : Type 0 where
  pub valign_listed : valign t ≤ last_valign
  pub halign_listed : halign t ≤ last_halign
  pub size_below_zero : 2 ^ 31 ≤ font_size t
  pub height_allowed : height (font_size t) ≤ most_height
  pub name_without_zero : suits no_zero (font_name t) ≡ true

-- a height is at least 1
pub some_height : (t : Tree AreaStyle) → Valid AreaStyle t → 1 ≤ height (font_size t)
some_height t v = let small : font_size t < 256 ^ 4 = v.0.1.0.0.0.0.0.0.0 in omega arith

abbrev pub Listed : Tree Separator → Type 0
Listed t = listed_separator t ≡ true

-- sep1 and sep2; title-style and most-areas, layers first; sep3, which version 02 has
abbrev pub separators : Tree TableLook → Tree PVSeparatorStyle
separators t = t.1.1.1.0.0.0

abbrev pub sep1 : Tree TableLook → List (Tree Separator)
sep1 t = (separators t).0.0.0.0.1

abbrev pub sep2 : Tree TableLook → List (Tree Separator)
sep2 t = (separators t).1

abbrev pub text_style : Tree TableLook → Tree PVTextStyle
text_style t = t.1.1.1.0.1

abbrev pub title_style : Tree TableLook → Tree AreaStyle
title_style t = (text_style t).0.1

abbrev pub most_areas : Tree TableLook → List (Tree MostAreas)
most_areas t = (text_style t).1

abbrev pub sep3_if : (b : Bool) → Tree (V2StylesIf b) → List (Tree Separator)
sep3_if true t = t.0.0.0.0.0
sep3_if false t = []

abbrev pub sep3 : Tree TableLook → List (Tree Separator)
sep3 t = sep3_if (eqb t.1.0 2) t.1.1.1.1

pub record KeptLook (t : Tree TableLook) : Type 0 where
  pub rows : All Listed (sep1 t)
  pub columns : All Listed (sep2 t)
  pub title : KeptArea (title_style t)
  pub most : All (λ m. KeptArea m.1) (most_areas t)
  pub frames : All Listed (sep3 t)

passed : (b : Bool) → pick {X = Option ℕ} b none (some 0) ≡ none → b ≡ true
unfolding pick
passed true e = refl
passed false e = absurd (let z : ◌≡◌ {A = ℕ} 0 1 = cc in omega arith)

-- of each, where those before aren't asked
all_kept : {A : Type 0} {P Q : A → Type 0} → ((t : A) → P t → Q t) → (done ts : List A) → KeptAll (λ _ t. P t) done ts → All Q ts
all_kept f done [] k = all_none
all_kept f done (t ∷ ts) k = all_more (f t k.0) (all_kept f (t ∷ done) ts k.1)

separator_kept : (t : Tree Separator) → Kept separator_rule t → Listed t
unfolding separator_rule
separator_kept t k = passed _ k.1

-- a size that has a height
pub has_height_says : (n : ℕ) → has_height n ≡ true → (2 ^ 31 ≤ n) × (height n ≤ most_height)
unfolding has_height pick
has_height_says n = go (leb (2 ^ 31) n) refl
  where
    go : (b : Bool) → leb (2 ^ 31) n ≡ b → pick b (leb (height n) most_height) false ≡ true → (2 ^ 31 ≤ n) × (height n ≤ most_height)
    go true e i = (leb-true _ _ e, leb-true _ _ i)
    go false e i = absurd (let z : ◌≡◌ {A = ℕ} 0 1 = cc in omega arith)

area_kept : (t : Tree AreaStyle) → Kept AreaStyleRule t → KeptArea t
unfolding AreaStyleRule alignment_rule align_rule font_rule size_rule typeface_rule name_rule
area_kept t k =
    let size = has_height_says (font_size t) (passed _ k.0.1.0.0.0.0.0.0.1) in
    record {
      valign_listed = leb-true _ _ (passed _ k.0.0.0.0.0.0.0.0.0.0.0.0.1);
      halign_listed = leb-true _ _ (passed _ k.0.0.0.0.0.0.0.0.0.0.0.1.1);
      size_below_zero = size.0;
      height_allowed = size.1;
      name_without_zero = passed _ k.1.0.0.1.1;
    }

most_kept : (t : Tree MostAreas) → Kept MostAreasRule t → KeptArea t.1
unfolding MostAreasRule
most_kept t k = area_kept t.1 k.1

v2_kept : (b : Bool) (t : Tree (V2StylesIf b)) → Kept (V2StylesIfRule b) t → All Listed (sep3_if b t)
v2_kept true t k = all_kept separator_kept [] _ k.0.0.0.0.0
v2_kept false t k = all_none

pub look_kept : (t : Tree TableLook) → Kept style_rule t → KeptLook t
unfolding style_rule
look_kept t k =
    let three = k.1.1.0 in
    record {
      rows = all_kept separator_kept [] _ three.0.0.0.0.0.0.1;
      columns = all_kept separator_kept [] _ three.0.0.1;
      title = area_kept (title_style t) three.1.0.1;
      most = all_kept most_kept [] _ three.1.1;
      frames = v2_kept (eqb t.1.0 2) t.1.1.1.1 k.1.1.1;
    }
