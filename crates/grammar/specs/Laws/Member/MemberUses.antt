-- What the grammar of a member uses: no test of a look's color, so that what its broken tests give are numbers from 2 to 10; and no string that
-- may hold a zero byte.
use Rattle.std.proofs.Math.Path.{refl}
use Prim.Native.Nat.{ℕ, zero, suc}
use Rattle.sizes.specs.Basics.{among}
use Rattle.grammar.specs.Layout.{Layout, ◌▸◌, times}
use Rattle.grammar.specs.Conventions.{count}
use Rattle.grammar.specs.Numbers.{refusal}
use Rattle.grammar.specs.Laws.Layout.Uses.{Uses, of_number, of_nothing, of_times, of_two, uses}
use Rattle.grammar.specs.Laws.Layout.Bounds.{test_gives}
use Rattle.grammar.specs.Laws.Layout.Strings.{strict}
use Rattle.grammar.specs.Value.{FontStyle, CellStyle, StylePair, TemplatePrefix, TemplateString, Modifiers, ValueMod, ArgumentOf, TemplateOf, Form01, Form02, Form03, Form04, Form05, Form06, RawValueOf, ValueIn, Value, CellValue}
use Rattle.grammar.specs.Sections.{HeaderFlags, HeaderNumbers, HeaderStart, HeaderRest, Titles, Footnote, Footnotes, AreaFont, AreaColors, AreaMargins, Area, EightAreas, Areas, BordersContent, Borders, PrintSettingsContent, PrintSettings, BreaksContent, TableFlags, TableSettingsContent, TableSettings, Y0, CustomCurrency, Y1, Y2, X0, X1Start, X1, X2, X1X2, X3, FormatsEnd, Formats, Front}
use Rattle.grammar.specs.Table.{KindOf, CategoryIn, DimProperties, Dimensions, Axes, Cells}
use Rattle.grammar.specs.Laws.Table.RuleBounds.{numbers}
use Rattle.grammar.specs.Member.{Body, Member}

abbrev pub Fine : Layout → Type 0
Fine g = Uses (test_gives numbers) strict g

module _ (version : ℕ) where
  -- ---- values

  font_style : Fine FontStyle
  unfolding FontStyle test_gives among refusal
  font_style = search uses depth 20

  cell_style : Fine CellStyle
  unfolding CellStyle test_gives among refusal
  cell_style = search uses depth 20

  style_pair : Fine StylePair
  unfolding StylePair test_gives among refusal
  style_pair = search (uses, font_style, cell_style) depth 20

  template_prefix : Fine TemplatePrefix
  unfolding TemplatePrefix test_gives among refusal
  template_prefix = search uses depth 20

  template_string : Fine TemplateString
  unfolding TemplateString test_gives among refusal
  template_string = search (uses, template_prefix) depth 20

  modifiers : Fine Modifiers
  unfolding Modifiers test_gives among refusal
  modifiers = search (uses, template_string, style_pair) depth 20

  value_mod : Fine (ValueMod version)
  unfolding ValueMod test_gives among refusal
  value_mod = search (uses, modifiers) depth 20

  form01 : Fine (Form01 version)
  unfolding Form01 test_gives among refusal
  form01 = search (uses, value_mod) depth 20

  form02 : Fine (Form02 version)
  unfolding Form02 test_gives among refusal
  form02 = search (uses, value_mod) depth 20

  form03 : Fine (Form03 version)
  unfolding Form03 test_gives among refusal
  form03 = search (uses, value_mod) depth 20

  form04 : Fine (Form04 version)
  unfolding Form04 test_gives among refusal
  form04 = search (uses, value_mod) depth 20

  form05 : Fine (Form05 version)
  unfolding Form05 test_gives among refusal
  form05 = search (uses, value_mod) depth 20

  form06 : Fine (Form06 version)
  unfolding Form06 test_gives among refusal
  form06 = search (uses, value_mod) depth 20

  argument : {v : Layout} → Fine v → Fine (ArgumentOf v)
  unfolding ArgumentOf test_gives among refusal
  argument h = search uses depth 20

  template : {v : Layout} → Fine v → Fine (TemplateOf v)
  unfolding TemplateOf test_gives among refusal
  template h = search (uses, argument) depth 20

  raw_value : {v : Layout} → Fine v → Fine (RawValueOf version v)
  unfolding RawValueOf test_gives among refusal
  raw_value h = search (uses, form01, form02, form03, form04, form05, form06, modifiers, template) depth 20

  value_in : (d : ℕ) → Fine (ValueIn version d)
  unfolding ValueIn
  value_in zero = of_nothing
  value_in (suc d) = let h = raw_value (value_in d) in search (uses, h)

  pub value : Fine (Value version)
  unfolding Value
  value = value_in 8

  -- ---- the sections before the dimensions

  header_rest : Fine HeaderRest
  unfolding HeaderRest HeaderFlags HeaderNumbers test_gives among refusal
  header_rest = search uses depth 20

  titles : Fine (Titles version)
  unfolding Titles test_gives among refusal
  titles = search (uses, value) depth 20

  footnotes : Fine (Footnotes version)
  unfolding Footnotes Footnote test_gives among refusal
  footnotes = search (uses, value) depth 20

  area : (n : ℕ) → Fine (Area version n)
  unfolding Area AreaFont AreaColors AreaMargins test_gives among refusal
  area n = search uses depth 20

  areas : Fine (Areas version)
  unfolding Areas EightAreas
  areas = search (uses, area) depth 20

  borders : Fine Borders
  unfolding Borders BordersContent test_gives among refusal
  borders = search uses depth 20

  print_settings : Fine PrintSettings
  unfolding PrintSettings PrintSettingsContent test_gives among refusal
  print_settings = search uses depth 20

  table_settings : Fine (TableSettings version)
  unfolding TableSettings TableSettingsContent TableFlags BreaksContent test_gives among refusal
  table_settings = search uses depth 20

  x0 : Fine X0
  unfolding X0 Y1 Y2 Y0 CustomCurrency test_gives among refusal
  x0 = search uses depth 20

  x3 : Fine (count (X1X2 ▸ X3))
  unfolding X1X2 X1 X1Start X2 X3 test_gives among refusal
  x3 = search (uses, style_pair) depth 20

  formats_end : Fine (FormatsEnd version)
  unfolding FormatsEnd
  formats_end = search (uses, x0, x3) depth 20

  formats : Fine (Formats version)
  unfolding Formats Y0 CustomCurrency test_gives among refusal
  formats = search (uses, formats_end) depth 20

  front : Fine (Front version)
  unfolding Front
  front = search (uses, header_rest, titles, footnotes, areas, borders, print_settings, table_settings, formats) depth 20

  -- ---- dimensions, axes and cells

  kind : (below : ℕ → Layout) → ((n : ℕ) → Fine (below n)) → (k : ℕ) → Fine (KindOf below k)
  unfolding test_gives among refusal
  kind below h zero = search uses depth 20
  kind below h (suc k) = search (uses, h) depth 20

  category : (d : ℕ) → Fine (CategoryIn version d)
  unfolding test_gives among refusal
  category zero = of_nothing
  category (suc d) = of_two value (of_number refl (kind (λ n. times n (CategoryIn version d)) (λ n. of_times (category d))))

  dim_properties : Fine DimProperties
  unfolding DimProperties test_gives among refusal
  dim_properties = search uses depth 20

  dimensions : Fine (Dimensions version)
  unfolding test_gives among refusal
  dimensions = search (uses, value, dim_properties, category 8) depth 20

  axes : Fine Axes
  unfolding test_gives among refusal
  axes = search uses depth 20

  pub cell_value_lem : Fine (CellValue version)
  unfolding CellValue
  cell_value_lem = let h = raw_value (value_in 7) in search (uses, h)

  cells : Fine (Cells version)
  unfolding test_gives among refusal
  cells = search (uses, cell_value_lem) depth 20

  pub body : Fine (Body version)
  body = of_two (of_two (of_two front dimensions) axes) cells

header_start : Fine HeaderStart
unfolding HeaderStart test_gives among refusal
header_start = search uses depth 20

pub member : Fine Member
unfolding test_gives among
member = of_two header_start (of_number refl body)
