-- "The written sections are accepted by the member's grammar and read back as these styles" (02, T-12).
use Rattle.std.specs.Prelude.{◌≡◌, Bool, true, false, ℕ, ◌+◌, ◌^◌, ◌≤◌, ◌<◌, length}
use Rattle.std.proofs.Math.Path.{refl, sym}
use mathlib.Core.List.{List, [], ◌∷◌, append-nil}
use native.Mathlib.Omega.{arith}
use Rattle.std.proofs.Common.{eq-eqb}
use Rattle.sizes.specs.Basics.{pick}
use Rattle.std.specs.Prelude.{Ok}
use Rattle.grammar.specs.Layout.{a_bool, passes, no_zero, suits, spell, Bytes, All, all_none, all_more, Derivation}
use Rattle.grammar.specs.Sections as grammar
use Rattle.grammar.specs.Sections.{AreaFont, AreaColors, AreaMargins, EightAreas, BordersContent}
use Rattle.grammar.specs.Laws.Layout as laws
use Rattle.grammar.specs.Laws.Layout.Read.{got, read}
use Rattle.store.specs.declared.Name.{Name}
use Rattle.store.specs.Fields.{Fields, bytes_of, text_of, placed, resolve, bytes_in}
use Rattle.store.specs.Values.{bit}
use Rattle.store.specs.Fit.{Fit}
use Rattle.store.specs.Check.{check}
use Rattle.store.specs.Unwritable.{Writable}
use Rattle.store.specs.Laws.Exactly.{writable_exactly}
use Rattle.store.specs.Laws.Trees.{resolve_placed, valid_resolved}
use Rattle.look.specs.Values.{◌&◌}
use Rattle.styles.specs.declared.Area.{Area}
use Rattle.styles.specs.declared.Areas.{Areas}
use Rattle.styles.specs.declared.Borders.{Borders}
use Rattle.styles.specs.declared.Styles.{Styles}
use Rattle.sections_put.specs.Fields.{Sections, hex, font, colors, margins, area, eight_areas, areas, content, borders, fields}
use Rattle.sections_put.specs.Names.{Each, Named}
use Rattle.sections_put.specs.Laws.NoZero.{hex_clean}

-- ---- the fields can be written

-- a number alone passes its test
abbrev Holds : Type 0
Holds = (true ≡ true) × Unit {0}

one : Holds
one = (refl, tt)

flag_passes : (b : Bool) → passes a_bool (bit b) ≡ true
unfolding passes
flag_passes true = refl
flag_passes false = refl

module _ (s : List ℕ) where
  name_writable : (n : Name) → Named s n → (n.length < 256 ^ 4) × (n.place + n.length ≤ length s) × (suits no_zero (bytes_of s n) ≡ true)
  unfolding suits
  name_writable n h = (omega (arith, h.short), h.inside, rw h.clean)

  font_writable : (index : ℕ) (x : Area) → Named s x.typeface → Writable (AreaFont index) s (font index x)
  unfolding AreaFont font passes suits text_of one
  font_writable index x n =
      (eq-eqb index index refl, tt) & one & name_writable x.typeface n & one & one & (flag_passes x.underline, tt) & one & one

  color_writable : (c : ℕ) → (length (hex c) < 256 ^ 4) × Unit {0} × (suits no_zero (hex c) ≡ true)
  unfolding suits hex
  color_writable c = (omega arith, tt, rw (hex_clean c))

  colors_writable : (x : Area) → Writable AreaColors s (colors x)
  unfolding AreaColors colors passes suits text_of one
  colors_writable x = color_writable x.fg_color & color_writable x.bg_color & one & (omega arith, tt, refl) & (omega arith, tt, refl)

  area_writable : (index : ℕ) (x : Area) → Named s x.typeface → Writable (grammar.Area 3 index) s (area index x)
  unfolding grammar.Area area pick AreaMargins margins passes one
  area_writable index x n = font_writable index x n & colors_writable x & (one & one & one & one)

  areas_writable : (x : Areas) → Each (Named s) x → Writable (grammar.Areas 3) s (areas x)
  unfolding grammar.Areas areas EightAreas eight_areas
  areas_writable x n = (
    omega arith,
    area_writable 1 x.title n.title & area_writable 2 x.caption n.caption & area_writable 3 x.footer n.footer
        & area_writable 4 x.corner n.corner & area_writable 5 x.column_labels n.column_labels & area_writable 6 x.row_labels n.row_labels
        & area_writable 7 x.data n.body & area_writable 8 x.layers n.layers,
  )

  lines_writable : (fs : List (Fields grammar.Border)) → All (Writable grammar.Border s) fs
  unfolding passes one
  lines_writable [] = all_none
  lines_writable (f ∷ fs) = all_more (one & one & one) (lines_writable fs)

  borders_writable : (x : Borders) → Writable grammar.Borders s (borders x)
  unfolding grammar.Borders borders BordersContent content passes one
  borders_writable x = one & (refl, lines_writable _) & one & one & one & one

  pub sections_writable : (x : Styles) → Each (Named s) x.areas → Writable Sections s (fields x)
  unfolding fields
  sections_writable x n = areas_writable x.areas n & borders_writable x.borders

-- ---- and read back

module _ (s : List ℕ) (bs : Bytes s) (x : Styles) (fit : Fit Sections s (fields x)) (named : Each (Named s) x.areas) where
  -- Written: they go on past all of their bytes
  pub sections_written : (at : ℕ) → check Sections s (fields x) at ≡ Ok (at + length (bytes_in Sections s (fields x)))
  sections_written at = (writable_exactly Sections s (fields x) at _).1 (sections_writable s x named, refl)

  -- Derived: what is written is spelt by the tree of the styles
  pub sections_derived : Derivation Sections (bytes_in Sections s (fields x))
  unfolding bytes_in
  sections_derived = record {
    tree = resolve Sections s (fields x);
    valid = valid_resolved Sections s bs (fields x) fit (sections_writable s x named);
    spells = refl;
  }

  -- Read: it is read as that tree, and nothing is left
  pub sections_read : read Sections (bytes_in Sections s (fields x)) 0 ≡ got (resolve Sections s (fields x)) [] (length (bytes_in Sections s (fields x)))
  unfolding resolve sections_derived
  sections_read = laws.derived Sections (bytes_in Sections s (fields x)) sections_derived

  -- Once: and as no other
  pub sections_once : (d : Derivation Sections (bytes_in Sections s (fields x))) → d.tree ≡ resolve Sections s (fields x)
  unfolding resolve sections_derived
  sections_once d = laws.unambiguous Sections (bytes_in Sections s (fields x)) d sections_derived

  -- Same: the fields that a reader of these bytes gives are those of the same tree
  pub sections_same : resolve Sections (bytes_in Sections s (fields x)) (placed Sections (resolve Sections s (fields x)) 0) ≡ resolve Sections s (fields x)
  unfolding bytes_in
  sections_same =
      let t = resolve Sections s (fields x) in
      let bytes = spell Sections t in
      resolve_placed Sections t bytes 0 [] record { inside = omega arith; here = sym (append-nil bytes) }
