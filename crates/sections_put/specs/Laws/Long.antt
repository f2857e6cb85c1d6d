-- How many bytes the sections have: 804, and those of the names.
use Rattle.std.specs.Prelude.{◌≡◌, refl, List, ℕ, ◌+◌, ◌^◌, ◌≤◌, ◌<◌, length}
use Rattle.std.proofs.Common.{◌∙◌, arith, length-append, length-take}
use Rattle.sizes.specs.Basics.{pick, le}
use Rattle.grammar.specs.Layout.{Layout, region, leading, ◌▸◌, little, exact, digits, spell_all, spell_fill, spell, Leads}
use Rattle.grammar.specs.Laws.Layout.{digits_length}
use Rattle.grammar.specs.Sections as grammar
use Rattle.grammar.specs.Sections.{AreaFont, AreaColors, AreaMargins, EightAreas, BordersContent}
use Rattle.store.specs.declared.Name.{Name}
use Rattle.store.specs.Fields.{Fields, bytes_of, text_of, resolve_all, resolve_in, resolve, bytes_in}
use Rattle.store.specs.Check.{place_of, check}
use Rattle.look.specs.Values.{◌&◌}
use Rattle.styles.specs.declared.Area.{Area}
use Rattle.styles.specs.declared.Areas.{Areas}
use Rattle.styles.specs.declared.Borders.{Borders}
use Rattle.styles.specs.declared.Styles.{Styles}
use Rattle.sections_put.specs.Fields.{Sections, longest_sections, hex, font, colors, margins, area, eight_areas, areas, content, borders, fields}
use Rattle.sections_put.specs.Names.{Each, Short}
use Rattle.sections_put.specs.Laws.Within.{within}

-- ---- borders

content_long : (s : List ℕ) (x : Borders) → length (bytes_in BordersContent s (content x)) ≡ 240
unfolding bytes_in spell spell_all resolve resolve_all digits le content BordersContent
content_long s x = refl

pub content_short : (s : List ℕ) (x : Borders) → length (bytes_in BordersContent s (content x)) < 256 ^ 4
content_short s x = omega (arith, content_long s x)

-- ---- areas

area_long : (index : ℕ) (s : List ℕ) (x : Area) → length (bytes_in (grammar.Area 3 index) s (area index x)) ≡ 70 + length (bytes_of s x.typeface)
unfolding bytes_in spell resolve text_of digits le grammar.Area pick AreaFont AreaColors AreaMargins area font colors margins hex
area_long index s x = simp length-append (omega arith)

-- the bytes of the names
abbrev pub names_long : List ℕ → Areas → ℕ
names_long s x =
    length (bytes_of s x.title.typeface) + length (bytes_of s x.caption.typeface) + length (bytes_of s x.footer.typeface)
    + length (bytes_of s x.corner.typeface) + length (bytes_of s x.column_labels.typeface) + length (bytes_of s x.row_labels.typeface)
    + length (bytes_of s x.data.typeface) + length (bytes_of s x.layers.typeface)

-- of eight layouts, one after the other
eight_bytes : (a b c d e g h i : Layout) (s : List ℕ) (p : Fields a) (q : Fields b) (r : Fields c) (t : Fields d) (u : Fields e) (v : Fields g) (w : Fields h) (y : Fields i)
    → length (bytes_in (a ▸ b ▸ c ▸ d ▸ e ▸ g ▸ h ▸ i) s (p & q & r & t & u & v & w & y))
    ≡ length (bytes_in a s p) + length (bytes_in b s q) + length (bytes_in c s r) + length (bytes_in d s t) + length (bytes_in e s u) + length (bytes_in g s v)
    + length (bytes_in h s w) + length (bytes_in i s y)
unfolding bytes_in spell resolve
eight_bytes a b c d e g h i s p q r t u v w y = simp length-append

each_bytes : (s : List ℕ) (x : Areas)
    → length (bytes_in (EightAreas 3) s (eight_areas x))
    ≡ length (bytes_in (grammar.Area 3 1) s (area 1 x.title)) + length (bytes_in (grammar.Area 3 2) s (area 2 x.caption))
    + length (bytes_in (grammar.Area 3 3) s (area 3 x.footer)) + length (bytes_in (grammar.Area 3 4) s (area 4 x.corner))
    + length (bytes_in (grammar.Area 3 5) s (area 5 x.column_labels)) + length (bytes_in (grammar.Area 3 6) s (area 6 x.row_labels))
    + length (bytes_in (grammar.Area 3 7) s (area 7 x.data)) + length (bytes_in (grammar.Area 3 8) s (area 8 x.layers))
unfolding EightAreas eight_areas
each_bytes s x =
    eight_bytes (grammar.Area 3 1) (grammar.Area 3 2) (grammar.Area 3 3) (grammar.Area 3 4) (grammar.Area 3 5) (grammar.Area 3 6) (grammar.Area 3 7) (grammar.Area 3 8) s
    (area 1 x.title) (area 2 x.caption) (area 3 x.footer) (area 4 x.corner) (area 5 x.column_labels) (area 6 x.row_labels) (area 7 x.data)
    (area 8 x.layers)

eight_long : (s : List ℕ) (x : Areas) → length (bytes_in (EightAreas 3) s (eight_areas x)) ≡ 560 + names_long s x
eight_long s x = each_bytes s x ∙ simp area_long (omega arith)

-- "no 00 before the areas": what stands there is the index 1
pub leads : (s : List ℕ) (x : Areas) → Leads 0 1 0 (bytes_in (EightAreas 3) s (eight_areas x))
unfolding bytes_in spell resolve digits le EightAreas eight_areas grammar.Area area pick AreaFont font
leads s x = record { short = omega arith; some_byte = omega arith; other = λ _ e. omega arith }

-- ---- the sections

-- what follows a run of no bytes, and a region
both_bytes : (a b : Layout) (s : List ℕ) (p : Fields a) (q : Fields b)
    → length (bytes_in (leading 0 1 a ▸ region little exact b) s ((0, p) & q)) ≡ length (bytes_in a s p) + (4 + length (bytes_in b s q))
unfolding bytes_in spell spell_fill resolve resolve_in
both_bytes a b s p q = simp (length-append, digits_length) (omega arith)

sections_bytes : (s : List ℕ) (x : Styles)
    → length (bytes_in Sections s (fields x)) ≡ length (bytes_in (EightAreas 3) s (eight_areas x.areas)) + (4 + length (bytes_in BordersContent s (content x.borders)))
unfolding fields areas borders grammar.Areas grammar.Borders
sections_bytes s x = both_bytes (EightAreas 3) BordersContent s (eight_areas x.areas) (content x.borders)

-- with empty names 804
pub sections_long : (s : List ℕ) (x : Styles) → length (bytes_in Sections s (fields x)) ≡ 804 + names_long s x.areas
sections_long s x = omega (arith, sections_bytes s x, eight_long s x.areas, content_long s x.borders)

name_short : (s : List ℕ) (n : Name) → Short n → length (bytes_of s n) ≤ 255
unfolding bytes_of
name_short s n h = simp length-take (omega arith)

-- Most: with names of at most 255 bytes a buffer of 2,844 bytes from the first place on is long enough, whatever is answered
pub sections_most : (s : List ℕ) (x : Styles) → Each Short x.areas → (at : ℕ) → place_of (check Sections s (fields x) at) ≤ at + longest_sections
sections_most s x h at =
    let y = x.areas in
    let w = within Sections s (fields x) at in
    let l = sections_long s x in
    let a = name_short s y.title.typeface h.title in
    let b = name_short s y.caption.typeface h.caption in
    let c = name_short s y.footer.typeface h.footer in
    let d = name_short s y.corner.typeface h.corner in
    let e = name_short s y.column_labels.typeface h.column_labels in
    let f = name_short s y.row_labels.typeface h.row_labels in
    let g = name_short s y.data.typeface h.body in
    let i = name_short s y.layers.typeface h.layers in
    omega arith
