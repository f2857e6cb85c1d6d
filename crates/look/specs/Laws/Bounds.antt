-- How many bytes a look has at most.
use Rattle.std.specs.Prelude.{◌≡◌, refl, Bool, true, false, List, ℕ, ◌≤◌, max, eqb}
use Rattle.std.proofs.Common.{arith}
use Rattle.sizes.specs.Sizes.{longest_look}
use Rattle.grammar.specs.Layout.{Layout, ◌▸◌}
use Rattle.store.specs.Laws.Bounds.{AtMost, most, Bounded, at_most}
use Rattle.look.specs.Look as grammar
use Rattle.look.specs.Look.{TableLook, TableLook02}
use Rattle.look.specs.Values.{◌&◌}

-- a number alone
f : (n : ℕ) → (0 ≤ max 0 (max 0 0)) × Unit {0}
f n = (omega arith, tt)

section : (letters : List ℕ) → Bounded (grammar.section letters)
section letters = f & f & f & f & (f & f)

separator : Bounded grammar.Separator
separator n = go (eqb n 1)
  where
    go : (b : Bool) → (most (grammar.SeparatorIf b) ≤ max (most grammar.undrawn) (max (most grammar.drawn) (most grammar.undrawn))) × Bounded (grammar.SeparatorIf b)
    go true = (omega arith, f & f & f & f)
    go false = (omega arith, f)

color : Bounded grammar.AreaColor
color = f & f & f & f & f & f & f

style : Bounded grammar.AreaStyle
style = (f & f & f & f & f & f & f & f & f & f & f) & (f & f & f & f & f & f & f) & (f & f & f & f & f & refl & f & f)

areas : Bounded grammar.MostAreas
areas = f & f & color & f & f & f & style

v2 : Bounded grammar.V2Styles
v2 = separator & refl & f & f & f & f

v2_if : (b : Bool) → Bounded (grammar.V2StylesIf b)
v2_if true = v2
v2_if false = tt

-- what comes after the version, where the last section is so bounded
after : (v : Layout) → Bounded v → Bounded (grammar.settings ▸ grammar.sections v)
after v b =
    (f & f & f & f & f & f & f & f & f)
    & ((section grammar.PVSeparator_style_name & f & separator & f & f & f & separator) & (section grammar.PVCell_style_name & color)
    & (section grammar.PVText_style_name & f & style & areas) & b)

abbrev rest : Bool → Layout
rest b = grammar.settings ▸ grammar.sections (grammar.V2StylesIf b)

longest : (b : Bool) → most (rest b) ≤ max (most (rest false)) (max (most (rest false)) (most (rest true)))
unfolding grammar.PVSeparator_style_name grammar.PVCell_style_name grammar.PVText_style_name
longest true = omega arith
longest false = omega arith

pub bounded : Bounded TableLook
bounded = section grammar.PTTable_look_name & (λ version. (longest (eqb version 2), after (grammar.V2StylesIf (eqb version 2)) (v2_if (eqb version 2))))

same_long : (n : ℕ) → n ≤ max n (max n n)
same_long n = omega arith

pub bounded_02 : Bounded TableLook02
bounded_02 = section grammar.PTTable_look_name & (λ version. (same_long (most (rest true)), after grammar.V2Styles v2))

-- "2,778 and 3,160 bytes" (document 02, T-02)
pub most_bytes : most TableLook ≡ longest_look
unfolding grammar.PTTable_look_name grammar.PVSeparator_style_name grammar.PVCell_style_name grammar.PVText_style_name
most_bytes = refl

most_bytes_02 : most TableLook02 ≡ longest_look
unfolding grammar.PTTable_look_name grammar.PVSeparator_style_name grammar.PVCell_style_name grammar.PVText_style_name
most_bytes_02 = refl

-- so many bytes are written at most
pub look_most : AtMost TableLook02 longest_look
look_most = rw most_bytes_02 at (at_most TableLook02 bounded_02)
