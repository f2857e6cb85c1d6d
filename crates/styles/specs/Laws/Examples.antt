-- Styles by computation.
use Rattle.std.specs.Prelude.{◌≡◌, true, false, refl}
use Rattle.std.specs.Float.Ieee.{of_int, to_bits}
use Rattle.sizes.specs.Basics.{pick}
use Rattle.look.specs.declared.Separator.TheVariants.{NotDrawn, Drawn}
use Rattle.styles.specs.Styles.{listed, background, opaque, size, style, halign, valign, margin, single, doubled, stroke, border}

-- left, right, center, mixed and decimal; and what 002 does not list
halign_listed : (halign 0 ≡ 2) × (halign 1 ≡ 4) × (halign 2 ≡ 0) × (halign 3 ≡ 64173) × (halign 4 ≡ 61453) × (halign 5 ≡ 0)
unfolding halign listed pick
halign_listed = (refl, refl, refl, refl, refl, refl)

-- top, bottom and center
valign_listed : (valign 0 ≡ 1) × (valign 1 ≡ 3) × (valign 2 ≡ 0) × (valign 3 ≡ 0)
unfolding valign listed pick
valign_listed = (refl, refl, refl, refl)

-- thin, solid, thick and thick
single_listed : (stroke 0 0 ≡ 4) × (stroke 0 1 ≡ 1) × (stroke 0 2 ≡ 3) × (stroke 0 3 ≡ 3) × (stroke 0 4 ≡ 0)
unfolding stroke single listed pick
single_listed = (refl, refl, refl, refl, refl)

-- double
doubled_listed : (stroke 1 0 ≡ 5) × (stroke 1 1 ≡ 5) × (stroke 1 2 ≡ 0)
unfolding stroke doubled listed pick
doubled_listed = (refl, refl, refl)

-- dashed, of any width; and no style of 002
dashed_listed : (stroke 2 0 ≡ 2) × (stroke 2 65535 ≡ 2) × (stroke 3 0 ≡ 0)
unfolding stroke listed pick
dashed_listed = (refl, refl, refl)

undrawn_black : border NotDrawn ≡ record { stroke = 0; color = 0xff000000 }
undrawn_black = refl

-- red is the low byte of a look's color, and the third of a border's
red_line : border (Drawn 0x0000ff 0 1) ≡ record { stroke = 1; color = 0xffff0000 }
unfolding stroke single listed pick opaque
red_line = refl

blue_line : opaque 0xff0000 ≡ 0xff0000ff
unfolding opaque
blue_line = refl

-- half of red and half of blue; and all of one of them
mixed_half : background (record { color10 = 0x0000ff; color0 = 0xff0000; shading = 5 }) ≡ 0x7f007f
unfolding background
mixed_half = refl

mixed_ends :
    (background (record { color10 = 0x0000ff; color0 = 0xff0000; shading = 0 }) ≡ 0xff0000)
    × (background (record { color10 = 0x0000ff; color0 = 0xff0000; shading = 10 }) ≡ 0x0000ff)
unfolding background
mixed_ends = (refl, refl)

-- shading 1 is nearly color0
mixed_one : background (record { color10 = 0x0000ff; color0 = 0xff0000; shading = 1 }) ≡ 0xe50019
unfolding background
mixed_one = refl

-- 39 twentieths of a point are 1 point, and that is 2 pixels; 19 are none; 40 are 2 points, 3 pixels
margins : (margin 39 ≡ 2) × (margin 19 ≡ 0) × (margin 40 ≡ 3) × (margin 65535 ≡ 4358)
unfolding margin
margins = (refl, refl, refl, refl)

bold_from_700 : (style 699 false ≡ 0) × (style 700 false ≡ 1) × (style 400 true ≡ 2) × (style 900 true ≡ 3)
unfolding style
bold_from_700 = (refl, refl, refl, refl)

-- 12 pixels, and the most that is allowed, as floats
sizes : (size 0xfffffff4 ≡ 0x41400000) × (size 0xfff0bdc0 ≡ 0x49742400) × (size 12 ≡ 0)
unfolding pick size to_bits of_int
sizes = (refl, refl, refl)
