-- Colors keep their parts: those of a background are the mixed parts, those of a border are the color's.
use Rattle.std.specs.Prelude.{◌≡◌, ℕ, ◌+◌, ◌-◌, ◌*◌, ◌/◌, ◌%◌, ◌<◌, ◌≤◌, min}
use Rattle.std.proofs.Common.{mul-le-mul_left, arith}
use Rattle.look.specs.declared.AreaColor.{AreaColor}
use Rattle.styles.specs.Styles.{red, green, blue, mixed, background, opaque}

-- 002: "shading of 0 is pure color0, shading of 10 is pure color10"
pub pure_color0 : (p q : ℕ) → mixed 0 p q ≡ q
pure_color0 p q = omega arith

pub pure_color10 : (p q : ℕ) → mixed 10 p q ≡ p
pure_color10 p q = omega arith

-- parts, mixed, are a part
pub mixed_within : (k p q : ℕ) → k ≤ 10 → p < 256 → q < 256 → k * p + (10 - k) * q ≤ 2550
mixed_within k p q h l m =
    let a : k * p ≤ k * 255 = mul-le-mul_left k (omega arith) in
    let b : (10 - k) * q ≤ (10 - k) * 255 = mul-le-mul_left (10 - k) (omega arith) in
    omega arith

pub mixed_part : (k p q : ℕ) → k ≤ 10 → p < 256 → q < 256 → mixed k p q < 256
mixed_part k p q h l m = omega (arith, mixed_within k p q h l m)

-- the parts of a color of a look, whose high byte is 0
pub record Parts (color r g b : ℕ) : Type 0 where
  pub red_is : red color ≡ r
  pub green_is : green color ≡ g
  pub blue_is : blue color ≡ b
  pub high : color < 16777216

whole : {r g b : ℕ} → r < 256 → g < 256 → b < 256 → Parts (r + g * 256 + b * 65536) r g b
whole hr hg hb = record { red_is = omega arith; green_is = omega arith; blue_is = omega arith; high = omega arith }

pub background_parts : (x : AreaColor)
    → let mix = mixed (min x.shading 10) in
    Parts (background x) (mix (red x.color10) (red x.color0)) (mix (green x.color10) (green x.color0)) (mix (blue x.color10) (blue x.color0))
unfolding background
background_parts x = whole (part _ _) (part _ _) (part _ _)
  where
    part : (m n : ℕ) → mixed (min x.shading 10) (m % 256) (n % 256) < 256
    part m n = mixed_part (min x.shading 10) (m % 256) (n % 256) (omega arith) (omega arith) (omega arith)

-- of a border: alpha, red, green and blue
abbrev pub Bits : ℕ → ℕ → ℕ → ℕ → ℕ → Type 0
Bits color alpha r g b = (color / 16777216 ≡ alpha) × (color / 65536 % 256 ≡ r) × (color / 256 % 256 ≡ g) × (color % 256 ≡ b)

stacked : (r g b : ℕ) → r < 256 → g < 256 → b < 256 → Bits (0xff000000 + r * 65536 + g * 256 + b) 255 r g b
stacked r g b hr hg hb = (omega arith, omega arith, omega arith, omega arith)

pub opaque_parts : (color : ℕ) → Bits (opaque color) 255 (red color) (green color) (blue color)
unfolding opaque
opaque_parts color = stacked (red color) (green color) (blue color) (omega arith) (omega arith) (omega arith)
