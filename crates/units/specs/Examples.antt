-- The ends of the ranges by computation: refusal, place and value (document 01, "The looks"). So a bound that is changed in code and definition together does not prove.
use Rattle.std.specs.Prelude.{◌≡◌, refl, List, [], ◌∷◌, map, ℕ, ℤ, pos, negsuc}
use Rattle.units.specs.Units.{in_pixels, in_points, height}

abbrev pixel_words : ℕ → List ℕ
pixel_words n = let r = in_pixels record { 0 = n } in r.refusal ∷ r.place ∷ r.value.0 ∷ []

abbrev point_words : ℕ → List ℕ
point_words n = let r = in_points record { 0 = n } in r.refusal ∷ r.place ∷ r.value.0 ∷ []

abbrev height_words : ℤ → List ℕ
height_words n = let r = height n in r.refusal ∷ r.place ∷ r.value ∷ []

pub pixels_at_ends : map pixel_words (0 ∷ 1 ∷ 1000000 ∷ 1000001 ∷ []) ≡ (0 ∷ 0 ∷ 0 ∷ []) ∷ (0 ∷ 0 ∷ 2 ∷ []) ∷ (0 ∷ 0 ∷ 1330000 ∷ []) ∷ (7 ∷ 0 ∷ 0 ∷ []) ∷ []
pixels_at_ends = refl

pub points_at_ends : map point_words (0 ∷ 1 ∷ 1330000 ∷ 1330001 ∷ []) ≡ (0 ∷ 0 ∷ 0 ∷ []) ∷ (0 ∷ 0 ∷ 0 ∷ []) ∷ (0 ∷ 0 ∷ 1000000 ∷ []) ∷ (7 ∷ 0 ∷ 0 ∷ []) ∷ []
points_at_ends = refl

-- 1 and 0 have no height; -1 and -2,147,483,648 have
pub heights_at_ends : map height_words (pos 1 ∷ pos 0 ∷ negsuc 0 ∷ negsuc 2147483647 ∷ []) ≡ (7 ∷ 0 ∷ 0 ∷ []) ∷ (7 ∷ 0 ∷ 0 ∷ []) ∷ (0 ∷ 0 ∷ 1 ∷ []) ∷ (0 ∷ 0 ∷ 2147483648 ∷ []) ∷ []
heights_at_ends = refl
