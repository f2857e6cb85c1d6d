-- Document 01, "The looks": points, pixels, and the height of a font.
use Rattle.std.specs.Prelude.{Bool, true, false, ℕ, suc, ◌+◌, ◌*◌, ◌/◌, leb, ℤ, pos, negsuc, Result, Ok, Err}
use Rattle.refusals.specs.declared.Refusal.{Refusal}
use Rattle.refusals.specs.Numbers.{number}
use Rattle.units.specs.declared.Pt.{Pt}
use Rattle.units.specs.declared.Px.{Px}

-- the refusal's number, or 0, and its place; then the value
pub record Answer (A : Type 0) : Type 0 where
  pub refusal : ℕ
  pub place : ℕ
  pub value : A

abbrev pub Pixels : Type 0
Pixels = Answer Px

abbrev pub Points : Type 0
Points = Answer Pt

abbrev pub Height : Type 0
Height = Answer ℕ

-- what code gives, so; where it is refused the value is one that stands for none
abbrev pub answer_or : {A : Type 0} → A → Result A Refusal → Answer A
answer_or none (Ok x) = record { refusal = 0; place = 0; value = x }
answer_or none (Err e) = record { refusal = number e.reason; place = e.place; value = none }

abbrev pub pixels_of : Result Px Refusal → Pixels
pixels_of r = answer_or (record { 0 = 0 }) r

abbrev pub points_of : Result Pt Refusal → Points
points_of r = answer_or (record { 0 = 0 }) r

abbrev pub height_of : Result ℕ Refusal → Height
height_of r = answer_or 0 r

-- "px = pt × 133/100 rounded up"
abbrev pub to_pixels : ℕ → ℕ
to_pixels pt = (pt * 133 + 99) / 100

-- "pt = px × 100/133 rounded down"
abbrev pub to_points : ℕ → ℕ
to_points px = px * 100 / 133

-- "Points above 1,000,000 and pixels above 1,330,000 give 7 at place 0"
abbrev pub pixels_if : Bool → ℕ → Pixels
pixels_if true n = record { refusal = 0; place = 0; value = record { 0 = n } }
pixels_if false n = record { refusal = 7; place = 0; value = record { 0 = 0 } }

abbrev pub in_pixels : Pt → Pixels
in_pixels pt = pixels_if (leb pt.0 1000000) (to_pixels pt.0)

abbrev pub points_if : Bool → ℕ → Points
points_if true n = record { refusal = 0; place = 0; value = record { 0 = n } }
points_if false n = record { refusal = 7; place = 0; value = record { 0 = 0 } }

abbrev pub in_points : Px → Points
in_points px = points_if (leb px.0 1330000) (to_points px.0)

-- "-n for n below 0, so 2,147,483,648 at the bottom end; 7 at place 0 for 0 and above"
abbrev pub height : ℤ → Height
height (pos n) = record { refusal = 7; place = 0; value = 0 }
height (negsuc n) = record { refusal = 0; place = 0; value = suc n }
