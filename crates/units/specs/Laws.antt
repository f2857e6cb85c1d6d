-- Document 01: "Points to pixels and back is the same number; pixels to points and back need not be."
use Rattle.std.specs.Prelude.{◌≡◌, refl, ℕ, ◌≤◌}
use Rattle.std.proofs.Common.{arith, le-leb}
use Rattle.units.specs.declared.Pt.{Pt}
use Rattle.units.specs.Units.{to_pixels, to_points, in_pixels, in_points}

-- the numbers alone
same : (n : ℕ) → to_points (to_pixels n) ≡ n
same n = omega arith

-- points that are not too many, to pixels and back: no refusal on the way, and the same points
pub points_and_back : (pt : Pt) → pt.0 ≤ 1000000 → in_points (in_pixels pt).value ≡ record { refusal = 0; place = 0; value = pt }
points_and_back pt h =
    let small : to_pixels pt.0 ≤ 1330000 = omega arith in
    rw (le-leb pt.0 1000000 h, le-leb (to_pixels pt.0) 1330000 small, same pt.0)

-- and the other way round they need not be
pub pixels_and_back : (in_pixels (in_points (record { 0 = 1 })).value).value.0 ≡ 0
pixels_and_back = refl
