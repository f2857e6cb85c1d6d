-- Which steps have room.
use Rattle.std.specs.Prelude.{◌≡◌, refl, true, false, ℕ, zero, suc, ◌<◌}
use Rattle.std.proofs.Common.{arith}
use Rattle.lists.specs.Lists.{has_room}

-- every step after the sixth has room; so one that has none is among the first six
pub room_last : (k n : ℕ) → 5 < k → has_room k n ≡ true
unfolding has_room
room_last zero n h = absurd (omega arith)
room_last (suc zero) n h = absurd (omega arith)
room_last (suc (suc zero)) n h = absurd (omega arith)
room_last (suc (suc (suc zero))) n h = absurd (omega arith)
room_last (suc (suc (suc (suc zero)))) n h = absurd (omega arith)
room_last (suc (suc (suc (suc (suc zero))))) n h = absurd (omega arith)
room_last (suc (suc (suc (suc (suc (suc k)))))) n h = refl

pub not_last : (k n : ℕ) → has_room k n ≡ false → k < 6
unfolding has_room
not_last zero n e = omega arith
not_last (suc zero) n e = omega arith
not_last (suc (suc zero)) n e = omega arith
not_last (suc (suc (suc zero))) n e = omega arith
not_last (suc (suc (suc (suc zero)))) n e = omega arith
not_last (suc (suc (suc (suc (suc zero))))) n e = omega arith
not_last (suc (suc (suc (suc (suc (suc k)))))) n e = absurd (let z : ◌≡◌ {A = ℕ} 0 1 = cc in omega arith)
