-- no digit is lost
use mathlib.Core.Path.{◌≡◌}
use Prim.Native.Nat.{ℕ, ◌*◌, ◌%◌, ◌^◌, ◌≤◌}
use native.Mathlib.Nat.{one-mul, mod-eq_of_lt, pow-le-pow_right}
use native.Mathlib.Omega.{arith}
use Rattle.counts.proofs.power.Goals as goal

shifted : (k : ℕ) → k ≤ 52 → 1 * 2 ^ k % 2 ^ 64 ≡ 2 ^ k
shifted k h =
    let l : 2 ^ k ≤ 2 ^ 52 = pow-le-pow_right {n = 2} (omega arith) h in
    rw (one-mul (2 ^ k)) (mod-eq_of_lt (omega arith))

pub returns : goal.returns
returns c = shifted c.args.k (omega arith)
