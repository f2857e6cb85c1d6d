use Rattle.std.proofs.Common.{◌≡◌, refl, ℕ, zero, suc, ◌*◌, ◌≤◌, ◌^◌, ◌%◌, arith}
use Rattle.case_state.proofs.powers.power.Goals as goal

shifted : (n : ℕ) → n ≤ 7 → 1 * 2 ^ (8 * n) % 18446744073709551616 ≡ 256 ^ n
shifted zero h = refl
shifted (suc zero) h = refl
shifted (suc (suc zero)) h = refl
shifted (suc (suc (suc zero))) h = refl
shifted (suc (suc (suc (suc zero)))) h = refl
shifted (suc (suc (suc (suc (suc zero))))) h = refl
shifted (suc (suc (suc (suc (suc (suc zero)))))) h = refl
shifted (suc (suc (suc (suc (suc (suc (suc zero))))))) h = refl
shifted (suc (suc (suc (suc (suc (suc (suc (suc n)))))))) h = absurd (omega arith)

pub returns : goal.returns
returns c = rw c.min.ensures (shifted _ (omega arith))
