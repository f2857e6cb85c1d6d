use Rattle.std.proofs.Common.{◌≡◌, ◌∙◌, ap, ℕ, ◌*◌, ◌^◌, ◌<◌, ◌+◌, ltb, arith}
use Rattle.std.specs.Prelude.{zero, suc}
use Rattle.std.proofs.Common.{refl}
use Rattle.std.proofs.Math.Nat.{pow-suc}
use Rattle.std.proofs.lemmas.Nat.{one_shl, pow-add}
use Rattle.store.proofs.write.says.Goals as goal

bytes_are_bits : (w : ℕ) → 2 ^ (8 * w) ≡ 256 ^ w
bytes_are_bits zero = refl
bytes_are_bits (suc w) =
    let more : 8 * suc w ≡ 8 * w + 8 = omega arith in
    rw (more, pow-add 2 (8 * w) 8, bytes_are_bits w, pow-suc 256 w) refl

pub returns-else-w-eq8 : goal.returns-else-w-eq8
returns-else-w-eq8 c =
    let w = c.width-w in
    let below : 8 * w.result < 64 = omega (arith, w.ensures) in
    rw (← w.ensures) (ap (ltb c.args.n) (one_shl (8 * w.result) 64 below ∙ bytes_are_bits w.result))
