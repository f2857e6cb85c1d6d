use Rattle.std.proofs.Common.{◌≡◌, ℕ, zero, suc, ◌+◌, ◌-◌, ◌*◌, ◌/◌, ◌%◌, ◌<◌, min, ap, arith}
use Rattle.std.proofs.Math.Nat.{div-add-mod, mul-add-div, mod-lt, div-eq_of_lt}
use Rattle.std.proofs.lemmas.Nat.{div-mul-add}
use borrow.Author.Tests.{le-leb}
use Rattle.sizes.specs.Basics.{pick}
use Rattle.case_state.specs.Tests.{counts_ok}
use Rattle.case_state.proofs.valid.counts_ok.Goals as goal

-- the rest of a quotient that is rounded up
rest_up : (r n : ℕ) → r < n → min 1 r ≡ (r + (n - 1)) / n
rest_up zero n h = let e : n - 1 < n = omega arith in let z : 0 + (n - 1) ≡ n - 1 = omega arith in rw (z, div-eq_of_lt e)
rest_up (suc r) n h = let e : suc r + (n - 1) ≡ 1 * n + r = omega arith in let m : min 1 (suc r) ≡ 1 = omega arith in rw (m, e, div-mul-add 1 n r (omega arith))

rounded : (d n : ℕ) → 0 < n → d / n + min 1 (d % n) ≡ (d + (n - 1)) / n
rounded d n h =
    let e : d + (n - 1) ≡ n * (d / n) + (d % n + (n - 1)) = omega (arith, div-add-mod d n) in
    rw (e, mul-add-div h (d / n) (d % n + (n - 1))) (ap (λ (x : ℕ). d / n + x) (rest_up (d % n) n (mod-lt d h)))

pub returns-then-blocks-in_group : goal.returns-then-blocks-in_group
unfolding counts_ok pick
returns-then-blocks-in_group c = rw (c.div_ceil-rounds.ensures, c.saturating_sub.ensures, rounded _ c.args.count (omega arith), le-leb _ _ c.if-whole-first.false, le-leb _ _ c.if-blocks-in_group.true)
