use Rattle.std.proofs.Common.{◌≡◌, refl, ℕ, ◌+◌, ◌-◌, ◌≤◌, List, length, take, drop, arith}
use lib.ListN.{length-drop}
use lib.Seq.{length-take-le}
use Rattle.codepages.proofs.Copies.{copied}
use Rattle.codepages.proofs.copy_run.Goals as goal

-- as many bytes are taken as there is room for
run_length : (u : List ℕ) (i e w : ℕ) → i + (e - i) ≤ length u → w + (e - i) - w ≡ length (take (e - i) (drop i u))
run_length u i e w h = omega (arith, length-take-le (e - i) (drop i u) (omega (arith, length-drop i u)))

pub copy_from_slice-requires : goal.copy_from_slice-requires
copy_from_slice-requires c =
    let a = c.args in
    omega (arith, length-take-le (a.w + (a.e - a.i) - a.w) (drop a.w a.out.now) (omega (arith, length-drop a.w a.out.now)), run_length a.input.now a.i a.e a.w (omega arith))

pub returns : goal.returns
returns c =
    let a = c.args in
    (copied a.out.now a.w _ _ _ (omega arith) (run_length a.input.now a.i a.e a.w (omega arith)) c.copy_from_slice.ensures.after, refl)
