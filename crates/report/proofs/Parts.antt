-- Bytes that were copied into a buffer from a place on.
use mathlib.Core.Path.{◌≡◌}
use mathlib.Core.List.{List, append_assoc}
use Prim.Native.Nat.{ℕ, ◌+◌, ◌-◌, ◌≤◌}
use native.Mathlib.Omega.{arith}
use lib.ListN.{length, take, drop}
use lib.Seq.{drop-drop}
use borrow.Rule.Slice.PartMut.{put_mid}
use Rattle.report.specs.Text.{pasted}

pub put_all : (b : List ℕ) (at : ℕ) (xs ys : List ℕ) → at + length xs ≤ length b → ys ≡ xs
    → put_mid at (at + length xs - at) b ys ≡ pasted b at xs
put_all b at xs ys h e =
    let k : at + length xs - at ≡ length xs = omega arith in
    rw (k, e, drop-drop, append_assoc (take at b) xs (drop (at + length xs) b))
