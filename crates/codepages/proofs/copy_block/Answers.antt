use Rattle.std.proofs.Common.{◌≡◌, sym, ◌+◌, ◌-◌, drop, arith}
use lib.ListN.{length-drop}
use lib.Seq.{length-take-le, take_all}
use Rattle.codepages.proofs.copy_block.Goals as goal

pub copy_from_slice-requires : goal.copy_from_slice-requires
copy_from_slice-requires c =
    let a = c.args in
    omega (arith, length-take-le (a.i + 64 - a.i) (drop a.i a.input.now) (omega (arith, length-drop a.i a.input.now)))

pub slice_bounds-copy_run-end : goal.slice_bounds-copy_run-end
slice_bounds-copy_run-end c = sym c.copy_from_slice.ensures.len

pub copy_run-requires : goal.copy_run-requires
copy_run-requires c = (omega arith, omega (arith, c.copy_from_slice.ensures.len), c.requires.1)

pub returns : goal.returns
returns c =
    let a = c.args in
    let z : a.i + 64 - a.i ≡ 64 = omega arith in
    let t = take_all 64 c.copy_from_slice.new.self (omega (arith, c.copy_from_slice.ensures.len)) in
    let e = rw z at c.copy_from_slice.ensures.after in
    rw (c.copy_run.ensures.0, t, e)
