use Rattle.std.proofs.Common.{refl, sym, ◌∙◌, arith}
use Rattle.std.specs.Prelude.{true, false}
use borrow.Author.Tests.{lt-ltb, le-ltb}
use Rattle.layout.specs.Steps.Slices.{bytes_of}
use Rattle.cases.specs.Laws.Agree.{waiting}
use Rattle.cases.specs.Laws.Quick.{steps_at, group_of, whole_in}
use Rattle.cases.proofs.steps.take_codes.Goals as goal

pub eight_bytes-codes-requires : goal.eight_bytes-codes-requires
eight_bytes-codes-requires c = let a = c.args in (whole_in a.kind a.count a.bias a.c c.requires.1 a.input.now a.i _ (rw c.left.ensures at (sym c.whole.ensures ∙ c.if-whole.true))).0

pub overflow_add-c : goal.overflow_add-c
overflow_add-c c = let a = c.args in omega (arith, (whole_in a.kind a.count a.bias a.c c.requires.1 a.input.now a.i _ (rw c.left.ensures at (sym c.whole.ensures ∙ c.if-whole.true))).1)

pub returns-then-whole : goal.returns-then-whole
returns-then-whole c =
    let a = c.args in
    rw (c.silent.ensures, c.acting.ensures)
    (group_of a.kind a.count a.bias a.c c.requires.1 a.input.now a.i _ (rw c.left.ensures at (sym c.whole.ensures ∙ c.if-whole.true)) _ (bytes_of a.input.now c.type_inv.input) c.eight_bytes-codes.ensures refl c.requires.0)

pub code_byte-requires : goal.code_byte-requires
code_byte-requires c = c.requires

pub returns-then-i-input : goal.returns-then-i-input
returns-then-i-input c = let a = c.args in steps_at a.kind a.count a.bias a.c a.input.now a.i true _ (lt-ltb _ _ c.if-i-input.true) c.code_byte.ensures

pub returns : goal.returns
returns c = let a = c.args in steps_at a.kind a.count a.bias a.c a.input.now a.i false _ (le-ltb _ _ c.if-i-input.false) (waiting a.kind a.count a.bias a.c _ c.requires.1 c.requires.0)
