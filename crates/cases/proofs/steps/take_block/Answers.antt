use Rattle.std.proofs.Common.{refl, sym, ◌∙◌, arith}
use Rattle.std.specs.Prelude.{true, false}
use borrow.Author.Tests.{lt-ltb, le-ltb}
use Rattle.layout.specs.Steps.Slices.{bytes_of}
use Rattle.cases.specs.Laws.Agree.{block_waiting, place_in}
use Rattle.cases.specs.Laws.Quick.{steps_at, block_of, whole_in}
use Rattle.cases.proofs.steps.take_block.Goals as goal

pub eight_bytes-block-requires : goal.eight_bytes-block-requires
eight_bytes-block-requires c = let a = c.args in (whole_in a.kind a.count a.bias a.c c.requires.1 a.input.now a.i _ (rw c.left.ensures at (sym c.whole.ensures ∙ c.if-whole.true))).0

pub following-requires : goal.following-requires
following-requires c = c.requires.1.at_in

pub overflow_add-c : goal.overflow_add-c
overflow_add-c c = let a = c.args in omega (arith, (whole_in a.kind a.count a.bias a.c c.requires.1 a.input.now a.i _ (rw c.left.ensures at (sym c.whole.ensures ∙ c.if-whole.true))).1)

pub passed-requires : goal.passed-requires
passed-requires c = let a = c.args in place_in a.count a.c c.requires.1 c.requires.0 (omega arith)

pub returns-then-whole : goal.returns-then-whole
returns-then-whole c =
    let a = c.args in
    rw (c.writing.ensures, c.passed.ensures, c.following.ensures)
    (block_of a.kind a.count a.bias a.c c.requires.1 a.input.now a.i _ (rw c.left.ensures at (sym c.whole.ensures ∙ c.if-whole.true)) _ (bytes_of a.input.now c.type_inv.input) c.eight_bytes-block.ensures refl c.requires.0 c.requires.2)

pub block_byte-requires : goal.block_byte-requires
block_byte-requires c = c.requires

pub returns-then-i-input : goal.returns-then-i-input
returns-then-i-input c = let a = c.args in steps_at a.kind a.count a.bias a.c a.input.now a.i true _ (lt-ltb _ _ c.if-i-input.true) c.block_byte.ensures

pub returns : goal.returns
returns c = let a = c.args in steps_at a.kind a.count a.bias a.c a.input.now a.i false _ (le-ltb _ _ c.if-i-input.false) (block_waiting a.kind a.count a.bias a.c _ c.requires.1 c.requires.0 c.requires.2)
