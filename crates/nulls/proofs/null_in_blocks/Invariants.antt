-- The loop keeps whether a 0 was found: that, or that one stands in what is left, is that one stands among them. What is left ends with the
-- bytes after all whole blocks.
use mathlib.Core.Path.{◌≡◌}
use Rattle.nulls.proofs.NullBytes.{NullLeft, after_blocks}
use Rattle.nulls.proofs.null_in_blocks.Given as goal

abbrev pub invariant-loop-block : goal.invariant-loop-block
invariant-loop-block l =
    (l.block-iterator.size ≡ 16) × (l.rest ≡ after_blocks l.block-iterator.rest.now) × NullLeft l.s l.block-iterator.rest.now l.found
