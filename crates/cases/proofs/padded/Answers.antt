use Rattle.std.proofs.Common.{◌≡◌, ℕ, ◌≤◌, List, ◌++◌, length, drop, take_all, arith}
use Rattle.std.specs.Prelude.{replicate}
use Rattle.std.proofs.lemmas.List.{drop-replicate}
use Rattle.cases.specs.Answers.{padded}
use Rattle.cases.proofs.padded.Goals as goal

copied : (l x : List ℕ) → x ≡ l → x ++ drop (length l) (replicate 256 0) ≡ padded (length l) l
unfolding padded
copied l x e = let n : length l ≤ length l = omega arith in rw (e, take_all (length l) l n, drop-replicate {X = ℕ} (length l) 256 0)

pub returns : goal.returns
returns c = copied c.args.kinds.now _ c.copy_from_slice.ensures.after
