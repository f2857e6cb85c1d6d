-- Bytes that were copied into an output from a place on.
use Rattle.std.proofs.Common.{◌≡◌, ℕ, ◌+◌, ◌≤◌, List, ◌++◌, length, take, drop, ◌∙◌}
use Rattle.std.proofs.lemmas.List.{append_assoc}
use Rattle.std.proofs.lemmas.List.Edits.{sets, sets-eq}
use Rattle.std.proofs.Math.Seq.{drop-drop}
use borrow.Rule.Slice.PartMut.{put_mid}

pub copied : (o : List ℕ) (w n : ℕ) (x y : List ℕ) → w + n ≤ length o → n ≡ length x → y ≡ x → put_mid w n o y ≡ sets o w x
copied o w n x y h l e =
    let s : sets o w x ≡ take w o ++ (x ++ drop (w + length x) o) = sets-eq x o w (rw l at h) ∙ append_assoc (take w o) x (drop (w + length x) o) in
    rw (e, l, drop-drop, s)
