use Rattle.std.proofs.Common.{◌≡◌, ℕ, ◌+◌, ◌-◌, ◌/◌, ◌≤◌, List, ◌++◌, length, take, drop, ◌∙◌, arith}
use Rattle.std.specs.Int.{w64, to_le_bytes}
use Rattle.std.proofs.lemmas.List.{append_assoc}
use Rattle.std.proofs.lemmas.List.Edits.{sets, sets-eq}
use Rattle.std.proofs.Math.Seq.{drop-drop}
use borrow.Rule.Slice.PartMut.{put_mid}
use Rattle.sizes.specs.Basics.{le}
use Rattle.grammar.specs.Laws.Layout.Digits.{length_le}
use Rattle.cases.proofs.bytes.put.Goals as goal

-- bytes that were copied into an output from a place on
copied : (o : List ℕ) (w n : ℕ) (x y : List ℕ) → w + n ≤ length o → n ≡ length x → y ≡ x → put_mid w n o y ≡ sets o w x
copied o w n x y h l e =
    let s : sets o w x ≡ take w o ++ (x ++ drop (w + length x) o) = sets-eq x o w (rw l at h) ∙ append_assoc (take w o) x (drop (w + length x) o) in
    rw (e, l, drop-drop, s)

lowest_first : (x : ℕ) → to_le_bytes w64 x ≡ le 8 x
unfolding le
lowest_first x =
    let e₂ : x / 65536 ≡ x / 256 / 256 = omega arith in
    let e₃ : x / 16777216 ≡ x / 256 / 256 / 256 = omega arith in
    let e₄ : x / 4294967296 ≡ x / 256 / 256 / 256 / 256 = omega arith in
    let e₅ : x / 1099511627776 ≡ x / 256 / 256 / 256 / 256 / 256 = omega arith in
    let e₆ : x / 281474976710656 ≡ x / 256 / 256 / 256 / 256 / 256 / 256 = omega arith in
    let e₇ : x / 72057594037927936 ≡ x / 256 / 256 / 256 / 256 / 256 / 256 / 256 = omega arith in
    rw (e₂, e₃, e₄, e₅, e₆, e₇)

pub returns : goal.returns
returns c =
    let a = c.args in
    let n : a.at + 8 - a.at ≡ 8 = omega arith in
    rw n (copied a.output.now a.at 8 (le 8 a.x) _ c.requires (rw length_le) (c.copy_from_slice.ensures.after ∙ c.to_le_bytes.ensures ∙ lowest_first a.x))
