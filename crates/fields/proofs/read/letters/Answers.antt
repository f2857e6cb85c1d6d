use Rattle.std.proofs.Common.{◌≡◌, refl, sym, ap, ◌∙◌, Bool, true, false, List, ℕ, ◌≤◌, ◌-◌, length, length-drop, length-take-le, take, drop, eqb, arith}
use Rattle.std.proofs.lemmas.Result.{err_from_is_err_and}
use Rattle.std.specs.Cmp.Lexicographic.{pointwise}
use Rattle.sizes.specs.Basics.{pick}
use Rattle.grammar.specs.Layout.{big, the_number, passes, undigits, Bytes}
use Rattle.grammar.specs.Part.{part_of}
use Rattle.grammar.specs.Laws.Layout.Read.{refusal}
use Rattle.layout.specs.Steps.Chain.{kept}
use Rattle.layout.specs.Steps.Slices.{bytes_of, drop_bytes, take_bytes}
use Rattle.fields.specs.Laws.Gives.{fixed_gives}
use Rattle.fields.specs.Laws.Letters.{number_short, number_here, part_here, slices_same}
use Rattle.fields.proofs.read.letters.Goals as goal

same_number : (s text : List ℕ) (at : ℕ) {part : List ℕ} {b : Bool} → Bytes s → Bytes text → length text ≤ length s - at → part ≡ part_of s at (length text)
    → b ≡ pointwise eqb part text → b ≡ eqb (undigits big (take (length text) (drop at s))) (undigits big text)
same_number s text at {b = b} hs ht l p e =
    let e' : b ≡ pointwise eqb (take (length text) (drop at s)) text = e ∙ ap (λ (xs : List ℕ). pointwise eqb xs text) (p ∙ part_here s at (length text) l) in
    slices_same big (take (length text) (drop at s)) text (take_bytes (length text) (drop_bytes at hs)) ht
    (length-take-le (length text) (drop at s) (omega (arith, length-drop at s))) b e'

pub returns-in_err-at : goal.returns-in_err-at
returns-in_err-at c =
    let p = err_from_is_err_and c.from_residual.result c.from_residual.ensures.1 in
    rw (p.1, p.2, c.in_err-at.was) (fixed_gives (kept refl))

pub returns-then-text-left : goal.returns-then-text-left
returns-then-text-left c =
    let text = c.args.text.now in
    rw c.in_ok-at.was (fixed_gives (number_short big (length text) (the_number (undigits big text)) c.args.s.now c.in_ok-at.at (omega (arith, c.left.ensures))))

pub returns-then-eq : goal.returns-then-eq
unfolding pick passes
returns-then-eq c =
    let text = c.args.text.now in
    let s = c.args.s.now in
    let fits : length text ≤ length s - c.in_ok-at.at = omega (arith, c.left.ensures) in
    let e = same_number s text c.in_ok-at.at (bytes_of s c.type_inv.s) (bytes_of text c.type_inv.text) fits c.part.ensures c.eq.ensures in
    rw c.in_ok-at.was (fixed_gives (number_here big (length text) (the_number (undigits big text)) s c.in_ok-at.at fits true (sym c.if-eq.true ∙ e)))

pub returns : goal.returns
unfolding pick passes refusal
returns c =
    let text = c.args.text.now in
    let s = c.args.s.now in
    let fits : length text ≤ length s - c.in_ok-at.at = omega (arith, c.left.ensures) in
    let e = same_number s text c.in_ok-at.at (bytes_of s c.type_inv.s) (bytes_of text c.type_inv.text) fits c.part.ensures c.eq.ensures in
    rw c.in_ok-at.was (fixed_gives (number_here big (length text) (the_number (undigits big text)) s c.in_ok-at.at fits false (sym c.if-eq.false ∙ e)))
