-- What the parts of a reader give at a position, by the bytes that are left there.
use Rattle.std.specs.Prelude.{◌≡◌, refl, Bool, true, false, List, ℕ, ◌+◌, ◌-◌, length, take, drop, eqb, leb}
use Rattle.std.proofs.Common.{ap, ◌∙◌, length-drop, length-take-le, leb-true}
use Rattle.std.specs.Prelude.{Ok, Err}
use Rattle.sizes.specs.Basics.{pick}
use Rattle.grammar.specs.Layout.{Order, undigits}
use Rattle.grammar.specs.Laws.Layout.Read.{got, no, too_short, bind, read_number, read_counted}
use Rattle.layout.specs.Reads.{number_of, peek, judged, field, span_of, part}

pub peek_at : (o : Order) (w : ℕ) (s : List ℕ) (at : ℕ) → peek o w s (Ok at) ≡ pick (leb w (length s - at)) (undigits o (take w (drop at s))) 0
unfolding peek read_number pick
peek_at o w s at = rw length-drop (go (leb w (length s - at)))
  where
    go : (b : Bool) → number_of (pick b (got (undigits o (take w (drop at s))) (drop w (drop at s)) (at + w)) (no too_short at)) ≡ pick b (undigits o (take w (drop at s))) 0
    go true = refl
    go false = refl

pub field_at : (w c : ℕ) (s : List ℕ) (at : ℕ)
    → field w c s (Ok at) ≡ pick (leb w (length s - at)) (pick (eqb c 0) (Ok (at + w)) (Err (c, at))) (Err (2, at))
unfolding field read_number pick
field_at w c s at = rw length-drop (go _ (leb w (length s - at)))
  where
    go : (v : ℕ) (b : Bool) → judged c at (pick b (got v (drop w (drop at s)) (at + w)) (no too_short at)) ≡ pick b (pick (eqb c 0) (Ok (at + w)) (Err (c, at))) (Err (2, at))
    go v true = refl
    go v false = refl

pub part_at : (o : Order) (w : ℕ) (s : List ℕ) (at : ℕ)
    → part o w s (Ok at)
    ≡ pick (leb w (length s - at))
    (pick (leb (peek o w s (Ok at)) (length s - at - w)) (Ok (at + w, at + w + peek o w s (Ok at))) (Err (2, at)))
    (Err (2, at))
unfolding part read_counted read_number bind pick
part_at o w s at = rw (peek_at o w s at, length-drop at s) (go (leb w (length s - at)))
  where
    v : ℕ
    v = undigits o (take w (drop at s))

    found : (b : Bool) → leb v (length (drop w (drop at s))) ≡ b
        → span_of (pick b (got (take v (drop w (drop at s))) (drop v (drop w (drop at s))) (at + w)) (no too_short at)) ≡ pick b (Ok (at + w, at + w + v)) (Err (2, at))
    found true e = ap (λ (e : ℕ). Ok (at + w, e)) (ap (λ (n : ℕ). at + w + n) (length-take-le v (drop w (drop at s)) (leb-true v _ e)))
    found false e = refl

    go : (b : Bool)
        → span_of (bind (pick b (got v (drop w (drop at s)) (at + w)) (no too_short at))
        (λ n s₁ at₁. pick (leb n (length s₁)) (got (take n s₁) (drop n s₁) at₁) (no too_short at)))
        ≡ pick b (pick (leb (pick b v 0) (length s - at - w)) (Ok (at + w, at + w + pick b v 0)) (Err (2, at))) (Err (2, at))
    go true =
        let l : length (drop w (drop at s)) ≡ length s - at - w = length-drop w (drop at s) ∙ ap (λ (n : ℕ). n - w) (length-drop at s) in
        rw (← l) (found (leb v (length (drop w (drop at s)))) refl)
    go false = refl
