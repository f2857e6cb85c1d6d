-- Letters compared one by one, as one number.
use Rattle.std.specs.Prelude.{◌≡◌, refl, Bool, List, [], leb, ℕ, ◌+◌, ◌-◌, ◌≤◌, ◌<◌, length, take, drop, get_or, eqb}
use Rattle.std.proofs.Common.{sym, ap, ◌∙◌, arith, length-drop, ext_get_or, length-take-le, get_or-take, get_or-drop}
use Rattle.std.proofs.Math.Bool.{true, false}
use Rattle.std.proofs.lemmas.Bool.{false≢true}
use Rattle.std.proofs.lemmas.Bool.Decides.{Decides-eqb}
use Rattle.std.proofs.lemmas.Slice.Eq.{slice_eq-Decides}
use Rattle.std.specs.Cmp.Lexicographic.{pointwise}
use borrow.Author.Tests.{le-leb, lt-leb, eq-eqb, ne_eqb, leb-false}
use Rattle.std.specs.Prelude.{Ok, Err}
use Rattle.sizes.specs.Basics.{pick}
use Rattle.grammar.specs.Layout.{Order, Test, passes, empty, number, Bytes, undigits}
use Rattle.grammar.specs.Laws.Layout.Read.{bind, read_number, read, refusal}
use Rattle.grammar.specs.Part.{part_of}
use Rattle.layout.specs.Reads.{step, chain, ReadsTo}
use Rattle.grammar.specs.Laws.Layout.Spelt.{same_letters}
use Rattle.layout.specs.Steps.Slices.{drop_bytes, take_bytes}

-- ---- comparing letters one by one

module _ (s text : List ℕ) (at : ℕ) (fits : length text ≤ length s - at) where
  part_length : length (take (length text) (drop at s)) ≡ length text
  part_length = length-take-le (length text) (drop at s) (omega (arith, length-drop at s))

  part_at : (k : ℕ) → k < length text → get_or (take (length text) (drop at s)) k 0 ≡ get_or s (at + k) 0
  part_at k h = rw (get_or-take, get_or-drop)

  pub all_same : (o : Order) → ((k : ℕ) → k < length text → get_or s (at + k) 0 ≡ get_or text k 0)
      → true ≡ eqb (undigits o (take (length text) (drop at s))) (undigits o text)
  all_same o h =
      let e : take (length text) (drop at s) ≡ text =
      ext_get_or 0 (take (length text) (drop at s)) text part_length
      (λ k l. let l' : k < length text = rw part_length at l in part_at k l' ∙ h k l') in
      sym (eq-eqb _ _ (ap (undigits o) e))

  pub one_differs : (o : Order) → Bytes s → Bytes text → (k : ℕ) → k < length text → (get_or s (at + k) 0 ≡ get_or text k 0 → ⊥)
      → false ≡ eqb (undigits o (take (length text) (drop at s))) (undigits o text)
  one_differs o hs ht k l ne =
      sym (ne_eqb _ _ (λ e.
      let same : take (length text) (drop at s) ≡ text = same_letters o _ text (take_bytes (length text) (drop_bytes at hs)) ht part_length e in
      ne (sym (part_at k l) ∙ ap (λ (x : List ℕ). get_or x k 0) same)))

-- ---- comparing the part where they would stand

pub part_here : (s : List ℕ) (at n : ℕ) → n ≤ length s - at → part_of s at n ≡ take n (drop at s)
unfolding part_of pick
part_here s at n h = go (leb (at + n) (length s)) refl
  where
    go : (b : Bool) → leb (at + n) (length s) ≡ b → pick b (take n (drop at s)) [] ≡ take n (drop at s)
    go true e = refl
    go false e =
        let l = leb-false (at + n) (length s) e in
        let z : n ≡ 0 = omega arith in
        rw z

pub slices_same : (o : Order) (xs ys : List ℕ) → Bytes xs → Bytes ys → length xs ≡ length ys → (b : Bool) → b ≡ pointwise eqb xs ys
    → b ≡ eqb (undigits o xs) (undigits o ys)
slices_same o xs ys hx hy l true e = sym (eq-eqb _ _ (ap (undigits o) ((slice_eq-Decides Decides-eqb xs ys true e).0 refl)))
slices_same o xs ys hx hy l false e = sym (ne_eqb _ _ (λ i. false≢true ((slice_eq-Decides Decides-eqb xs ys false e).1 (same_letters o xs ys hx hy l i))))

-- ---- a number that is tested, at a position: it does not fit, or does not pass, or is read

module _ (o : Order) (w : ℕ) (test : Test) (s : List ℕ) (at : ℕ) where
  pub number_short : length s - at < w → ReadsTo (number o w test (λ _. empty)) s (Ok at) (Err (2, at))
  unfolding step chain read read_number bind pick
  number_short h = record { is = rw (length-drop, lt-leb w (length s - at) h) }

  pub number_here : w ≤ length s - at → (b : Bool) → b ≡ passes test (undigits o (take w (drop at s)))
      → ReadsTo (number o w test (λ _. empty)) s (Ok at) (pick b (Ok (at + w)) (Err (refusal test (undigits o (take w (drop at s))), at)))
  unfolding step chain read read_number bind pick
  number_here h true e = record { is = rw (length-drop, le-leb w (length s - at) h, ← e) }
  number_here h false e = record { is = rw (length-drop, le-leb w (length s - at) h, ← e) }
