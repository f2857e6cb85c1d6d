-- Where a reading ends and what is left there; a reading at another start.
use Rattle.std.specs.Prelude.{◌≡◌, refl, Bool, true, false, take, drop, leb, ltb}
use Rattle.std.proofs.Common.{sym, ap, ◌∙◌, length-drop, drop-drop, length-take-le, leb-true, ltb-true, ltb-false, lt-ltb, le-ltb}
use Rattle.std.proofs.Math.Option.{some}
use mathlib.Core.List.{List, [], ◌∷◌}
use Prim.Native.Nat.{ℕ, zero, suc, ◌+◌, ◌-◌, ◌≤◌, ◌<◌}
use native.Mathlib.Omega.{arith}
use Rattle.std.proofs.Math.ListN.{length}
use Rattle.sizes.specs.Basics.{pick}
use Rattle.grammar.specs.Layout.{Order, Fill, exact, optional, open_ended, Layout, empty, number, string, ◌▸◌, times, leading, region, nothing, passes, undigits, suits}
use Rattle.grammar.specs.Laws.Layout.Read.{Got, got, no, bind, read_number, read_counted, read_times, lead, read_leading, ends, read_fill, read, refusal, too_short, zero_byte, differs, limit_passed}
use Rattle.grammar.specs.Laws.Layout.Lead.{lead_short}

-- ---- what is left is the tail from its place

-- n bytes of s were read, from the place `at`: r is left, at the place p
pub record Took (s : List ℕ) (at : ℕ) (r : List ℕ) (p : ℕ) : Type 0 where
  pub n : ℕ
  pub short : n ≤ length s
  pub rest : r ≡ drop n s
  pub place : p ≡ at + n

-- what reading s from the place `at` gives: a place within s, and what is left from there
pub data Within {A : Type 0} (s : List ℕ) (at : ℕ) : Got A → Type 0 where
  w_got : {t : A} {r : List ℕ} {p : ℕ} → Took s at r p → Within s at (got t r p)
  w_no : {n p : ℕ} → at ≤ p → p ≤ at + length s → Within s at (no n p)

abbrev Stays : {A : Type 0} → (List ℕ → ℕ → Got A) → Type 0
Stays f = (s : List ℕ) (at : ℕ) → Within s at (f s at)

took_none : (s : List ℕ) (at : ℕ) → Took s at s at
took_none s at = record { n = 0; short = omega arith; rest = refl; place = omega arith }

-- the first n bytes
took_front : (s : List ℕ) (at n : ℕ) → n ≤ length s → Took s at (drop n s) (at + n)
took_front s at n h = record { n = n; short = h; rest = refl; place = refl }

pub took_length : {s : List ℕ} {at : ℕ} {r : List ℕ} {p : ℕ} → Took s at r p → p + length r ≡ at + length s
took_length {s} a = omega (arith, a.place, a.short, length-drop a.n s, ap length a.rest)

took_more : {s : List ℕ} {at : ℕ} {s₁ : List ℕ} {at₁ : ℕ} {s₂ : List ℕ} {at₂ : ℕ} → Took s at s₁ at₁ → Took s₁ at₁ s₂ at₂ → Took s at s₂ at₂
took_more {s} a b =
    let l : length (drop a.n s) ≡ length s - a.n = length-drop a.n s in
    let m : b.n ≤ length (drop a.n s) = rw a.rest at b.short in
    record {
      n = a.n + b.n;
      short = omega arith;
      rest = b.rest ∙ rw (a.rest, drop-drop);
      place = omega (arith, a.place, b.place);
    }

within_more : {A : Type 0} {s : List ℕ} {at : ℕ} {s₁ : List ℕ} {at₁ : ℕ} {x : Got A} → Took s at s₁ at₁ → Within s₁ at₁ x → Within s at x
within_more a (w_got b) = w_got (took_more a b)
within_more a (w_no {p = p} l m) = w_no {p = p} (omega (arith, a.place)) (omega (arith, took_length a))

bind_within : {A B : Type 0} {s : List ℕ} {at : ℕ} {x : Got A} {k : A → List ℕ → ℕ → Got B}
    → Within s at x → ((t : A) (r : List ℕ) (p : ℕ) → Took s at r p → Within s at (k t r p)) → Within s at (bind x k)
unfolding bind
bind_within (w_got {t} {r} {p} a) h = h t r p a
bind_within (w_no l m) h = w_no l m

pick_within : {A : Type 0} {s : List ℕ} {at : ℕ} (b : Bool) {x y : Got A} → (b ≡ true → Within s at x) → (b ≡ false → Within s at y) → Within s at (pick b x y)
unfolding pick
pick_within true h k = h refl
pick_within false h k = k refl

-- a refusal at the start
no_start : {A : Type 0} (s : List ℕ) (at n : ℕ) → Within {A = A} s at (no n at)
no_start s at n = w_no {p = at} (omega arith) (omega arith)

number_stays : (o : Order) (w : ℕ) → Stays (read_number o w)
unfolding read_number
number_stays o w s at =
    pick_within (leb w (length s)) (λ e. w_got (took_front s at w (leb-true w (length s) e))) (λ e. no_start s at too_short)

-- a count of w bytes and the n bytes that it announces, or a refusal at the count
pub data Announced (w : ℕ) (s : List ℕ) (at : ℕ) : Got (List ℕ) → Type 0 where
  announced : (n : ℕ) → w + n ≤ length s → Announced w s at (got (take n (drop w s)) (drop (w + n) s) (at + w))
  too_few : Announced w s at (no too_short at)

pub counted_view : (o : Order) (w : ℕ) (s : List ℕ) (at : ℕ) → Announced w s at (read_counted o w s at)
unfolding read_counted read_number bind pick
counted_view o w s at = go (leb w (length s)) refl
  where
    inner : (n : ℕ) → w ≤ length s → (c : Bool) → leb n (length (drop w s)) ≡ c
        → Announced w s at (pick c (got (take n (drop w s)) (drop n (drop w s)) (at + w)) (no too_short at))
    inner n l true e = rw drop-drop (announced n (omega (arith, leb-true n (length (drop w s)) e, length-drop w s)))
    inner n l false e = too_few

    go : (c : Bool) → leb w (length s) ≡ c
        → Announced w s at (bind (pick c (got (undigits o (take w s)) (drop w s) (at + w)) (no too_short at))
        (λ n s₁ at₁. pick (leb n (length s₁)) (got (take n s₁) (drop n s₁) at₁) (no too_short at)))
    go true e = inner _ (leb-true w (length s) e) _ refl
    go false e = too_few

-- how many bytes were announced
pub announced_length : (w n : ℕ) (s : List ℕ) → w + n ≤ length s → length (take n (drop w s)) ≡ n
announced_length w n s l = length-take-le n (drop w s) (omega (arith, length-drop w s))

-- the bytes xs after a count
record TookCounted (s : List ℕ) (at : ℕ) (xs r : List ℕ) (p : ℕ) : Type 0 where
  before : at ≤ p
  after : Took s at r (p + length xs)

counted_within : {A : Type 0} {w : ℕ} {s : List ℕ} {at : ℕ} {x : Got (List ℕ)} {k : List ℕ → List ℕ → ℕ → Got A} → Announced w s at x
    → ((xs r : List ℕ) (p : ℕ) → TookCounted s at xs r p → Within s at (k xs r p)) → Within s at (bind x k)
unfolding bind
counted_within {w = w} {s = s} {at = at} (announced n l) h =
    h _ _ _ record {
      before = omega arith;
      after = record { n = w + n; short = l; rest = refl; place = omega (arith, announced_length w n s l) };
    }
counted_within {s = s} {at = at} too_few h = no_start s at too_short

-- what fills xs from the place `at` on: it ends at the last byte, or is refused within
data Fills {A : Type 0} (xs : List ℕ) (at : ℕ) : Got A → Type 0 where
  f_got : {t : A} {r : List ℕ} {p : ℕ} → p ≡ at + length xs → Fills xs at (got t r p)
  f_no : {n p : ℕ} → at ≤ p → p ≤ at + length xs → Fills xs at (no n p)

-- a region, from what fills it
filled : {A : Type 0} {s : List ℕ} {at : ℕ} {xs r : List ℕ} {p : ℕ} {x : Got A} → TookCounted s at xs r p → Fills xs p x
    → Within s at (bind x (λ t s₁ at₁. got t r at₁))
unfolding bind
filled q (f_got {t} {r} {p} e) = rw e (w_got q.after)
filled q (f_no {p = p} l m) = w_no {p = p} (omega (arith, q.before)) (omega (arith, took_length q.after))

map_fills : {A B : Type 0} (g : A → B) {xs : List ℕ} {at : ℕ} {x : Got A} → Fills xs at x → Fills xs at (bind x (λ t r p. got (g t) r p))
unfolding bind
map_fills g (f_got e) = f_got e
map_fills g (f_no l m) = f_no l m

module _ {A : Type 0} (f : List ℕ → ℕ → Got A) (c : Stays f) where
  times_stays : (n : ℕ) → Stays (read_times f n)
  unfolding read_times
  times_stays zero s at = w_got (took_none s at)
  times_stays (suc n) s at =
      bind_within (c s at) (λ t r p q. within_more q (bind_within (times_stays n r p) (λ ts r₂ p₂ q₂. w_got q₂)))

  ends_fills : {s : List ℕ} {at : ℕ} {x : Got A} → Within s at x → Fills s at (ends x)
  unfolding ends
  ends_fills (w_got {r = []} {p = p} q) = f_got {p = p} (omega (arith, took_length q))
  ends_fills (w_got {r = b ∷ bs} {p = p} q) = f_no {p = p} (omega (arith, q.place)) (omega (arith, took_length q))
  ends_fills (w_no l m) = f_no l m

  fills : (m : Fill) (s : List ℕ) (at : ℕ) → Fills s at (read_fill m f s at)
  unfolding read_fill
  fills exact s at = ends_fills (c s at)
  fills optional [] at = f_got {p = at} (omega arith)
  fills optional (b ∷ bs) at = map_fills some (ends_fills (c (b ∷ bs) at))
  fills open_ended s at = go (c s at)
    where
      go : {x : Got A} → Within s at x → Fills {A = A × List ℕ} s at (bind x (λ t s₁ at₁. got (t, s₁) [] (at₁ + length s₁)))
      go (w_got q) = f_got (took_length q)
      go (w_no l m) = f_no l m

  leading_stays : (b n : ℕ) → Stays (read_leading b n f)
  unfolding read_leading
  leading_stays b n s at =
      let k = lead b n s in
      within_more (took_front s at k (lead_short b n s))
      (bind_within (c (drop k s) (at + k)) (λ t r p q.
      pick_within (ltb (at + k) p) (λ e. w_got q) (λ e. no_start (drop k s) (at + k) differs)))

-- every reading stays within the bytes
pub within : (g : Layout) → Stays (read g)
unfolding read
within empty s at = w_got (took_none s at)
within (number o w test k) s at =
    bind_within (number_stays o w s at) (λ n r p q.
    pick_within (passes test n)
    (λ e. within_more q (bind_within (within (k n) r p) (λ t r₂ p₂ q₂. w_got q₂)))
    (λ e. no_start s at (refusal test n)))
within (string o w c) s at = counted_within (counted_view o w s at) (λ xs r p q.
    pick_within (suits c xs) (λ e. w_got q.after) (λ e. no_start s at zero_byte))
within (a ▸ b) s at = bind_within (within a s at) (λ t r p q. within_more q (bind_within (within b r p) (λ u r₂ p₂ q₂. w_got q₂)))
within (times n a) s at = times_stays (read a) (within a) n s at
within (leading b n a) s at = leading_stays (read a) (within a) b n s at
within (region o f a) s at = counted_within (counted_view o 4 s at) (λ xs r p q. filled q (fills (read a) (within a) f xs p))
within nothing s at = no_start s at limit_passed

pub took : {A : Type 0} {s : List ℕ} {at : ℕ} {t : A} {r : List ℕ} {p : ℕ} → Within s at (got t r p) → Took s at r p
took (w_got q) = q

-- the tail of the whole, where s is a tail itself
pub tail : (s : List ℕ) {at : ℕ} {r : List ℕ} {p : ℕ} → Took (drop at s) at r p → r ≡ drop p s
tail s {at} q = q.rest ∙ drop-drop q.n at s ∙ ap (λ (m : ℕ). drop m s) (sym q.place)

-- ---- another start

-- the same with every place moved on by d
unfoldable pub shift : {A : Type 0} → ℕ → Got A → Got A
shift d (got t r p) = got t r (d + p)
shift d (no n p) = no n (d + p)

data Shifted {A : Type 0} (d : ℕ) : Got A → Got A → Type 0 where
  s_got : {t : A} {r : List ℕ} {p q : ℕ} → q ≡ d + p → Shifted d (got t r q) (got t r p)
  s_no : {n p q : ℕ} → q ≡ d + p → Shifted d (no n q) (no n p)

abbrev Shifts : {A : Type 0} → ℕ → (List ℕ → ℕ → Got A) → Type 0
Shifts d f = (s : List ℕ) (at q : ℕ) → q ≡ d + at → Shifted d (f s q) (f s at)

bind_shift : {A B : Type 0} {d : ℕ} {x y : Got A} {f g : A → List ℕ → ℕ → Got B} → Shifted d y x
    → ((t : A) (r : List ℕ) (p q : ℕ) → q ≡ d + p → Shifted d (g t r q) (f t r p)) → Shifted d (bind y g) (bind x f)
unfolding bind
bind_shift (s_got {t} {r} {p} {q} e) h = h t r p q e
bind_shift (s_no e) h = s_no e

pick_shift : {A : Type 0} {d : ℕ} (b : Bool) {x y x' y' : Got A} → Shifted d x' x → Shifted d y' y → Shifted d (pick b x' y') (pick b x y)
unfolding pick
pick_shift true e f = e
pick_shift false e f = f

ltb_shift : (d a b : ℕ) → ltb (d + a) (d + b) ≡ ltb a b
ltb_shift d a b = go (ltb a b) refl
  where
    go : (c : Bool) → ltb a b ≡ c → ltb (d + a) (d + b) ≡ c
    go true e = let h : a < b = ltb-true a b e in lt-ltb (d + a) (d + b) (omega arith)
    go false e = let h : b ≤ a = ltb-false a b e in le-ltb (d + a) (d + b) (omega arith)

module _ (d : ℕ) where
  number_shifts : (o : Order) (w : ℕ) → Shifts d (read_number o w)
  unfolding read_number
  number_shifts o w s at q e = pick_shift (leb w (length s)) (s_got (omega arith)) (s_no e)

  counted_shifts : (o : Order) (w : ℕ) → Shifts d (read_counted o w)
  unfolding read_counted
  counted_shifts o w s at q e =
      bind_shift (number_shifts o w s at q e) (λ n r p p' e'. pick_shift (leb n (length r)) (s_got e') (s_no e))

  module _ {A : Type 0} (f : List ℕ → ℕ → Got A) (c : Shifts d f) where
    times_shifts : (n : ℕ) → Shifts d (read_times f n)
    unfolding read_times
    times_shifts zero s at q e = s_got e
    times_shifts (suc n) s at q e =
        bind_shift (c s at q e) (λ t r p p' e'. bind_shift (times_shifts n r p p' e') (λ ts r₂ p₂ q₂ e₂. s_got e₂))

    ends_shifted : {x y : Got A} → Shifted d y x → Shifted d (ends y) (ends x)
    unfolding ends
    ends_shifted (s_got {r = []} e) = s_got e
    ends_shifted (s_got {r = b ∷ bs} e) = s_no e
    ends_shifted (s_no e) = s_no e

    fill_shifts : (m : Fill) → Shifts d (read_fill m f)
    unfolding read_fill
    fill_shifts exact s at q e = ends_shifted (c s at q e)
    fill_shifts optional [] at q e = s_got e
    fill_shifts optional (b ∷ bs) at q e = bind_shift (ends_shifted (c (b ∷ bs) at q e)) (λ t r p p' e'. s_got e')
    fill_shifts open_ended s at q e = bind_shift (c s at q e) (λ t r p p' e'. s_got (omega arith))

    leading_shifts : (b n : ℕ) → Shifts d (read_leading b n f)
    unfolding read_leading
    leading_shifts b n s at q e =
        let k = lead b n s in
        let e₁ : q + k ≡ d + (at + k) = omega arith in
        bind_shift (c (drop k s) (at + k) (q + k) e₁) (λ t r p p' e'.
        rw (e₁, e', ltb_shift d (at + k) p) (pick_shift (ltb (at + k) p) (s_got refl) (s_no refl)))

shifts : (d : ℕ) (g : Layout) → Shifts d (read g)
unfolding read
shifts d empty s at q e = s_got e
shifts d (number o w test k) s at q e =
    bind_shift (number_shifts d o w s at q e) (λ n r p p' e'.
    pick_shift (passes test n) (bind_shift (shifts d (k n) r p p' e') (λ t r₂ p₂ q₂ e₂. s_got e₂)) (s_no e))
shifts d (string o w c) s at q e =
    bind_shift (counted_shifts d o w s at q e) (λ xs r p p' e'. pick_shift (suits c xs) (s_got (omega arith)) (s_no e))
shifts d (a ▸ b) s at q e =
    bind_shift (shifts d a s at q e) (λ t r p p' e'. bind_shift (shifts d b r p p' e') (λ u r₂ p₂ q₂ e₂. s_got e₂))
shifts d (times n a) s at q e = times_shifts d (read a) (shifts d a) n s at q e
shifts d (leading b n a) s at q e = leading_shifts d (read a) (shifts d a) b n s at q e
shifts d (region o f a) s at q e =
    bind_shift (counted_shifts d o 4 s at q e) (λ xs r p p' e'.
    bind_shift (fill_shifts d (read a) (shifts d a) f xs p p' e') (λ t x p₂ q₂ e₂. s_got e₂))
shifts d nothing s at q e = s_no e

is_shift : {A : Type 0} {d : ℕ} {x y : Got A} → Shifted d y x → y ≡ shift d x
unfolding shift
is_shift (s_got {t} {r} e) = ap (got t r) e
is_shift (s_no {n} e) = ap (no n) e

pub read_shifts : (d : ℕ) (g : Layout) (s : List ℕ) (at : ℕ) → read g s (d + at) ≡ shift d (read g s at)
read_shifts d g s at = is_shift (shifts d g s at (d + at) refl)
