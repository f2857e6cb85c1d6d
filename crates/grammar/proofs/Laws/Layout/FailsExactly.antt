-- A reading is refused exactly where the bytes fail, with that number and that place.
use Rattle.std.specs.Prelude.{◌≡◌, refl, ◌↔◌, ◌⊎◌, ℕ, zero, suc, ◌+◌, ◌≤◌, length, drop, replicate, leb, ltb}
use Rattle.std.proofs.Common.{sym, ap, ◌∙◌, subst, inl, inr, arith, length-append, leb-false, ltb-false}
use mathlib.Core.List.{List, [], ◌∷◌, ◌++◌, append_assoc}
use Rattle.grammar.specs.Layout.{Order, Fill, exact, optional, open_ended, Layout, empty, number, string, ◌▸◌, times, leading, region, nothing, Tree, digits, spell_all, spell, passes, Bytes, all_none, all_more, Valid, suits}
use Rattle.grammar.specs.Numbers.{too_short, ends_early}
use Rattle.grammar.specs.Fails.{Spells, Holds, Unfit, no_count, no_room, Looked, Closed, Fails, number_short, number_wrong, number_then, string_short, string_wrong, first, second, item, after_run, run_alone, region_short, content, bytes_left, too_deep}
use Rattle.grammar.specs.Laws.Layout.Read.{Got, no, read_counted, read_times, lead, read_leading, ends, read_fill, read}
use Rattle.grammar.specs.Laws.Layout.IfGot.{IfGot, is_got, is_no}
use Rattle.grammar.specs.Laws.Layout.IfNo.{IfNo, if_got, if_no, Only, only, bind_no, bind_only, last_no, pick_no, of_no}
use Rattle.grammar.specs.Laws.Layout.Lead.{run_lead}
use Rattle.grammar.specs.Laws.Layout.Digits.{length_digits}
use Rattle.grammar.specs.Laws.Layout.Places.{Within, w_no, within, shift, read_shifts}
use Rattle.grammar.specs.Laws.Layout.Sound.{Spelt, Counted, cut, number_sound, counted_sound, sound_at}
use Rattle.grammar.specs.Laws.Layout.FailsExactly.{moved, number_no, begun, runs, spells_read, refused, IsGot}

counted_no : (o : Order) (w : ℕ) (s : List ℕ) → Bytes s → (at : ℕ) → IfNo (Only (Unfit o w s) too_short at) (read_counted o w s at)
unfolding read_counted
counted_no o w s h at =
    bind_only (number_sound o w s h at) (number_no o w s at) (λ l. only (no_count l)) (λ n r p q.
    pick_no (leb n (length r)) (λ e. if_got) (λ e. if_no (only (no_room (begun q) (leb-false n (length r) e)))))

held : {o : Order} {w : ℕ} {s : List ℕ} {at : ℕ} {xs r : List ℕ} {p : ℕ} → Counted o w s at xs r p → Holds o w s xs
held {r = r} q = record { rest = r; small = q.short; split = q.split }

spelt : {g : Layout} {s : List ℕ} {at : ℕ} {t : Tree g} {r : List ℕ} {p : ℕ} → Spelt (spell g) (Valid g) s at t r p → Spells g s t r
spelt q = record { valid = q.valid; split = q.split }

-- what is known of a layout that stands in another
abbrev Refuses : Layout → Type 0
Refuses a = (s : List ℕ) → Bytes s → (at : ℕ) → IfNo (Fails a s at) (read a s at)

-- one more before those that are there
more : {n : ℕ} {a : Layout} {s : List ℕ} {at : ℕ} {t : Tree a} {s₁ : List ℕ} {at₁ m p : ℕ}
    → Spelt (spell a) (Valid a) s at t s₁ at₁ → Fails (times n a) s₁ at₁ m p → Fails (times (suc n) a) s at m p
unfolding spell_all
more {n} {a} {s} {at} {t} {s₁} {at₁} q (item {ts = ts} {r = r} v l f) =
    let split : s ≡ spell a t ++ spell_all (spell a) ts ++ r = q.split ∙ rw (v.split, append_assoc) in
    let place : at₁ + length (spell_all (spell a) ts) ≡ at + length (spell a t ++ spell_all (spell a) ts) = rw (q.place, length-append) (omega arith) in
    item {n = suc n} {a = a} {ts = t ∷ ts} record { valid = all_more q.valid v.valid; split = split } (omega arith) (moved place f)

times_no : (a : Layout) → Refuses a → (n : ℕ) (s : List ℕ) → Bytes s → (at : ℕ) → IfNo (Fails (times n a) s at) (read_times (read a) n s at)
unfolding read read_times spell_all
times_no a c zero s h at = if_got
times_no a c (suc n) s h at =
    bind_no (sound_at a s h at) (c s h at)
    (λ m p f. item {ts = []} record { valid = all_none; split = refl } (omega arith) (moved (omega arith) f))
    (λ t s₁ at₁ q. last_no (times_no a c n s₁ (cut (spell a t) q.split h).1 at₁) (λ m p f. more q f) (λ ts s₂ at₂. if_got))

module _ {o : Order} {a : Layout} {s : List ℕ} {at : ℕ} where
  ends_no : {f : Fill} {xs : List ℕ} {x : Got (Tree a)} → Holds o 4 s xs → Looked f xs → Closed f → IfGot (Spelt (spell a) (Valid a) xs (at + 4)) x → IfNo (Fails a xs (at + 4)) x
      → IfNo (Fails (region o f a) s at) (ends x)
  unfolding ends
  ends_no v l c (is_got {r = []} q) h = if_got
  ends_no v l c (is_got {r = b ∷ bs} {p = p} q) h = if_no {n = ends_early} {p = p} (rw q.place (bytes_left v l c (spelt q)))
  ends_no v l c is_no (if_no h) = if_no (content v l h)

  fill_no : (f : Fill) (xs : List ℕ) → Holds o 4 s xs → IfGot (Spelt (spell a) (Valid a) xs (at + 4)) (read a xs (at + 4)) → IfNo (Fails a xs (at + 4)) (read a xs (at + 4))
      → IfNo (Fails (region o f a) s at) (read_fill f (read a) xs (at + 4))
  unfolding read_fill
  fill_no exact xs v h k = ends_no v tt tt h k
  fill_no optional [] v h k = if_got
  fill_no optional (b ∷ bs) v h k = last_no (ends_no v (omega arith) tt h k) (λ m p f. f) (λ t r p. if_got)
  fill_no open_ended xs v h k = last_no k (λ m p f. content v tt f) (λ t r p. if_got)

leading_no : (a : Layout) → Refuses a → (b n : ℕ) (s : List ℕ) → Bytes s → (at : ℕ) → IfNo (Fails (leading b n a) s at) (read_leading b n (read a) s at)
unfolding read_leading
leading_no a c b n s h at =
    let k = lead b n s in
    let run = run_lead b n s in
    let h₁ = (cut (replicate k b) run.split h).1 in
    bind_no (sound_at a (drop k s) h₁ (at + k)) (c (drop k s) h₁ (at + k)) (λ m p f. after_run (runs run) f) (λ t s₁ at₁ q.
    pick_no (ltb (at + k) at₁)
    (λ e. if_got)
    (λ e. if_no (run_alone (runs run) (spelt q) (none k t s₁ at₁ q (ltb-false (at + k) at₁ e)))))
  where
    none : (k : ℕ) (t : Tree a) (s₁ : List ℕ) (at₁ : ℕ) → Spelt (spell a) (Valid a) (drop k s) (at + k) t s₁ at₁ → at₁ ≤ at + k → length (spell a t) ≡ 0
    none k t s₁ at₁ q l = omega (arith, q.place)

pub fails_at : (g : Layout) (s : List ℕ) → Bytes s → (at : ℕ) → IfNo (Fails g s at) (read g s at)
unfolding read
fails_at empty s h at = if_got
fails_at (number o w test k) s h at =
    bind_only (number_sound o w s h at) (number_no o w s at) number_short (λ n s₁ at₁ q.
    pick_no (passes test n)
    (λ e. last_no (fails_at (k n) s₁ (cut (digits o w n) q.split h).1 at₁)
    (λ m p f. number_then (begun q) e (moved (rw length_digits at q.place) f))
    (λ t s₂ at₂. if_got))
    (λ e. if_no (number_wrong (begun q) e)))
fails_at (string o w c) s h at =
    bind_only (counted_sound o w s h at) (counted_no o w s h at) string_short (λ xs r p q.
    pick_no (suits c xs) (λ e. if_got) (λ e. if_no (string_wrong (held q) e)))
fails_at (a ▸ b) s h at =
    bind_no (sound_at a s h at) (fails_at a s h at) (λ n p f. first f) (λ t s₁ at₁ q.
    last_no (fails_at b s₁ (cut (spell a t) q.split h).1 at₁) (λ m p f. second (spelt q) (moved q.place f)) (λ u s₂ at₂. if_got))
fails_at (times n a) s h at = times_no a (fails_at a) n s h at
fails_at (leading b n a) s h at = leading_no a (fails_at a) b n s h at
fails_at (region o f a) s h at =
    bind_only (counted_sound o 4 s h at) (counted_no o 4 s h at) region_short (λ xs r p q.
    rw q.place (last_no (fill_no f xs (held q) (sound_at a xs q.bytes (at + 4)) (fails_at a xs q.bytes (at + 4))) (λ m p f. f) (λ t s₂ at₂. if_got)))
fails_at nothing s h at = if_no too_deep

pub fails_exactly : (g : Layout) (s : List ℕ) → Bytes s → (at n p : ℕ) → (read g s at ≡ no n p) ↔ Fails g s at n p
fails_exactly g s h at n p = (λ e. of_no (subst (IfNo (Fails g s at)) e (fails_at g s h at)), refused)

-- what fails has no derivation in front
pub not_both : {g : Layout} {s : List ℕ} {at n p : ℕ} {t : Tree g} {r : List ℕ} → Fails g s at n p → Spells g s t r → ⊥
not_both {at = at} f v = subst IsGot (sym (spells_read v at) ∙ refused f) tt

-- one number, at one place
pub one_refusal : {g : Layout} {s : List ℕ} {at n p n' p' : ℕ} → Fails g s at n p → Fails g s at n' p' → (n ≡ n') × (p ≡ p')
one_refusal {g} {s} {at} {n} {p} {n'} {p'} f f' =
    let e : read g s at ≡ no n p = refused f in
    let e' : read g s at ≡ no n' p' = refused f' in
    (cc, cc)

inside : {A : Type 0} {s : List ℕ} {at n p : ℕ} → Within {A = A} s at (no n p) → (at ≤ p) × (p ≤ at + length s)
inside (w_no l m) = (l, m)

-- the place is in the bytes, or right after the last
pub place_inside : {g : Layout} {s : List ℕ} {at n p : ℕ} → Fails g s at n p → (at ≤ p) × (p ≤ at + length s)
place_inside {g} {s} {at} f = inside (subst (Within s at) (refused f) (within g s at))

-- the same bytes from another place on
pub fails_shifted : (d : ℕ) {g : Layout} {s : List ℕ} {at n p : ℕ} → Bytes s → Fails g s at n p → Fails g s (d + at) n (d + p)
unfolding shift
fails_shifted d {g} {s} {at} {n} {p} h f = (fails_exactly g s h (d + at) n (d + p)).0 (read_shifts d g s at ∙ ap (shift d) (refused f))

-- bytes either have a derivation in front or fail
pub front_or_fails : (g : Layout) (s : List ℕ) → Bytes s → (at : ℕ)
    → ((t : Tree g) × (r : List ℕ) × Spells g s t r) ⊎ ((n : ℕ) × (p : ℕ) × Fails g s at n p)
front_or_fails g s h at = go (sound_at g s h at) (fails_at g s h at)
  where
    go : {x : Got (Tree g)} → IfGot (Spelt (spell g) (Valid g) s at) x → IfNo (Fails g s at) x
        → ((t : Tree g) × (r : List ℕ) × Spells g s t r) ⊎ ((n : ℕ) × (p : ℕ) × Fails g s at n p)
    go (is_got {t} {r} {p} q) k = inl (t, r, spelt q)
    go is_no (if_no {n} {p} f) = inr (n, p, f)
