-- What is read is a valid tree, and the tree spells what was read.
use Rattle.std.specs.Prelude.{◌≡◌, take, drop, leb, ltb}
use Rattle.std.proofs.Math.Path.{refl, ap}
use Rattle.std.proofs.Common.{sym, ◌∙◌, subst, take-append-drop, length-take-le, leb-true, ltb-true}
use mathlib.Core.List.{List, [], ◌∷◌, ◌++◌, append-nil, append_assoc}
use Prim.Native.Nat.{ℕ, zero, suc, ◌+◌, ◌^◌, ◌≤◌, ◌<◌}
use native.Mathlib.Omega.{arith}
use Rattle.std.proofs.Math.ListN.{length, replicate, length-append, length-replicate, get_or-append}
use Rattle.grammar.specs.Layout.{Order, Fill, exact, optional, open_ended, Layout, empty, number, string, ◌▸◌, times, leading, region, nothing, Tree, digits, spell_all, spell_fill, spell, passes, Bytes, no_bytes, byte, All, all_none, all_more, Leads, ValidFill, Valid, undigits, suits}
use Rattle.grammar.specs.Laws.Layout.Read.{Got, got, no, read_number, read_counted, read_times, lead, read_leading, ends, read_fill, read}
use Rattle.grammar.specs.Laws.Layout.Lead.{Run, run_lead}
use Rattle.grammar.specs.Laws.Layout.IfGot.{IfGot, is_got, is_no, bind_got, pick_got, of_got}
use Rattle.grammar.specs.Laws.Layout.Digits.{length_digits, digits_undigits, undigits_lt}

-- the tree t was read from s at the place `at`: r is left, at the place p
pub record Spelt {A : Type 0} (sp : A → List ℕ) (P : A → Type 0) (s : List ℕ) (at : ℕ) (t : A) (r : List ℕ) (p : ℕ) : Type 0 where
  pub valid : P t
  pub split : s ≡ sp t ++ r
  pub place : p ≡ at + length (sp t)

abbrev pub Sound : {A : Type 0} → (List ℕ → ℕ → Got A) → (A → List ℕ) → (A → Type 0) → Type 0
Sound f sp P = (s : List ℕ) → Bytes s → (at : ℕ) → IfGot (Spelt sp P s at) (f s at)

bytes_append : (xs : List ℕ) {ys : List ℕ} → Bytes (xs ++ ys) → Bytes xs × Bytes ys
bytes_append [] h = (no_bytes, h)
bytes_append (x ∷ xs) (byte h hs) = (byte h (bytes_append xs hs).0, (bytes_append xs hs).1)

pub cut : (xs : List ℕ) {s ys : List ℕ} → s ≡ xs ++ ys → Bytes s → Bytes xs × Bytes ys
cut xs e h = bytes_append xs (subst Bytes e h)

pub number_sound : (o : Order) (w : ℕ) → Sound (read_number o w) (digits o w) (λ n. n < 256 ^ w)
unfolding read_number
number_sound o w s h at = pick_got (leb w (length s)) (λ e. is_got (fits (leb-true w (length s) e))) (λ e. is_no)
  where
    fits : w ≤ length s → Spelt (digits o w) (λ n. n < 256 ^ w) s at (undigits o (take w s)) (drop w s) (at + w)
    fits l =
        let front : length (take w s) ≡ w = length-take-le w s l in
        let bytes : Bytes (take w s) = (cut (take w s) (sym (take-append-drop w s)) h).0 in
        record {
          valid = undigits_lt o w (take w s) bytes front;
          split = rw (digits_undigits o w (take w s) bytes front) (sym (take-append-drop w s));
          place = rw length_digits;
        }

-- the count is that of the bytes given, which are where it says
pub record Counted (o : Order) (w : ℕ) (s : List ℕ) (at : ℕ) (xs r : List ℕ) (p : ℕ) : Type 0 where
  pub short : length xs < 256 ^ w
  pub bytes : Bytes xs
  pub split : s ≡ digits o w (length xs) ++ xs ++ r
  pub place : p ≡ at + w

pub counted_sound : (o : Order) (w : ℕ) (s : List ℕ) → Bytes s → (at : ℕ) → IfGot (Counted o w s at) (read_counted o w s at)
unfolding read_counted
counted_sound o w s h at =
    bind_got (number_sound o w s h at) (λ n r p q. pick_got (leb n (length r)) (λ e. is_got (fits n r p q (leb-true n (length r) e))) (λ e. is_no))
  where
    fits : (n : ℕ) (r : List ℕ) (p : ℕ) → Spelt (digits o w) (λ n. n < 256 ^ w) s at n r p → n ≤ length r → Counted o w s at (take n r) (drop n r) p
    fits n r p q l =
        let e : length (take n r) ≡ n = length-take-le n r l in
        record {
          short = rw e q.valid;
          bytes = (cut (take n r) (sym (take-append-drop n r)) (cut (digits o w n) q.split h).1).0;
          split = rw (e, append_assoc, take-append-drop) q.split;
          place = rw length_digits at q.place;
        }

-- one tree after the other, as a tree that spells the two
pub after : {A B C : Type 0} {f : A → List ℕ} {P : A → Type 0} {g : B → List ℕ} {Q : B → Type 0} (h : C → List ℕ) {R : C → Type 0}
    {s : List ℕ} {at : ℕ} {t : A} {s₁ : List ℕ} {at₁ : ℕ} {u : B} {s₂ : List ℕ} {at₂ : ℕ} (v : C)
    → Spelt f P s at t s₁ at₁ → Spelt g Q s₁ at₁ u s₂ at₂ → h v ≡ f t ++ g u → R v → Spelt h R s at v s₂ at₂
after h v p q e r =
    record {
      valid = r;
      split = p.split ∙ rw (q.split, e, append_assoc);
      place = rw (e, length-append) (omega arith);
    }

-- a count and what it announces, as a tree that spells the two
announced : {C : Type 0} (h : C → List ℕ) {R : C → Type 0} {o : Order} {w : ℕ} {s : List ℕ} {at : ℕ} {xs r : List ℕ} {p p' : ℕ} (v : C)
    → Counted o w s at xs r p → h v ≡ digits o w (length xs) ++ xs → p' ≡ p + length xs → R v → Spelt h R s at v r p'
announced h v q e l x =
    record {
      valid = x;
      split = rw e q.split;
      place = rw (e, length-append, length_digits) (omega arith);
    }

-- ---- every layout

module _ {A : Type 0} (f : List ℕ → ℕ → Got A) (sp : A → List ℕ) (P : A → Type 0) (c : Sound f sp P) where
  times_sound : (n : ℕ) → Sound (read_times f n) (spell_all sp) (λ ts. (length ts ≡ n) × All P ts)
  unfolding read_times spell_all
  times_sound zero s h at = is_got {p = at} record { valid = (refl, all_none); split = refl; place = omega arith }
  times_sound (suc n) s h at =
      bind_got (c s h at) (λ t s₁ at₁ q.
      bind_got (times_sound n s₁ (cut (sp t) q.split h).1 at₁) (λ ts s₂ at₂ q'.
      is_got (after (spell_all sp) (t ∷ ts) q q' refl (ap suc q'.valid.0, all_more q.valid q'.valid.1))))

  ends_sound : (s : List ℕ) → Bytes s → (at : ℕ) → IfGot (λ t r p. P t × (s ≡ sp t) × (p ≡ at + length s)) (ends (f s at))
  unfolding ends
  ends_sound s h at = go (f s at) (c s h at)
    where
      go : (x : Got A) → IfGot (Spelt sp P s at) x → IfGot (λ t r p. P t × (s ≡ sp t) × (p ≡ at + length s)) (ends x)
      go (no n p) q = is_no
      go (got t [] p) (is_got q) = let e : s ≡ sp t = q.split ∙ append-nil (sp t) in is_got {p = p} (q.valid, e, rw e q.place)
      go (got t (b ∷ bs) p) q = is_no

  fill_sound : (m : Fill) (s : List ℕ) → Bytes s → (at : ℕ)
      → IfGot (λ t r p. ValidFill m P sp t × (s ≡ spell_fill m sp t) × (p ≡ at + length s)) (read_fill m f s at)
  unfolding read_fill spell_fill
  fill_sound exact s h at = ends_sound s h at
  fill_sound optional [] h at = is_got {p = at} (tt, refl, omega arith)
  fill_sound optional (b ∷ bs) h at =
      bind_got (ends_sound (b ∷ bs) h at) (λ t r p q. is_got ((q.0, omega (arith, ap length q.1)), q.1, q.2))
  fill_sound open_ended s h at =
      bind_got (c s h at) (λ t r p q.
      is_got ((q.valid, (cut (sp t) q.split h).1), q.split, omega (arith, simp length-append at (ap length q.split))))

  leading_sound : (b n : ℕ) → Sound (read_leading b n f) (λ t. replicate t.0 b ++ sp t.1) (λ t. Leads b n t.0 (sp t.1) × P t.1)
  unfolding read_leading
  leading_sound b n s h at =
      let k = lead b n s in
      let run = run_lead b n s in
      bind_got (c (drop k s) (cut (replicate k b) run.split h).1 (at + k)) (λ t s₁ at₁ q.
      pick_got (ltb (at + k) at₁)
      (λ l. is_got (after _ (k, t) (front k run) q refl (leads t s₁ at₁ q (ltb-true (at + k) at₁ l), q.valid)))
      (λ l. is_no))
    where
      front : (k : ℕ) → Run b n s k → Spelt (λ k. replicate k b) (λ k. Unit {0}) s at k (drop k s) (at + k)
      front k run = record { valid = tt; split = run.split; place = rw length-replicate }

      leads : (t : A) (s₁ : List ℕ) (at₁ : ℕ) → Spelt sp P (drop (lead b n s) s) (at + lead b n s) t s₁ at₁ → at + lead b n s < at₁
          → Leads b n (lead b n s) (sp t)
      leads t s₁ at₁ q l =
          let run = run_lead b n s in
          let some : 0 < length (sp t) = omega (arith, q.place) in
          record {
            short = run.short;
            some_byte = some;
            other = λ m e. run.other m (rw (q.split, length-append) (omega arith)) (rw q.split (get_or-append (sp t) s₁ 0 0 some ∙ e));
          }

pub sound_at : (g : Layout) → Sound (read g) (spell g) (Valid g)
unfolding read spell
sound_at empty s h at = is_got {p = at} record { valid = tt; split = refl; place = omega arith }
sound_at (number o w test k) s h at =
    bind_got (number_sound o w s h at) (λ n s₁ at₁ q.
    pick_got (passes test n)
    (λ e. bind_got (sound_at (k n) s₁ (cut (digits o w n) q.split h).1 at₁) (λ t s₂ at₂ q'.
    is_got (after _ (n, t) q q' refl (q.valid, e, q'.valid))))
    (λ e. is_no))
sound_at (string o w c) s h at =
    bind_got (counted_sound o w s h at) (λ xs r p q.
    pick_got (suits c xs) (λ e. is_got (announced _ xs q refl refl (q.short, q.bytes, e))) (λ e. is_no))
sound_at (a ▸ b) s h at =
    bind_got (sound_at a s h at) (λ t s₁ at₁ q.
    bind_got (sound_at b s₁ (cut (spell a t) q.split h).1 at₁) (λ u s₂ at₂ q'.
    is_got (after _ (t, u) q q' refl (q.valid, q'.valid))))
sound_at (times n a) s h at = times_sound (read a) (spell a) (Valid a) (sound_at a) n s h at
sound_at (leading b n a) s h at = leading_sound (read a) (spell a) (Valid a) (sound_at a) b n s h at
sound_at (region o f a) s h at =
    bind_got (counted_sound o 4 s h at) (λ xs r p q.
    bind_got (fill_sound (read a) (spell a) (Valid a) (sound_at a) f xs q.bytes p) (λ t x p' q'.
    is_got (announced _ t q (rw (← q'.1)) q'.2 (rw (← q'.1) q.short, q'.0))))
sound_at nothing s h at = is_no

pub sound : (g : Layout) (s : List ℕ) → Bytes s → (at : ℕ) (t : Tree g) (r : List ℕ) (p : ℕ) → read g s at ≡ got t r p
    → Spelt (spell g) (Valid g) s at t r p
sound g s h at t r p e = of_got (subst (IfGot (Spelt (spell g) (Valid g) s at)) e (sound_at g s h at))
