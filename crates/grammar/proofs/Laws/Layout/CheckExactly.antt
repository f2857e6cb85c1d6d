-- A reading by a rule gives exactly the valid trees that pass, and is refused exactly where the bytes break the rule.
use Rattle.std.specs.Prelude.{◌≡◌, ◌↔◌}
use Rattle.std.proofs.Math.Path.{refl, ap}
use Rattle.std.proofs.Common.{sym, ◌∙◌, subst}
use Rattle.std.proofs.Math.Option.{Option, none, some}
use mathlib.Core.List.{List, [], ◌∷◌, ◌++◌, append_assoc}
use Prim.Native.Nat.{ℕ, zero, suc, ◌+◌, ◌<◌}
use native.Mathlib.Omega.{arith}
use Rattle.std.proofs.Math.ListN.{length, length-append}
use Rattle.sizes.specs.Basics.{pick}
use Rattle.grammar.specs.Layout.{Order, Test, passes, Layout, empty, number, times, Tree, digits, spell_all, spell, Bytes, All, all_none, all_more, Valid}
use Rattle.grammar.specs.Fails.{Spells, SpellsAll, Fails, number_short, number_wrong, number_then}
use Rattle.grammar.specs.Rule.{Rule, plain, ◌▸▸◌, numbered, items, asked, tested, onto, KeptAll, Kept, Breaks, fails, first, second, in_number, after_number, item, not_so, is_so, before_test, wrong}
use Rattle.grammar.specs.Laws.Layout.Read.{Got, no, bind, read_number, read, refusal}
use Rattle.grammar.specs.Laws.Layout.Check.{check_times, judge, check}
use Rattle.grammar.specs.Laws.Layout.IfNo.{IfNo, if_got, if_no, bind_no, bind_only, last_no, pick_no, of_no, so_no}
use Rattle.grammar.specs.Laws.Layout.Digits.{length_digits}
use Rattle.grammar.specs.Laws.Layout.Complete.{Complete}
use Rattle.grammar.specs.Laws.Layout.Sound.{Spelt, cut, number_sound}
use Rattle.grammar.specs.Laws.Layout.FailsExactly.{number_no, begun, number_few, begins_read, refused, IsGot}
use Rattle.grammar.proofs.Laws.Layout.FailsExactly.{fails_at}
use Rattle.grammar.specs.Laws.Layout.CheckExactly.{check_sound, check_complete, spelt, spells_check}

module _ {A : Type 0} (f : List A → List ℕ → ℕ → Got A) (sp : A → List ℕ) (P : A → Type 0) (K : List A → A → Type 0)
    (c : (done : List A) → Complete (f done) sp (λ t. P t × K done t)) where
  -- ts, and then one that is refused
  all_broken : {ts : List A} → All P ts → (done : List A) → KeptAll K done ts → (n : ℕ) → length ts < n → (r : List ℕ) (at m p : ℕ)
      → f (onto done ts) r (at + length (spell_all sp ts)) ≡ no m p → check_times f done n (spell_all sp ts ++ r) at ≡ no m p
  unfolding check_times spell_all
  all_broken all_none done k zero l r at m p e = absurd (omega arith)
  all_broken all_none done k (suc n) l r at m p e =
      let e' : f done r at ≡ no m p = ap (f done r) (omega arith) ∙ e in rw e'
  all_broken (all_more h hs) done k zero l r at m p e = absurd (omega arith)
  all_broken (all_more {x} {xs} h hs) done k (suc n) l r at m p e =
      let q : at + length (sp x) + length (spell_all sp xs) ≡ at + length (sp x ++ spell_all sp xs) = rw length-append (omega arith) in
      let rest : check_times f (x ∷ done) n (spell_all sp xs ++ r) (at + length (sp x)) ≡ no m p =
      all_broken hs (x ∷ done) k.1 n (omega arith) r (at + length (sp x)) m p (ap (f (onto (x ∷ done) xs) r) q ∙ e) in
      rw (append_assoc, c done x (h, k.0) (spell_all sp xs ++ r) at, rest)

moved : {g : Layout} {u : Rule g} {s : List ℕ} {at at' n p : ℕ} → at ≡ at' → Breaks g u s at n p → Breaks g u s at' n p
moved {g} {u} {s} {n = n} {p = p} e f = subst (λ (k : ℕ). Breaks g u s k n p) e f

-- some that pass after those that are done, and then one
data ItemBreaks (a : Layout) (k : List (Tree a) → Rule a) (m : ℕ) (done : List (Tree a)) (s : List ℕ) (at : ℕ) : ℕ → ℕ → Type 0 where
  one : {ts : List (Tree a)} {r : List ℕ} {n p : ℕ} → SpellsAll a s ts r → KeptAll (λ done t. Kept (k done) t) done ts → length ts < m
      → Breaks a (k (onto done ts)) r (at + length (spell_all (spell a) ts)) n p → ItemBreaks a k m done s at n p

more : {m : ℕ} {a : Layout} {k : List (Tree a) → Rule a} {done : List (Tree a)} {s : List ℕ} {at : ℕ} {t : Tree a} {s₁ : List ℕ} {at₁ n p : ℕ}
    → Spelt (spell a) (λ t. Valid a t × Kept (k done) t) s at t s₁ at₁ → ItemBreaks a k m (t ∷ done) s₁ at₁ n p → ItemBreaks a k (suc m) done s at n p
unfolding spell_all
more {m} {a} {k} {done} {s} {at} {t} {s₁} {at₁} q (one {ts = ts} {r = r} v c l f) =
    let split : s ≡ spell a t ++ spell_all (spell a) ts ++ r = q.split ∙ rw (v.split, append_assoc) in
    let place : at₁ + length (spell_all (spell a) ts) ≡ at + length (spell a t ++ spell_all (spell a) ts) = rw (q.place, length-append) (omega arith) in
    one {ts = t ∷ ts} record { valid = all_more q.valid.0 v.valid; split = split } (q.valid.1, c) (omega arith) (moved place f)

module _ (a : Layout) (k : List (Tree a) → Rule a) (c : (done : List (Tree a)) (s : List ℕ) → Bytes s → (at : ℕ) → IfNo (Breaks a (k done) s at) (check (k done) s at)) where
  times_no : (m : ℕ) (done : List (Tree a)) (s : List ℕ) → Bytes s → (at : ℕ) → IfNo (ItemBreaks a k m done s at) (check_times (λ done s₁ at₁. check (k done) s₁ at₁) done m s at)
  unfolding check_times spell_all
  times_no zero done s h at = if_got
  times_no (suc m) done s h at =
      bind_no (check_sound (k done) s h at) (c done s h at)
      (λ n p f. one {ts = []} record { valid = all_none; split = refl } tt (omega arith) (moved (omega arith) f))
      (λ t s₁ at₁ q. last_no (times_no m (t ∷ done) s₁ (cut (spell a t) q.split h).1 at₁) (λ n p f. more q f) (λ ts s₂ at₂. if_got))

to_item : {m : ℕ} {a : Layout} {k : List (Tree a) → Rule a} {s : List ℕ} {at n p : ℕ} → ItemBreaks a k m [] s at n p → Breaks (times m a) (items k) s at n p
to_item (one v c l f) = item v c l f

judge_no : {A : Type 0} {R : ℕ → ℕ → Type 0} (n start : ℕ) (o : Option ℕ) (t : A) (r : List ℕ) (p : ℕ) → ((q : ℕ) → o ≡ some q → R n (start + q)) → IfNo R (judge n start o t r p)
unfolding judge
judge_no n start none t r p f = if_got
judge_no n start (some q) t r p f = if_no (f q refl)

pub breaks_at : {g : Layout} (u : Rule g) (s : List ℕ) → Bytes s → (at : ℕ) → IfNo (Breaks g u s at) (check u s at)
unfolding check
breaks_at (plain g) s h at = so_no (λ n p f. fails f) (fails_at g s h at)
breaks_at (◌▸▸◌ {a} {b} u k) s h at =
    bind_no (check_sound u s h at) (breaks_at u s h at) (λ n p f. first f) (λ t s₁ at₁ q.
    last_no (breaks_at (k t) s₁ (cut (spell a t) q.split h).1 at₁) (λ n p f. second (spelt q) q.valid.1 (moved q.place f)) (λ v s₂ at₂. if_got))
breaks_at (numbered {o} {w} {test} k) s h at =
    bind_only (number_sound o w s h at) (number_no o w s at) (λ l. in_number (number_short l)) (λ n s₁ at₁ q.
    pick_no (passes test n)
    (λ e. last_no (breaks_at (k n) s₁ (cut (digits o w n) q.split h).1 at₁)
    (λ m p f. after_number (begun q) e (moved (rw length_digits at q.place) f))
    (λ t s₂ at₂. if_got))
    (λ e. if_no (in_number (number_wrong (begun q) e))))
breaks_at (items {n} {a} k) s h at = so_no (λ m p f. to_item f) (times_no a k (λ done s₁ h₁ at₁. breaks_at (k done) s₁ h₁ at₁) n [] s h at)
breaks_at (asked b n back u) s h at = pick_no b (λ e. so_no (λ m p f. is_so e f) (breaks_at u s h at)) (λ e. if_no (not_so e))
breaks_at (tested u n v) s h at =
    bind_no (check_sound u s h at) (breaks_at u s h at) (λ m p f. before_test f) (λ t s₁ at₁ q.
    judge_no n at (v t) t s₁ at₁ (λ x e. wrong (spelt q) q.valid.1 e))

no_empty : {s : List ℕ} {at n p : ℕ} → Fails empty s at n p → ⊥
unfolding read
no_empty f = subst IsGot (refused f) tt

-- a number alone
alone : (o : Order) (w : ℕ) (test : Test) (s : List ℕ) (at : ℕ) {B : Type 0} (f : ℕ → List ℕ → ℕ → Got B) (n p : ℕ)
    → Fails (number o w test (λ _. empty)) s at n p → bind (read_number o w s at) (λ m s₁ at₁. pick (passes test m) (f m s₁ at₁) (no (refusal test m) at)) ≡ no n p
unfolding bind pick
alone o w test s at f n p (number_short l) = rw (number_few o w s at l)
alone o w test s at f n p (number_wrong v e) = rw (begins_read v at, e)
alone o w test s at f n p (number_then v e g) = absurd (no_empty g)

pub broken : {g : Layout} {u : Rule g} {s : List ℕ} {at n p : ℕ} → Breaks g u s at n p → check u s at ≡ no n p
unfolding check judge
broken (fails f) = refused f
broken (first f) = rw (broken f)
broken (second {u = u} {at = at} v c f) = rw (spells_check u v c at, broken f)
broken (in_number {o} {w} {test} {l} {k} {s} {at} {n} {p} f) = alone o w test s at _ n p f
broken (after_number {at = at} v e f) = rw (begins_read v at, e, broken f)
broken (item {m} {a} {k} {s} {at} {ts} {r} {n} {p} v c l f) =
    rw v.split (all_broken (λ done s₁ at₁. check (k done) s₁ at₁) (spell a) (Valid a) (λ done t. Kept (k done) t) (λ done t h₁ r₁ at₁. check_complete (k done) t h₁ r₁ at₁)
    v.valid [] c m l r at n p (broken f))
broken (not_so e) = rw e
broken (is_so e f) = rw e (broken f)
broken (before_test f) = rw (broken f)
broken (wrong {u = u} {at = at} v c e) = rw (spells_check u v c at, e)

pub breaks_exactly : {g : Layout} (u : Rule g) (s : List ℕ) → Bytes s → (at n p : ℕ) → (check u s at ≡ no n p) ↔ Breaks g u s at n p
breaks_exactly {g} u s h at n p = (λ e. of_no (subst (IfNo (Breaks g u s at)) e (breaks_at u s h at)), broken)

-- what breaks a rule has no tree in front that passes
pub not_kept : {g : Layout} {u : Rule g} {s : List ℕ} {at n p : ℕ} {t : Tree g} {r : List ℕ} → Breaks g u s at n p → Spells g s t r → Kept u t → ⊥
not_kept {u = u} {at = at} f v c = subst IsGot (sym (spells_check u v c at) ∙ broken f) tt

-- one number, at one place
pub one_break : {g : Layout} {u : Rule g} {s : List ℕ} {at n p n' p' : ℕ} → Breaks g u s at n p → Breaks g u s at n' p' → (n ≡ n') × (p ≡ p')
one_break {g} {u} {s} {at} {n} {p} {n'} {p'} f f' =
    let e : check u s at ≡ no n p = broken f in
    let e' : check u s at ≡ no n' p' = broken f' in
    (cc, cc)
