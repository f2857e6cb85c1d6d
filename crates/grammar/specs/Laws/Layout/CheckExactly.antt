-- A reading by a rule gives exactly the valid trees that pass, and is refused exactly where the bytes break the rule.
use Rattle.std.specs.Prelude.{◌≡◌, ◌↔◌}
use Rattle.std.proofs.Math.Path.{refl, ap}
use Rattle.std.proofs.Common.{sym, ◌∙◌, subst}
use Rattle.std.proofs.Math.Option.{Option, none, some}
use mathlib.Core.List.{List, [], ◌∷◌, ◌++◌, append_assoc}
use Prim.Native.Nat.{ℕ, zero, suc, ◌+◌}
use native.Mathlib.Omega.{arith}
use Rattle.std.proofs.Math.ListN.{length, length-append}
use Rattle.grammar.specs.Layout.{passes, Layout, Tree, digits, spell_all, spell, Bytes, All, all_none, all_more, Valid}
use Rattle.grammar.specs.Fails.{Spells}
use Rattle.grammar.specs.Rule.{Rule, plain, ◌▸▸◌, numbered, items, asked, tested, KeptAll, Kept}
use Rattle.grammar.specs.Laws.Layout.Read.{Got, got}
use Rattle.grammar.specs.Laws.Layout.Check.{check_times, judge, check}
use Rattle.grammar.specs.Laws.Layout.IfGot.{IfGot, is_got, is_no, bind_got, pick_got, of_got}
use Rattle.grammar.specs.Laws.Layout.Complete.{Complete, number_complete, complete}
use Rattle.grammar.specs.Laws.Layout.Sound.{Spelt, Sound, cut, number_sound, after, sound_at}

-- ---- what is read is a valid tree that passes, and the tree spells what was read

weaker : {A : Type 0} {sp : A → List ℕ} {P Q : A → Type 0} {s : List ℕ} {at : ℕ} {x : Got A} → ((t : A) → P t → Q t) → IfGot (Spelt sp P s at) x → IfGot (Spelt sp Q s at) x
weaker f (is_got {t} {r} {p} q) = is_got {p = p} record { valid = f t q.valid; split = q.split; place = q.place }
weaker f is_no = is_no

module _ {A : Type 0} (f : List A → List ℕ → ℕ → Got A) (sp : A → List ℕ) (P : A → Type 0) (K : List A → A → Type 0)
    (c : (done : List A) → Sound (f done) sp (λ t. P t × K done t)) where
  times_sound : (n : ℕ) (done : List A) → Sound (check_times f done n) (spell_all sp) (λ ts. ((length ts ≡ n) × All P ts) × KeptAll K done ts)
  unfolding check_times spell_all
  times_sound zero done s h at = is_got {p = at} record { valid = ((refl, all_none), tt); split = refl; place = omega arith }
  times_sound (suc n) done s h at =
      bind_got (c done s h at) (λ t s₁ at₁ q.
      bind_got (times_sound n (t ∷ done) s₁ (cut (sp t) q.split h).1 at₁) (λ ts s₂ at₂ q'.
      is_got (after (spell_all sp) (t ∷ ts) q q' refl
      ((ap suc q'.valid.0.0, all_more q.valid.0 q'.valid.0.1), (q.valid.1, q'.valid.1)))))

judge_sound : {A : Type 0} {sp : A → List ℕ} {P Q : A → Type 0} {s : List ℕ} {at : ℕ} {t : A} {r : List ℕ} {p : ℕ} (n start : ℕ) (o : Option ℕ)
    → (o ≡ none → Q t) → Spelt sp P s at t r p → IfGot (Spelt sp Q s at) (judge n start o t r p)
unfolding judge
judge_sound {p = p} n start none f q = is_got {p = p} record { valid = f refl; split = q.split; place = q.place }
judge_sound n start (some x) f q = is_no

pub check_sound : {g : Layout} (u : Rule g) → Sound (check u) (spell g) (λ t. Valid g t × Kept u t)
unfolding check spell
check_sound (plain g) s h at = weaker (λ t v. (v, tt)) (sound_at g s h at)
check_sound (◌▸▸◌ {a} {b} u k) s h at =
    bind_got (check_sound u s h at) (λ t s₁ at₁ q.
    bind_got (check_sound (k t) s₁ (cut (spell a t) q.split h).1 at₁) (λ v s₂ at₂ q'.
    is_got (after _ (t, v) q q' refl ((q.valid.0, q'.valid.0), (q.valid.1, q'.valid.1)))))
check_sound (numbered {o} {w} {test} k) s h at =
    bind_got (number_sound o w s h at) (λ n s₁ at₁ q.
    pick_got (passes test n)
    (λ e. bind_got (check_sound (k n) s₁ (cut (digits o w n) q.split h).1 at₁) (λ t s₂ at₂ q'.
    is_got (after _ (n, t) q q' refl ((q.valid, e, q'.valid.0), q'.valid.1))))
    (λ e. is_no))
check_sound (items {n} {a} k) s h at =
    times_sound (λ done s₁ at₁. check (k done) s₁ at₁) (spell a) (Valid a) (λ done t. Kept (k done) t) (λ done s₁ h₁ at₁. check_sound (k done) s₁ h₁ at₁) n [] s h at
check_sound (asked b n back u) s h at = pick_got b (λ e. weaker (λ t v. (v.0, (e, v.1))) (check_sound u s h at)) (λ e. is_no)
check_sound (tested u n v) s h at =
    bind_got (check_sound u s h at) (λ t s₁ at₁ q. judge_sound n at (v t) (λ e. (q.valid.0, (q.valid.1, e))) q)

-- ---- and what a valid tree that passes spells is read as that tree

module _ {A : Type 0} (f : List A → List ℕ → ℕ → Got A) (sp : A → List ℕ) (P : A → Type 0) (K : List A → A → Type 0)
    (c : (done : List A) → Complete (f done) sp (λ t. P t × K done t)) where
  all_complete : {ts : List A} → All P ts → (done : List A) → KeptAll K done ts → (r : List ℕ) (at : ℕ)
      → check_times f done (length ts) (spell_all sp ts ++ r) at ≡ got ts r (at + length (spell_all sp ts))
  unfolding check_times spell_all
  all_complete all_none done k r at = ap (got [] r) (omega arith)
  all_complete (all_more {x} {xs} h hs) done k r at =
      rw (append_assoc, c done x (h, k.0) (spell_all sp xs ++ r) at, all_complete hs (x ∷ done) k.1 r (at + length (sp x)), length-append)
      (ap (got (x ∷ xs) r) (omega arith))

pub check_complete : {g : Layout} (u : Rule g) → Complete (check u) (spell g) (λ t. Valid g t × Kept u t)
unfolding check spell judge
check_complete (plain g) t h r at = complete g t h.0 r at
check_complete (◌▸▸◌ {a} {b} u k) t h r at =
    rw (append_assoc, check_complete u t.0 (h.0.0, h.1.0) (spell b t.1 ++ r) at, check_complete (k t.0) t.1 (h.0.1, h.1.1) r (at + length (spell a t.0)), length-append)
    (ap (got t r) (omega arith))
check_complete (numbered {o} {w} {test} {k = l} k) t h r at =
    rw (append_assoc, number_complete o w t.0 h.0.0 (spell (l t.0) t.1 ++ r) at, h.0.1, check_complete (k t.0) t.1 (h.0.2, h.1) r (at + length (digits o w t.0)), length-append)
    (ap (got t r) (omega arith))
check_complete (items {n} {a} k) t h r at =
    rw (← h.0.0) (all_complete (λ done s₁ at₁. check (k done) s₁ at₁) (spell a) (Valid a) (λ done t. Kept (k done) t) (λ done t h₁ r₁ at₁. check_complete (k done) t h₁ r₁ at₁) h.0.1 [] h.1 r at)
check_complete (asked b n back u) t h r at = rw h.1.0 (check_complete u t (h.0, h.1.1) r at)
check_complete (tested u n v) t h r at = rw (check_complete u t (h.0, h.1.0) r at, h.1.1)

-- ---- a refusal says how the bytes break the rule

pub spelt : {g : Layout} {K : Tree g → Type 0} {s : List ℕ} {at : ℕ} {t : Tree g} {r : List ℕ} {p : ℕ} → Spelt (spell g) (λ t. Valid g t × K t) s at t r p → Spells g s t r
spelt q = record { valid = q.valid.0; split = q.split }

-- ---- and where they break it so, it is refused

pub spells_check : {g : Layout} (u : Rule g) {s : List ℕ} {t : Tree g} {r : List ℕ} → Spells g s t r → Kept u t → (at : ℕ) → check u s at ≡ got t r (at + length (spell g t))
spells_check u {s} {t} {r} v c at = rw v.split (check_complete u t (v.valid, c) r at)

-- ---- what follows

-- a reading by a rule gives the valid trees that pass
pub passes_exactly : {g : Layout} (u : Rule g) (s : List ℕ) → Bytes s → (at : ℕ) (t : Tree g) (r : List ℕ) (p : ℕ)
    → (check u s at ≡ got t r p) ↔ (Spells g s t r × Kept u t × (p ≡ at + length (spell g t)))
passes_exactly {g} u s h at t r p = (
  λ e. let q = of_got (subst (IfGot (Spelt (spell g) (λ t. Valid g t × Kept u t) s at)) e (check_sound u s h at)) in
      (spelt q, q.valid.1, q.place),
  λ q. spells_check u q.0 q.1 at ∙ ap (got t r) (sym q.2),
)
