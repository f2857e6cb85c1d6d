-- Which refusals are a rule's own. Bytes that the layout reads are read by the rule as the same tree, or refused by a test of the rule: by a
-- number that the rule gives, and at a byte of what is read.
use Rattle.std.specs.Prelude.{◌≡◌, true}
use Rattle.std.proofs.Math.Path.{refl}
use Rattle.std.proofs.Common.{ap, ◌∙◌, subst, arith}
use Rattle.std.proofs.Math.Option.{Option, none, some}
use mathlib.Core.List.{List, [], ◌∷◌}
use Prim.Native.Nat.{ℕ, zero, suc, ◌+◌, ◌<◌}
use Rattle.std.proofs.Math.ListN.{length, length-append}
use Rattle.sizes.specs.Basics.{among}
use Rattle.grammar.specs.Layout.{Order, Test, Layout, empty, number, Tree, spell, Bytes}
use Rattle.grammar.specs.Rule.{Rule, plain, ◌▸▸◌, numbered, items, asked, tested}
use Rattle.grammar.specs.Laws.Layout as laws
use Rattle.grammar.specs.Laws.Layout.Read.{Got, got, no, bind, read_times, read}
use Rattle.grammar.specs.Laws.Layout.Check.{check_times, judge, check}
use Rattle.grammar.specs.Laws.Layout.Places.{Within, within, took, took_length}
use Rattle.layout.specs.Steps.Slices.{drop_bytes}
use Rattle.look_rules.proofs.Laws.Walk.{check_number}

-- what a rule makes of a reading: the same; or a refusal of its own, where the reading has a tree
pub data Own {A : Type 0} (P : ℕ → ℕ → Type 0) : Got A → Got A → Type 0 where
  same : {x : Got A} → Own P x x
  own : {t : A} {r : List ℕ} {p n q : ℕ} → P n q → Own P (got t r p) (no n q)
  neither : {n p m q : ℕ} → Own P (no n p) (no m q)

module _ {P : ℕ → ℕ → Type 0} where
  refused_own : {A : Type 0} {n q : ℕ} (x : Got A) → P n q → Own P x (no n q)
  refused_own (got t r p) h = own h
  refused_own (no m p) h = neither

  bind_own : {A B : Type 0} {x y : Got A} {f g : A → List ℕ → ℕ → Got B} → Own P x y → ((t : A) (r : List ℕ) (p : ℕ) → x ≡ got t r p → Own P (f t r p) (g t r p)) → Own P (bind x f) (bind y g)
  unfolding bind
  bind_own (same {x = got t r p}) h = h t r p refl
  bind_own (same {x = no n p}) h = same
  bind_own {f = f} (own {t} {r} {p} a) h = refused_own (f t r p) a
  bind_own neither h = neither

  -- a verdict on what a rule gives
  judge_own : {A : Type 0} {x y : Got A} {g : A → List ℕ → ℕ → Got A} → Own P x y → ((t : A) (r : List ℕ) (p : ℕ) → x ≡ got t r p → Own P (got t r p) (g t r p)) → Own P x (bind y g)
  unfolding bind
  judge_own (same {x = got t r p}) h = h t r p refl
  judge_own (same {x = no n p}) h = same
  judge_own (own a) h = own a
  judge_own neither h = neither

-- every test of the rule is made when something ends, gives one of the ks, and finds a byte of it wrong
abbrev pub Owns : {g : Layout} → List ℕ → Rule g → Type 0
Owns ks (plain g) = Unit {0}
Owns ks (◌▸▸◌ {a} u k) = Owns ks u × ((t : Tree a) → Owns ks (k t))
Owns ks (numbered k) = (n : ℕ) → Owns ks (k n)
Owns ks (items {a = a} k) = (done : List (Tree a)) → Owns ks (k done)
Owns ks (asked b n back u) = ⊥
Owns ks (tested {a} u n v) = (among n ks ≡ true) × Owns ks u × ((t : Tree a) (q : ℕ) → v t ≡ some q → q < length (spell a t))

-- the bytes from the place `at` up to the place `end`
pub record Until (end : ℕ) (s : List ℕ) (at : ℕ) : Type 0 where
  pub bytes : Bytes s
  pub long : at + length s ≡ end

module _ (ks : List ℕ) (end : ℕ) where
  -- one of the ks, before the end
  abbrev pub Given : ℕ → ℕ → Type 0
  Given n p = (among n ks ≡ true) × (p < end)

  moved : (g : Layout) {s : List ℕ} {at : ℕ} {t : Tree g} {r : List ℕ} {p : ℕ} → Until end s at → read g s at ≡ got t r p → Until end r p
  moved g {s} {at} h e =
      let q = took (subst (Within s at) e (within g s at)) in
      record { bytes = rw q.rest (drop_bytes q.n h.bytes); long = took_length q ∙ h.long }

  judged : (a : Layout) {s : List ℕ} {at : ℕ} {t : Tree a} {r : List ℕ} {p : ℕ} (n : ℕ) → Until end s at → read a s at ≡ got t r p → among n ks ≡ true
      → (o : Option ℕ) → ((q : ℕ) → o ≡ some q → q < length (spell a t)) → Own Given (got t r p) (judge n at o t r p)
  unfolding judge
  judged a n h e m none f = same
  judged a {s} {at} {t} {r} {p} n h e m (some q) f =
      let l : q < length (spell a t) = f q refl in
      let z = laws.sound a s h.bytes at t r p e in
      let i : at + q < end = omega (arith, h.long, simp length-append at (ap length z.1)) in
      own {q = at + q} (m, i)

  own_times : {a : Layout} (k : List (Tree a) → Rule a) → ((done : List (Tree a)) (s : List ℕ) (at : ℕ) → Until end s at → Own Given (read a s at) (check (k done) s at))
      → (n : ℕ) (done : List (Tree a)) (s : List ℕ) (at : ℕ) → Until end s at → Own Given (read_times (read a) n s at) (check_times (λ done s₁ at₁. check (k done) s₁ at₁) done n s at)
  unfolding read_times check_times
  own_times k c zero done s at h = same
  own_times {a} k c (suc n) done s at h =
      bind_own (c done s at h) (λ t r p e. bind_own (own_times k c n (t ∷ done) r p (moved a h e)) (λ ts r₂ p₂ e₂. same))

  -- a number alone is read first, and then what it asks for
  own_number : (o : Order) (w : ℕ) (test : Test) {l : ℕ → Layout} (k : (n : ℕ) → Rule (l n)) → ((n : ℕ) (s : List ℕ) (at : ℕ) → Until end s at → Own Given (check (plain (l n)) s at) (check (k n) s at))
      → (s : List ℕ) (at : ℕ) → Until end s at → Own Given (check (numbered {o = o} {w = w} {test = test} (λ n. plain (l n))) s at) (check (numbered {o = o} {w = w} {test = test} k) s at)
  own_number o w test {l} k c s at h =
      rw (check_number o w test (λ n. plain (l n)) s at, check_number o w test k s at)
      (bind_own same (λ t r p e. bind_own (c t.0 r p (moved (number o w test (λ _. empty)) h e)) (λ x r₂ p₂ e₂. same)))

  pub own_reading : {g : Layout} (u : Rule g) → Owns ks u → (s : List ℕ) (at : ℕ) → Until end s at → Own Given (read g s at) (check u s at)
  unfolding read check
  own_reading (plain g) f s at h = same
  own_reading (◌▸▸◌ {a} {b} u k) f s at h =
      bind_own (own_reading u f.0 s at h) (λ t r p e. bind_own (own_reading (k t) (f.1 t) r p (moved a h e)) (λ v r₂ p₂ e₂. same))
  own_reading (numbered {o} {w} {test} k) f s at h = own_number o w test k (λ n s₁ at₁ h₁. own_reading (k n) (f n) s₁ at₁ h₁) s at h
  own_reading (items {n} {a} k) f s at h = own_times k (λ done s₁ at₁ h₁. own_reading (k done) (f done) s₁ at₁ h₁) n [] s at h
  own_reading (asked b n back u) f s at h = absurd f
  own_reading (tested {a} u n v) f s at h = judge_own (own_reading u f.1 s at h) (λ t r p e. judged a n h e f.0 (v t) (f.2 t))
