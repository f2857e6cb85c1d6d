-- Fields and trees, for every layout: the fields of a tree lead back to it, and are written where its bytes stand; fields that fit and can be
-- written are a valid tree's.
use Rattle.std.specs.Prelude.{◌≡◌, ℕ, suc, ◌+◌, ◌-◌, ◌≤◌, drop, replicate}
use Rattle.std.proofs.Math.Path.{refl, ap}
use Rattle.std.proofs.Common.{sym, ◌∙◌, arith, length-append, length-drop, take_at, drop_at, drop-drop}
use Rattle.std.proofs.Math.Option.{none, some}
use mathlib.Core.List.{List, [], ◌∷◌, ◌++◌, append_assoc}
use Rattle.std.proofs.Math.ListN.{length}
use Rattle.std.proofs.lemmas.List.{length-replicate}
use Rattle.std.specs.Prelude.{Ok}
use Rattle.grammar.specs.Layout.{Order, Fill, exact, optional, open_ended, Filled, Layout, empty, number, string, ◌▸◌, times, leading, region, nothing, Tree, digits, spell_all, spell_fill, spell, Bytes, All, all_none, all_more, ValidFill, Valid}
use Rattle.grammar.specs.Laws.Layout as laws
use Rattle.layout.specs.Steps.Slices.{drop_bytes, take_bytes}
use Rattle.store.specs.Fields.{Text, lent, letters, FieldsIn, Fields, placed_all, placed_in, placed, bytes_of, text_of, resolve_all, resolve_in, resolve, bytes_in, content_in}
use Rattle.store.specs.Unwritable.{WritableIn, Writable}
use Rattle.store.specs.Fit.{FitText, FitIn, Fit}
use Rattle.store.specs.Check.{check}
use Rattle.store.specs.Laws.Verdicts.{inside_length}
use Rattle.store.specs.Laws.Exactly.{writable_exactly}

-- ---- bytes that stand in s from a place on, with r after them

pub record Stands (xs s : List ℕ) (at : ℕ) (r : List ℕ) : Type 0 where
  pub inside : at ≤ length s
  pub here : drop at s ≡ xs ++ r

front : (xs ys : List ℕ) {s : List ℕ} {at : ℕ} {r : List ℕ} → Stands (xs ++ ys) s at r → Stands xs s at (ys ++ r)
front xs ys {r = r} h = record { inside = h.inside; here = h.here ∙ append_assoc xs ys r }

back : (xs ys : List ℕ) {s : List ℕ} {at : ℕ} {r : List ℕ} (n : ℕ) → length xs ≡ n → Stands (xs ++ ys) s at r → Stands ys s (at + n) r
back xs ys {s} {at} {r} n e h =
    let all : drop at s ≡ xs ++ (ys ++ r) = (front xs ys h).here in
    let long : length s - at ≡ n + length (ys ++ r) = sym (length-drop at s) ∙ ap length all ∙ length-append xs (ys ++ r) ∙ ap (λ (m : ℕ). m + length (ys ++ r)) e in
    record { inside = omega (arith, h.inside); here = sym (drop-drop n at s) ∙ ap (drop n) all ∙ drop_at xs (ys ++ r) n e }

-- after a number, and after the count of a region
after_number : (o : Order) (w n : ℕ) (ys : List ℕ) {s : List ℕ} {at : ℕ} {r : List ℕ} → Stands (digits o w n ++ ys) s at r → Stands ys s (at + w) r
after_number o w n ys h = back (digits o w n) ys w (laws.digits_length o w n) h

-- the text of bytes that stand there
module _ (t s : List ℕ) (at : ℕ) (r : List ℕ) (h : Stands t s at r) where
  text_there : text_of s (lent record { place = at; length = length t }) ≡ t
  unfolding text_of bytes_of
  text_there = rw h.here (take_at t r (length t) refl)

  text_inside : at + length t ≤ length s
  text_inside =
      let long : length s - at ≡ length t + length r = sym (length-drop at s) ∙ ap length h.here ∙ length-append t r in
      omega (arith, h.inside)

-- ---- the fields of a tree lead back to it

module _ {A B : Type 0} (f : A → ℕ → B) (sp : A → List ℕ) (g : B → A) (s : List ℕ)
    (one : (x : A) (at : ℕ) (r : List ℕ) → Stands (sp x) s at r → g (f x at) ≡ x) where
  resolve_all_lem : (xs : List A) (at : ℕ) (r : List ℕ) → Stands (spell_all sp xs) s at r → resolve_all g (placed_all f sp xs at) ≡ xs
  unfolding resolve_all placed_all spell_all
  resolve_all_lem [] at r h = refl
  resolve_all_lem (x ∷ xs) at r h = rw (one x at _ (front (sp x) (spell_all sp xs) h), resolve_all_lem xs (at + length (sp x)) r (back (sp x) (spell_all sp xs) (length (sp x)) refl h))

  resolve_in_lem : (m : Fill) (t : Filled m A) (at : ℕ) (r : List ℕ) → Stands (spell_fill m sp t) s at r → resolve_in m g s (placed_in m f sp t at) ≡ t
  unfolding resolve_in placed_in spell_fill
  resolve_in_lem exact t at r h = one t at r h
  resolve_in_lem optional none at r h = refl
  resolve_in_lem optional (some t) at r h = ap some (one t at r h)
  resolve_in_lem open_ended t at r h =
      rw (one t.0 at (t.1 ++ r) (front (sp t.0) t.1 h), text_there t.1 s (at + length (sp t.0)) r (back (sp t.0) t.1 (length (sp t.0)) refl h))

pub resolve_placed : (g : Layout) (t : Tree g) (s : List ℕ) (at : ℕ) (r : List ℕ) → Stands (spell g t) s at r → resolve g s (placed g t at) ≡ t
unfolding resolve placed spell
resolve_placed empty t s at r h = refl
resolve_placed (number o w test k) t s at r h =
    ap (λ (u : Tree (k t.0)). (t.0, u)) (resolve_placed (k t.0) t.1 s (at + w) r (after_number o w t.0 (spell (k t.0) t.1) h))
resolve_placed (string o w c) t s at r h = text_there t s (at + w) r (after_number o w (length t) t h)
resolve_placed (a ▸ b) t s at r h =
    let xs = spell a t.0 in
    let ys = spell b t.1 in
    rw (resolve_placed a t.0 s at (ys ++ r) (front xs ys h), resolve_placed b t.1 s (at + length xs) r (back xs ys (length xs) refl h))
resolve_placed (times n a) t s at r h = resolve_all_lem (placed a) (spell a) (resolve a s) s (λ x at r h. resolve_placed a x s at r h) t at r h
resolve_placed (leading b n a) t s at r h =
    ap (λ (u : Tree a). (t.0, u)) (resolve_placed a t.1 s (at + t.0) r (back (replicate t.0 b) (spell a t.1) t.0 (length-replicate t.0 b) h))
resolve_placed (region o m a) t s at r h =
    let xs = spell_fill m (spell a) t in
    resolve_in_lem (placed a) (spell a) (resolve a s) s (λ x at r h. resolve_placed a x s at r h) m t (at + 4) r (after_number o 4 (length xs) xs h)
resolve_placed nothing t s at r h = refl

-- ---- and can be written where its bytes stand

module _ {A B : Type 0} (f : A → ℕ → B) (sp : A → List ℕ) (s : List ℕ) (P : A → Type 0) (Q : B → Type 0)
    (one : (x : A) → P x → (at : ℕ) (r : List ℕ) → Stands (sp x) s at r → Q (f x at)) where
  writable_all : {xs : List A} → All P xs → (at : ℕ) (r : List ℕ) → Stands (spell_all sp xs) s at r → All Q (placed_all f sp xs at)
  unfolding placed_all spell_all
  writable_all all_none at r h = all_none
  writable_all (all_more {x} {xs} p ps) at r h =
      all_more (one x p at _ (front (sp x) (spell_all sp xs) h)) (writable_all ps (at + length (sp x)) r (back (sp x) (spell_all sp xs) (length (sp x)) refl h))

  writable_in : (m : Fill) (t : Filled m A) → ValidFill m P sp t → (at : ℕ) (r : List ℕ) → Stands (spell_fill m sp t) s at r → WritableIn m Q s (placed_in m f sp t at)
  unfolding placed_in spell_fill
  writable_in exact t v at r h = one t v at r h
  writable_in optional none v at r h = tt
  writable_in optional (some t) v at r h = one t v.0 at r h
  writable_in open_ended t v at r h = (
    one t.0 v.0 at (t.1 ++ r) (front (sp t.0) t.1 h),
    text_inside t.1 s (at + length (sp t.0)) r (back (sp t.0) t.1 (length (sp t.0)) refl h),
  )

pub writable_placed : (g : Layout) (t : Tree g) → Valid g t → (s : List ℕ) (at : ℕ) (r : List ℕ) → Stands (spell g t) s at r → Writable g s (placed g t at)
unfolding placed spell
writable_placed empty t v s at r h = tt
writable_placed (number o w test k) t v s at r h =
    (v.1, writable_placed (k t.0) t.1 v.2 s (at + w) r (after_number o w t.0 (spell (k t.0) t.1) h))
writable_placed (string o w c) t v s at r h =
    let there = after_number o w (length t) t h in
    (v.0, text_inside t s (at + w) r there, rw (text_there t s (at + w) r there) v.2)
writable_placed (a ▸ b) t v s at r h =
    let xs = spell a t.0 in
    let ys = spell b t.1 in
    (writable_placed a t.0 v.0 s at (ys ++ r) (front xs ys h), writable_placed b t.1 v.1 s (at + length xs) r (back xs ys (length xs) refl h))
writable_placed (times n a) t v s at r h =
    writable_all (placed a) (spell a) s (Valid a) (Writable a s) (λ x p at r h. writable_placed a x p s at r h) v.1 at r h
writable_placed (leading b n a) t v s at r h =
    (v.0.short, writable_placed a t.1 v.1 s (at + t.0) r (back (replicate t.0 b) (spell a t.1) t.0 (length-replicate t.0 b) h))
writable_placed (region o m a) t v s at r h =
    let xs = spell_fill m (spell a) t in
    writable_in (placed a) (spell a) s (Valid a) (Writable a s) (λ x p at r h. writable_placed a x p s at r h) m t v.1 (at + 4) r (after_number o 4 (length xs) xs h)
writable_placed nothing t v s at r h = elim t [ ]

-- which a writer answers so
pub check_placed : (g : Layout) (t : Tree g) → Valid g t → (s : List ℕ) (at : ℕ) (r : List ℕ) → Stands (spell g t) s at r
    → check g s (placed g t at) at ≡ Ok (at + length (spell g t))
unfolding bytes_in
check_placed g t v s at r h =
    let e : at + length (spell g t) ≡ at + length (bytes_in g s (placed g t at)) = rw (resolve_placed g t s at r h) in
    (writable_exactly g s (placed g t at) at (at + length (spell g t))).1 (writable_placed g t v s at r h, e)

-- ---- fields that fit and can be written are a valid tree's

text_valid : (s : List ℕ) → Bytes s → (t : Text) → FitText t → Bytes (text_of s t)
unfolding text_of bytes_of
text_valid s bs (lent n) h = take_bytes n.length (drop_bytes n.place bs)
text_valid s bs (letters xs) h = h

module _ {A B : Type 0} (g : B → A) (P R : B → Type 0) (Q : A → Type 0) (one : (x : B) → P x → R x → Q (g x)) where
  valid_all : {xs : List B} → All P xs → All R xs → All Q (resolve_all g xs)
  unfolding resolve_all
  valid_all all_none all_none = all_none
  valid_all (all_more {x} {xs} h hs) (all_more w ws) = all_more (one x h w) (valid_all hs ws)

  valid_in : (m : Fill) (s : List ℕ) → Bytes s → (sp : A → List ℕ) (f : FieldsIn m B) → FitIn m P (λ x. sp (g x)) f → WritableIn m R s f
      → ValidFill m Q sp (resolve_in m g s f)
  unfolding resolve_in
  valid_in exact s bs sp f h w = one f h w
  valid_in optional s bs sp none h w = tt
  valid_in optional s bs sp (some f) h w = (one f h.0 w, h.1)
  valid_in open_ended s bs sp f h w = (one f.0 h.0 w.0, text_valid s bs f.1 h.1)

resolve_length : {A B : Type 0} (g : B → A) (xs : List B) → length (resolve_all g xs) ≡ length xs
unfolding resolve_all
resolve_length g [] = refl
resolve_length g (x ∷ xs) = ap suc (resolve_length g xs)

pub valid_resolved : (g : Layout) (s : List ℕ) → Bytes s → (f : Fields g) → Fit g s f → Writable g s f → Valid g (resolve g s f)
unfolding resolve bytes_in content_in
valid_resolved empty s bs f h w = tt
valid_resolved (number o w test k) s bs f h u = (h.0, u.0, valid_resolved (k f.0) s bs f.1 h.1 u.1)
valid_resolved (string o w c) s bs f h u = (rw (inside_length s f u.1) u.0, text_valid s bs f h, u.2)
valid_resolved (a ▸ b) s bs f h u = (valid_resolved a s bs f.0 h.0 u.0, valid_resolved b s bs f.1 h.1 u.1)
valid_resolved (times n a) s bs f h u =
    (resolve_length (resolve a s) f ∙ h.0, valid_all (resolve a s) (Fit a s) (Writable a s) (Valid a) (λ x i j. valid_resolved a s bs x i j) h.1 u)
valid_resolved (leading b n a) s bs f h u = (h.0, valid_resolved a s bs f.1 h.1 u.1)
valid_resolved (region o m a) s bs f h u =
    (h.0, valid_in (resolve a s) (Fit a s) (Writable a s) (Valid a) (λ x i j. valid_resolved a s bs x i j) m s bs (spell a) f h.1 u)
valid_resolved nothing s bs f h u = absurd h
