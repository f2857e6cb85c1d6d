-- One reading after another: how `bind` and repetition are regrouped.
use Rattle.std.specs.Prelude.{◌≡◌, refl, Bool, true, false, List, [], ◌∷◌, ◌++◌, ℕ, zero, suc, ◌+◌}
use Rattle.std.proofs.Common.{sym, ◌∙◌, zero-add, suc-add}
use Rattle.sizes.specs.Basics.{pick}
use Rattle.grammar.specs.Rule.{onto}
use Rattle.grammar.specs.Laws.Layout.Read.{Got, got, no, bind}
use Rattle.grammar.specs.Laws.Layout.Check.{check_times}

pub bind_assoc : {A B C : Type 0} (x : Got A) (f : A → List ℕ → ℕ → Got B) (g : B → List ℕ → ℕ → Got C)
    → bind (bind x f) g ≡ bind x (λ t s at. bind (f t s at) g)
unfolding bind
bind_assoc (got t s at) f g = refl
bind_assoc (no r p) f g = refl

pub bind_pick : {A B : Type 0} (b : Bool) (x y : Got A) (g : A → List ℕ → ℕ → Got B) → bind (pick b x y) g ≡ pick b (bind x g) (bind y g)
unfolding pick
bind_pick true x y g = refl
bind_pick false x y g = refl

pub bind_ext : {A B : Type 0} (x : Got A) {f g : A → List ℕ → ℕ → Got B} → ((t : A) (r : List ℕ) (p : ℕ) → f t r p ≡ g t r p) → bind x f ≡ bind x g
unfolding bind
bind_ext (got t r p) h = h t r p
bind_ext (no k q) h = refl

pub bind_got : {A : Type 0} (x : Got A) → bind x (λ u s₂ at₂. got u s₂ at₂) ≡ x
unfolding bind
bind_got (got u r p) = refl
bind_got (no k q) = refl

-- ---- repetition

-- those before, put in front
pub times_from : {A : Type 0} (g : List A → List ℕ → ℕ → Got A) (before : List A) (n : ℕ) (done : List A) (s : List ℕ) (at : ℕ)
    → check_times (λ done s₁ at₁. g (done ++ before) s₁ at₁) done n s at ≡ check_times g (done ++ before) n s at
unfolding check_times bind
times_from g before zero done s at = refl
times_from g before (suc n) done s at =
    bind_ext (g (done ++ before) s at) (λ t s₁ at₁. rw (times_from g before n (t ∷ done) s₁ at₁))

-- a and then b times is a + b times
pub times_add : {A : Type 0} (g : List A → List ℕ → ℕ → Got A) (b a : ℕ) (done : List A) (s : List ℕ) (at : ℕ) → check_times g done (a + b) s at
    ≡ bind (check_times g done a s at) (λ ts s₁ at₁. bind (check_times g (onto done ts) b s₁ at₁) (λ us s₂ at₂. got (ts ++ us) s₂ at₂))
unfolding check_times bind
times_add g b zero done s at = rw zero-add (sym (bind_got (check_times g done b s at)))
times_add g b (suc a) done s at =
    rw suc-add (bind_ext (g done s at) (λ t s₁ at₁. rw (times_add g b a (t ∷ done) s₁ at₁) (simp bind_assoc)) ∙ sym (bind_assoc (g done s at) _ _))

pub onto_append : {A : Type 0} (done xs ys : List A) → onto done (xs ++ ys) ≡ onto (onto done xs) ys
onto_append done [] ys = refl
onto_append done (x ∷ xs) ys = onto_append (x ∷ done) xs ys
