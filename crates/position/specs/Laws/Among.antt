-- Which numbers are among those of a list, or of two lists joined.
use Rattle.std.specs.Prelude.{◌≡◌, refl, Bool, true, false, ◌||◌, List, [], ◌∷◌, ◌++◌, ℕ, eqb}
use Rattle.std.proofs.Common.{sym, ◌∙◌, eqb-true, eq-eqb, ne_eqb}
use Rattle.std.proofs.Math.Bool.{or_assoc}
use Rattle.std.proofs.lemmas.Bool.{false≢true}
use Rattle.sizes.specs.Basics.{among}
use Rattle.grammar.specs.Layout.{All, all_none, all_more}
use Rattle.grammar.specs.Laws.Layout.Tests.{or_is_false}
use Rattle.grammar.specs.Once.{Distinct}

-- ---- one list

pub none_among : {A : Type 0} (e : ℕ) → among e [] ≡ true → A
unfolding among
none_among e h = absurd (false≢true h)

pub first_among : (d : ℕ) (ds : List ℕ) → among d (d ∷ ds) ≡ true
unfolding among
first_among d ds = rw (eq-eqb d d refl)

or_true : (b : Bool) → (b || true) ≡ true
or_true true = refl
or_true false = refl

pub later_among : (e d : ℕ) (ds : List ℕ) → among e ds ≡ true → among e (d ∷ ds) ≡ true
unfolding among
later_among e d ds h = rw h (or_true (eqb e d))

by_test : (e d : ℕ) (ds : List ℕ) {A : Type 0} → among e (d ∷ ds) ≡ true → (b : Bool) → eqb e d ≡ b → (e ≡ d → A) → (eqb e d ≡ false → among e ds ≡ true → A) → A
unfolding among
by_test e d ds h true q f g = f (eqb-true e d q)
by_test e d ds h false q f g = g q (rw q at h)

-- a number of the list is the first, or a later one and not the first
pub first_or_later : (e d : ℕ) (ds : List ℕ) {A : Type 0} → among e (d ∷ ds) ≡ true → (e ≡ d → A) → (eqb e d ≡ false → among e ds ≡ true → A) → A
first_or_later e d ds h f g = by_test e d ds h (eqb e d) refl f g

-- what is among the later ones isn't the first, where the first isn't among them
pub apart : (e d : ℕ) (ds : List ℕ) → among d ds ≡ false → among e ds ≡ true → eqb e d ≡ false
apart e d ds f m = ne_eqb e d (λ q. false≢true (sym (rw (← q) at f) ∙ m))

pub all_at : {P : ℕ → Type 0} (e : ℕ) {xs : List ℕ} → All P xs → among e xs ≡ true → P e
all_at e all_none m = none_among e m
all_at {P} e (all_more {x = x} {xs = xs} p r) m = first_or_later e x xs m (λ q. rw q p) (λ q t. all_at e r t)

-- ---- two lists joined

among_join : (e : ℕ) (xs ys : List ℕ) → among e (xs ++ ys) ≡ (among e xs || among e ys)
unfolding among
among_join e [] ys = refl
among_join e (x ∷ xs) ys = rw (among_join e xs ys) (sym (or_assoc (eqb e x) (among e xs) (among e ys)))

pub on_first : (e : ℕ) (xs ys : List ℕ) → among e xs ≡ true → among e (xs ++ ys) ≡ true
on_first e xs ys h = rw (among_join e xs ys, h)

pub on_later : (e : ℕ) (xs ys : List ℕ) → among e ys ≡ true → among e (xs ++ ys) ≡ true
on_later e xs ys h = rw (among_join e xs ys, h) (or_true (among e xs))

by_list : {A : Type 0} (e : ℕ) (xs ys : List ℕ) → among e (xs ++ ys) ≡ true → (b : Bool) → among e xs ≡ b → (among e xs ≡ true → A) → (among e xs ≡ false → among e ys ≡ true → A) → A
by_list e xs ys h true q f g = f q
by_list e xs ys h false q f g = g q (rw (among_join e xs ys, q) at h)

-- a number of both is on the first, or on the second and not on the first
pub on_one : {A : Type 0} (e : ℕ) (xs ys : List ℕ) → among e (xs ++ ys) ≡ true → (among e xs ≡ true → A) → (among e xs ≡ false → among e ys ≡ true → A) → A
on_one e xs ys h f g = by_list e xs ys h (among e xs) refl f g

-- where no number stands twice in both, none does in either, and a number of the second isn't on the first
pub record Parted (xs ys : List ℕ) : Type 0 where
  pub first : Distinct xs
  pub later : Distinct ys
  pub away : (e : ℕ) → among e ys ≡ true → among e xs ≡ false

pub parted : (xs ys : List ℕ) → Distinct (xs ++ ys) → Parted xs ys
unfolding among
parted [] ys h = record { first = tt; later = h; away = λ e m. refl }
parted (x ∷ xs) ys h =
    let i = parted xs ys h.1 in
    let q = or_is_false (among x xs) (among x ys) (rw (among_join x xs ys) at h.0) in
    record {
      first = (q.0, i.first);
      later = i.later;
      away = λ e m. rw (apart e x ys q.1 m) (i.away e m);
    }
