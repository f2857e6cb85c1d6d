-- A layout in the place of another that allows less: what is nested in it may be nested deeper. A tree of the narrower is one of the wider, and
-- spells the same bytes.
use Rattle.std.specs.Prelude.{◌≡◌, refl, Bool, true, false, List, [], ◌∷◌, map, ℕ, zero, suc, length, eqb}
use Rattle.std.proofs.Common.{ap, ◌∙◌}
use Rattle.sizes.specs.Basics.{pick}
use Rattle.grammar.specs.Layout.{Order, Test, Layout, number, ◌▸◌, times, leading, nothing, Tree, spell_all, spell, All, all_none, all_more, Valid}
use Rattle.grammar.specs.Conventions.{choose}
use Rattle.grammar.specs.Value.{ArgumentOf, TemplateOf, forms, RawValueOf, ValueIn}

pub data Wider : Layout → Layout → Type 0 where
  same : {g : Layout} → Wider g g
  anything : {g : Layout} → Wider nothing g
  both : {a a' b b' : Layout} → Wider a a' → Wider b b' → Wider (a ▸ b) (a' ▸ b')
  asked : {o : Order} {w : ℕ} {test : Test} {k k' : ℕ → Layout} → ((n : ℕ) → Wider (k n) (k' n)) → Wider (number o w test k) (number o w test k')
  each : {n : ℕ} {a a' : Layout} → Wider a a' → Wider (times n a) (times n a')
  after : {b n : ℕ} {a a' : Layout} → Wider a a' → Wider (leading b n a) (leading b n a')

unfoldable pub widen : {g h : Layout} → Wider g h → Tree g → Tree h
widen same t = t
widen anything t = absurd t
widen (both u v) t = (widen u t.0, widen v t.1)
widen (asked f) t = (t.0, widen (f t.0) t.1)
widen (each u) t = map (widen u) t
widen (after u) t = (t.0, widen u t.1)

spell_all_lem : {A B : Type 0} (f : A → List ℕ) (h : B → List ℕ) (w : A → B) → ((x : A) → h (w x) ≡ f x) → (xs : List A) → spell_all h (map w xs) ≡ spell_all f xs
unfolding spell_all
spell_all_lem f h w e [] = refl
spell_all_lem f h w e (x ∷ xs) = rw (e x, spell_all_lem f h w e xs)

pub spell_widen : {g h : Layout} (u : Wider g h) (t : Tree g) → spell h (widen u t) ≡ spell g t
unfolding widen spell
spell_widen same t = refl
spell_widen anything t = absurd t
spell_widen (both u v) t = rw (spell_widen u t.0, spell_widen v t.1)
spell_widen (asked f) t = rw (spell_widen (f t.0) t.1)
spell_widen (each {a = a} {a' = a'} u) t = spell_all_lem (spell a) (spell a') (widen u) (spell_widen u) t
spell_widen (after u) t = rw (spell_widen u t.1)

length-map : {A B : Type 0} (w : A → B) (xs : List A) → length (map w xs) ≡ length xs
length-map w [] = refl
length-map w (x ∷ xs) = ap suc (length-map w xs)

all_widen : {A B : Type 0} {P : A → Type 0} {Q : B → Type 0} (w : A → B) → ((x : A) → P x → Q (w x)) → {xs : List A} → All P xs → All Q (map w xs)
all_widen w f all_none = all_none
all_widen w f (all_more {x} h hs) = all_more (f x h) (all_widen w f hs)

pub valid_widen : {g h : Layout} (u : Wider g h) (t : Tree g) → Valid g t → Valid h (widen u t)
unfolding widen
valid_widen same t v = v
valid_widen anything t v = absurd t
valid_widen (both p q) t v = (valid_widen p t.0 v.0, valid_widen q t.1 v.1)
valid_widen (asked f) t v = (v.0, v.1, valid_widen (f t.0) t.1 v.2)
valid_widen (each u) t v = (length-map (widen u) t ∙ v.0, all_widen (widen u) (valid_widen u) v.1)
valid_widen (after u) t v = (rw (spell_widen u t.1) v.0, valid_widen u t.1 v.1)

-- ---- Values

pick_wider : {x x' y y' : Layout} (b : Bool) → Wider x x' → Wider y y' → Wider (pick b x y) (pick b x' y')
unfolding pick
pick_wider true u v = u
pick_wider false u v = v

module _ {v v' : Layout} (u : Wider v v') where
  pub argument_wider : Wider (ArgumentOf v) (ArgumentOf v')
  unfolding ArgumentOf
  argument_wider = asked (λ x. pick_wider (eqb x 0) u (both same (each u)))

  template_wider : Wider (TemplateOf v) (TemplateOf v')
  unfolding TemplateOf
  template_wider = both same (asked (λ n. each argument_wider))

  form_wider : (version n : ℕ) → Wider (choose (forms version v) n) (choose (forms version v') n)
  form_wider version n =
      pick_wider (eqb n 1) same (pick_wider (eqb n 2) same (pick_wider (eqb n 3) same (pick_wider (eqb n 4) same (pick_wider (eqb n 5) same
      (pick_wider (eqb n 6) same (pick_wider (eqb n 0x31) (both same template_wider) (pick_wider (eqb n 0x58) template_wider same)))))))

-- a Value may be nested one level deeper
pub value_wider : (version d : ℕ) → Wider (ValueIn version d) (ValueIn version (suc d))
unfolding ValueIn RawValueOf
value_wider version zero = anything
value_wider version (suc d) = after (asked (λ n. form_wider (value_wider version d) version n))
