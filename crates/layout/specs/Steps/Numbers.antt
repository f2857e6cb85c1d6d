-- Numbers, their tests, and what a number asks for.
use Rattle.std.specs.Prelude.{◌≡◌, refl, Bool, true, false, List, [], ◌∷◌, ℕ, ◌+◌, length, take, drop, eqb, leb}
use Rattle.std.proofs.Common.{sym, ◌∙◌, drop-drop, ne_eqb}
use Rattle.layout.specs.Step.{Step}
use Rattle.std.specs.Prelude.{Ok, Err}
use Rattle.sizes.specs.Basics.{among, pick}
use Rattle.grammar.specs.Layout.{Order, little, Test, any_number, the_number, a_version, a_bool, at_most, one_of, one_of_but, a_color, passes, Layout, empty, number, Tree, undigits}
use Rattle.grammar.specs.Laws.Layout.Read.{Got, got, no, refusal, too_short, bind, read_number, read}
use Rattle.layout.specs.Reads.{forget, step, chain, ReadsTo, number_of, peek, verdict, judged, field}
use Rattle.layout.specs.Steps.Chain.{forget_map, Refuses, refuses, kept}

-- a test that is broken gives a refusal
pub broken : (test : Test) (v : ℕ) → passes test v ≡ false → eqb (refusal test v) 0 ≡ false
unfolding passes refusal pick
broken any_number v e = cc
broken (the_number k) v e = refl
broken (a_version ks) v e = refl
broken a_bool v e = refl
broken (at_most k) v e = refl
broken (one_of ks) v e = refl
broken (one_of_but ks others) v e = go (among v others)
  where
    go : (b : Bool) → eqb (pick b 4 3) 0 ≡ false
    go true = refl
    go false = refl
broken a_color v e = refl

pub step_tested : (o : Order) (w : ℕ) (test : Test) (s : List ℕ) (at : ℕ)
    → step (number o w test (λ _. empty)) s at ≡ field w (verdict test (peek o w s (Ok at))) s (Ok at)
unfolding step read bind read_number peek field verdict pick
step_tested o w test s at = go (leb w (length (drop at s)))
  where
    v : ℕ
    v = undigits o (take w (drop at s))

    judge : (c : Bool) → passes test v ≡ c
        → forget {A = Tree (number o w test (λ _. empty))} (pick c (got (v, tt) (drop w (drop at s)) (at + w)) (no (refusal test v) at))
        ≡ pick (eqb (pick c 0 (refusal test v)) 0) (Ok (at + w)) (Err (pick c 0 (refusal test v), at))
    judge true e = refl
    judge false e = rw (broken test v e)

    go : (b : Bool)
        → forget {A = Tree (number o w test (λ _. empty))} (bind (pick b (got v (drop w (drop at s)) (at + w)) (no too_short at))
        (λ n s₁ at₁. pick (passes test n) (got (n, tt) s₁ at₁) (no (refusal test n) at)))
        ≡ judged (verdict test (number_of (pick b (got v (drop w (drop at s)) (at + w)) (no too_short at)))) at
        (pick b (got (undigits little (take w (drop at s))) (drop w (drop at s)) (at + w)) (no too_short at))
    go true = judge (passes test v) refl
    go false = refl

tested : (o : Order) (w : ℕ) (test : Test) (s : List ℕ) (st : Step)
    → field w (verdict test (peek o w s st)) s st ≡ chain st (step (number o w test (λ _. empty)) s)
unfolding chain field
tested o w test s (Ok at) = sym (step_tested o w test s at)
tested o w test s (Err (n, p)) = refl

-- a number that is tested: v is the number, c its verdict
pub tested_of : {o : Order} {w : ℕ} {test : Test} {s : List ℕ} {st r : Step} {v c : ℕ}
    → r ≡ field w c s st → c ≡ verdict test v → v ≡ peek o w s st → ReadsTo (number o w test (λ _. empty)) s st r
tested_of {o} {w} {test} {s} {st} e f g = record { is = e ∙ rw (f, g) (tested o w test s st) }

-- a number of any value
pub free_of : {o : Order} {w : ℕ} {s : List ℕ} {st r : Step} → r ≡ field w 0 s st → ReadsTo (number o w any_number (λ _. empty)) s st r
unfolding verdict passes pick
free_of {o} {w} {s} {st} e = record { is = e ∙ tested o w any_number s st }

step_switch : (o : Order) (w : ℕ) (test : Test) (k : ℕ → Layout) (s : List ℕ) (at : ℕ)
    → step (number o w test k) s at ≡ chain (step (number o w test (λ _. empty)) s at) (step (k (peek o w s (Ok at))) s)
unfolding step read bind read_number peek pick chain
step_switch o w test k s at = go (leb w (length (drop at s)))
  where
    v : ℕ
    v = undigits o (take w (drop at s))

    judge : (c : Bool)
        → forget {A = Tree (number o w test k)}
        (pick c (bind (read (k v) (drop w (drop at s)) (at + w)) (λ t s₂ at₂. got (v, t) s₂ at₂)) (no (refusal test v) at))
        ≡ chain (forget {A = Tree (number o w test (λ _. empty))} (pick c (got (v, tt) (drop w (drop at s)) (at + w)) (no (refusal test v) at)))
        (λ p. forget (read (k v) (drop p s) p))
    judge true = forget_map _ (read (k v) (drop w (drop at s)) (at + w)) ∙ rw drop-drop
    judge false = refl

    go : (b : Bool)
        → forget {A = Tree (number o w test k)} (bind (pick b (got v (drop w (drop at s)) (at + w)) (no too_short at))
        (λ n s₁ at₁. pick (passes test n) (bind (read (k n) s₁ at₁) (λ t s₂ at₂. got (n, t) s₂ at₂)) (no (refusal test n) at)))
        ≡ chain (forget {A = Tree (number o w test (λ _. empty))} (bind (pick b (got v (drop w (drop at s)) (at + w)) (no too_short at))
        (λ n s₁ at₁. pick (passes test n) (got (n, tt) s₁ at₁) (no (refusal test n) at))))
        (λ p. forget (read (k (number_of (pick b (got v (drop w (drop at s)) (at + w)) (no too_short at)))) (drop p s) p))
    go true = judge (passes test v)
    go false = refl

switch : (o : Order) (w : ℕ) (test : Test) (k : ℕ → Layout) (s : List ℕ) (st : Step)
    → chain (chain st (step (number o w test (λ _. empty)) s)) (step (k (peek o w s st)) s) ≡ chain st (step (number o w test k) s)
unfolding chain
switch o w test k s (Ok at) = sym (step_switch o w test k s at)
switch o w test k s (Err (n, p)) = refl

-- a number, and then what it asks for
pub switch_of : {o : Order} {w : ℕ} {test : Test} {k : ℕ → Layout} {s : List ℕ} {st q r : Step} {v : ℕ}
    → ReadsTo (k v) s q r → v ≡ peek o w s st → ReadsTo (number o w test (λ _. empty)) s st q → ReadsTo (number o w test k) s st r
switch_of {o} {w} {test} {k} {s} {st} e f g = record { is = e.is ∙ rw (f, g.is) (switch o w test k s st) }

-- an arm of a `match` on the number
pub switch_key : {o : Order} {w : ℕ} {test : Test} {k : ℕ → Layout} {s : List ℕ} {st q r : Step} {v n : ℕ}
    → v ≡ n → ReadsTo (k n) s q r → v ≡ peek o w s st → ReadsTo (number o w test (λ _. empty)) s st q → ReadsTo (number o w test k) s st r
switch_key {k = k} e h f g = switch_of {k = k} (rw e h) f g

-- an arm of a test on the number
pub yes_of : {x : Layout} {s : List ℕ} {st r : Step} (b : Bool) (y : Layout) → b ≡ true → ReadsTo x s st r → ReadsTo (pick b x y) s st r
unfolding pick
yes_of b y e h = rw e h

pub no_of : {y : Layout} {s : List ℕ} {st r : Step} (b : Bool) (x : Layout) → b ≡ false → ReadsTo y s st r → ReadsTo (pick b x y) s st r
unfolding pick
no_of b x e h = rw e h

-- ---- an arm for each first byte

verdict_passed : (test : Test) (v : ℕ) → passes test v ≡ true → 0 ≡ verdict test v
unfolding verdict pick
verdict_passed test v e = rw e

verdict_broken : (test : Test) (v : ℕ) → passes test v ≡ false → refusal test v ≡ verdict test v
unfolding verdict pick
verdict_broken test v e = rw e

-- a number of any value, as a field with no refusal
free_field : {o : Order} {w : ℕ} {s : List ℕ} {st q : Step} → ReadsTo (number o w any_number (λ _. empty)) s st q → q ≡ field w 0 s st
unfolding verdict passes pick
free_field {o} {w} {s} {st} e = e.is ∙ sym (tested o w any_number s st)

-- the number is n, which passes
pub arm_of : {o : Order} {w : ℕ} {test : Test} {k : ℕ → Layout} {s : List ℕ} {st q r : Step} {v n : ℕ}
    → v ≡ n → passes test n ≡ true → ReadsTo (k n) s q r → v ≡ peek o w s st → ReadsTo (number o w any_number (λ _. empty)) s st q
    → ReadsTo (number o w test k) s st r
arm_of {test = test} {k = k} {v = v} e t h f g =
    switch_key {k = k} e h f (tested_of (free_field g) (verdict_passed test v (rw e t)) f)

pub broken_refuses : (w c : ℕ) (s : List ℕ) (st : Step) → eqb c 0 ≡ false → Refuses (field w c s st)
unfolding field pick
broken_refuses w c s (Ok at) e = go (read_number little w (drop at s) at)
  where
    go : (x : Got ℕ) → Refuses (judged c at x)
    go (got n r p) = rw e refuses
    go (no r p) = refuses
broken_refuses w c s (Err (r, p)) e = refuses

refused_keeps : {g : Layout} {s : List ℕ} {st : Step} → Refuses st → ReadsTo g s st st
refused_keeps refuses = kept refl

-- the number is none that passes
pub other_of : {o : Order} {w : ℕ} {test : Test} {k : ℕ → Layout} {s : List ℕ} {st r : Step} {v : ℕ}
    → passes test v ≡ false → v ≡ peek o w s st → r ≡ field w (refusal test v) s st → ReadsTo (number o w test k) s st r
other_of {o} {w} {test} {k} {s} {st} {r} {v} t f g =
    let n : Refuses r = rw g (broken_refuses w (refusal test v) s st (broken test v t)) in
    switch_of {k = k} {v = v} (refused_keeps n) f (tested_of g (verdict_broken test v t) f)

-- the last arm of a `match`: x is none of the numbers. `None` is the type of the arm's `.rest`
abbrev pub None : Type 0 → List ℕ → ℕ → Type 0
None T [] x = T
None T (k ∷ ks) x = None (T × (x ≡ k → ⊥)) ks x

none_first : {T : Type 0} (ks : List ℕ) (x : ℕ) → None T ks x → T
none_first [] x t = t
none_first (k ∷ ks) x t = (none_first ks x t).0

pub among_none : (T : Type 0) (ks : List ℕ) (x : ℕ) → None T ks x → among x ks ≡ false
unfolding among
among_none T [] x t = refl
among_none T (k ∷ ks) x t = rw (ne_eqb x k (none_first ks x t).1) (among_none (T × (x ≡ k → ⊥)) ks x t)
